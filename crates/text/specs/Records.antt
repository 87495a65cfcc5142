-- Auxiliary: the lines of records as their bytes have them. For the bytes of a list `records_text` is the text of the list's lines, those of
-- listing's specs/Listing.antt, by the law `lines_read` (listing, proofs/Lines.antt).
use Rattle.std.specs.Prelude.{ℕ, zero, suc, ◌+◌, ◌*◌, List, [], ◌∷◌, ◌++◌}
use Rattle.cells.specs.Cells.{cell_at}
use Rattle.text.specs.Text.{numbers_line}

-- n cells from cell k on
unfoldable pub cells_from : List ℕ → ℕ → ℕ → List ℕ
cells_from bs k zero = []
cells_from bs k (suc n) = cell_at bs k ∷ cells_from bs (k + 1) n

-- the line of n cells from cell k on
abbrev pub cells_line : List ℕ → ℕ → ℕ → List ℕ
cells_line bs k n = numbers_line (cells_from bs k n)

-- the lines of the first n records, one behind the other
unfoldable pub records_text : List ℕ → ℕ → List ℕ
records_text bs zero = []
records_text bs (suc n) = records_text bs n ++ cells_line bs (n * 8) 8

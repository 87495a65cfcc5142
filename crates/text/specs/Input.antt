-- Believed: the parts of the listing program's input (docs/FORMAT.md, "The listing program").
use Rattle.std.specs.Prelude.{ℕ, ◌+◌, ◌*◌, List, cond, ltb, length, take, drop, Result, Ok, Err}
use Rattle.cells.specs.Cells.{cells, cell_at}
use Rattle.text.specs.declared.input.InputError.{InputError}

-- the first cell counts the table cells; with its own it may count all whole cells of the input
unfoldable pub split_of : List ℕ → Result ℕ InputError
split_of s =
    cond (ltb 65536 (length s)) (Err InputError.TooLong) (cond (ltb 0 (cells s))
    (cond (ltb (cell_at s 0) (cells s)) (Ok (cell_at s 0)) (Err InputError.NoTables)) (Err InputError.NoTables))

-- the n cells behind the first
abbrev pub tables_part : List ℕ → ℕ → List ℕ
tables_part s n = take (8 * n) (drop 8 s)

-- the bytes behind the tables, a torn last cell among them
abbrev pub sheet_part : List ℕ → ℕ → List ℕ
sheet_part s n = drop (8 + 8 * n) s

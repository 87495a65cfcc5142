-- Believed: a pack (docs/FORMAT.md, "Packs"): a sheet count from 1 to 256, then for each sheet a pair of offset and length in cells, then the sheets. The first offset follows
-- the last pair, each next one the sheet before, and the last sheet ends the file. Refusal 13 has the first wrong cell in reading order.
use Rattle.std.specs.Prelude.{ℕ, zero, suc, ◌+◌, ◌*◌, ◌≡◌, List, [], ◌∷◌, cond, take, drop, ltb, Result, Ok, Err}
use Rattle.cells.specs.Cells.{cells, cell_at, largest, read_within, bind_cell}
use Rattle.cells.specs.declared.Cursor.{Cursor}
use Rattle.cells.specs.Refusals.{no_entry}
use Rattle.layout.specs.Limits.{most_sheets}
use Rattle.cells.specs.declared.refusals.Refusal.{Refusal}
use Rattle.cells.specs.declared.refusals.Refused.{Refused}
use Rattle.layout.specs.Layout.{Checked, Limited, bind_limited, refuse, cursor, end_check}
use Rattle.x86.specs.declared.enums.Instruction.{Instruction}
use Rattle.pack.specs.declared.Pair.{Pair}
use Rattle.codegen.specs.Generation.{Outcome, accepted, refused, ◌>>=◌, checked, lowered}

-- ---- the layout: refusal 13

-- a cell from low to high; any other is refused by 13
abbrev pub read_in : List ℕ → Cursor → ℕ → ℕ → Limited
read_in p c low high = bind_cell (refuse Refusal.BadPack) (read_within p c low high) (λ v next. Ok (v, next))

-- a pair at the cursor, whose sheet must stand at cell `from`: the offset is exactly that cell; the length is not negative and, with the offset, not above the
-- count of whole cells; the cell behind the sheet, and the cursor of the next pair
unfoldable pub pair_check : List ℕ → ℕ → Cursor → Result (ℕ × Cursor) Refused
pair_check p from c =
    bind_cell (refuse Refusal.BadPack) (read_within p c from from) (λ offset c1.
    bind_cell (refuse Refusal.BadPack) (read_within p c1 0 largest) (λ size c2.
    cond (ltb (cells p) (from + size)) (refuse Refusal.BadPack c1.at) (Ok (from + size, c2))))

-- n pairs from the cursor on, whose first sheet stands at cell `from`; behind the last sheet nothing is left
unfoldable pub pairs_check : List ℕ → ℕ → ℕ → Cursor → Checked
pairs_check p zero from c = end_check Refusal.BadPack p (cursor from)
pairs_check p (suc n) from c = bind_limited Err (pair_check p from c) (λ behind next. pairs_check p n behind next)

-- the first sheet stands behind the count and the pairs
abbrev pub sheets_from : ℕ → ℕ
sheets_from count = 1 + 2 * count

unfoldable pub pack_check : List ℕ → Checked
pack_check p = bind_cell (refuse Refusal.BadPack) (read_within p (cursor 0) 1 most_sheets) (λ count next. pairs_check p count (sheets_from count) next)

-- the layout is right
pub record Checks (p : List ℕ) : Type 0 where
  pub end : Cursor
  pub is : pack_check p ≡ Ok end

-- ---- what the cells of a pack mean, where its layout is right

abbrev pub sheet_count : List ℕ → ℕ
sheet_count p = cell_at p 0

-- the pair of sheet k, from 0: where it stands, and how many cells it has
abbrev pub offset_at : List ℕ → ℕ → ℕ
offset_at p k = cell_at p (1 + 2 * k)

abbrev pub length_at : List ℕ → ℕ → ℕ
length_at p k = cell_at p (2 + 2 * k)

abbrev pub pair_at : List ℕ → ℕ → Pair
pair_at p k = record { offset = offset_at p k; length = length_at p k }

-- the part of the pack at a pair's offset and length
unfoldable pub part_at : List ℕ → Pair → List ℕ
part_at p pair = take (pair.length * 8) (drop (pair.offset * 8) p)

-- the address n bytes behind an address: a block of memory, and a place in it
abbrev pub moved : (ℕ × ℕ) → ℕ → (ℕ × ℕ)
moved at n = (at.0, n + at.1)

-- the bytes of sheet k
abbrev pub sheet_at : List ℕ → ℕ → List ℕ
sheet_at p k = part_at p (pair_at p k)

-- n sheets, the first of them of number k
unfoldable pub sheets_at : List ℕ → ℕ → ℕ → List (List ℕ)
sheets_at p zero k = []
sheets_at p (suc n) k = sheet_at p k ∷ sheets_at p n (suc k)

-- all sheets of a pack, from the first to the last
abbrev pub sheets_of : List ℕ → List (List ℕ)
sheets_of p = sheets_at p (sheet_count p) 0

-- ---- the look-up of a sheet by its number, from 0

-- what follows a pack whose layout is right; 13 comes before all others
abbrev pub packed : {A : Type 0} → List ℕ → Outcome A → Outcome A
packed p rest = checked (pack_check p) (λ u. rest)

-- the sheet's pair; a number that is not below the count is refused by 5, place 0
unfoldable pub find_pair : List ℕ → ℕ → Outcome Pair
find_pair p k = packed p (cond (ltb k (sheet_count p)) (accepted (pair_at p k)) (refused no_entry 0))

-- the sheet's own bytes in the pack
unfoldable pub look_up : List ℕ → ℕ → Outcome (List ℕ)
look_up p k = find_pair p k >>= λ pair. accepted (part_at p pair)

-- the part of the pack that a look-up hands back: an empty one where it is refused
abbrev pub part_of : Outcome (List ℕ) → List ℕ
part_of (accepted s) = s
part_of (refused n place) = []

-- and where it starts, in bytes from the start of the pack: the sheet's own place in the pack
abbrev pub start_of : Outcome Pair → ℕ
start_of (accepted pair) = pair.offset * 8
start_of (refused n place) = 0

-- its bytes
abbrev pub size_of : Outcome Pair → ℕ
size_of (accepted pair) = pair.length * 8
size_of (refused n place) = 0

-- the answer to the lowering of sheet k of a pack, with its tables beside it and m record bytes: 13, then 5, then the lowering's own refusals
unfoldable pub lowered_in : List ℕ → List ℕ → ℕ → ℕ → Outcome (List Instruction)
lowered_in tables p k m = look_up p k >>= λ sheet. lowered tables sheet m

-- Packs and what is wrong with them, by computation.
use Prim.Native.Nat.{ℕ, ◌^◌, ◌-◌}
use mathlib.Core.Path.{◌≡◌, refl}
use mathlib.Core.List.{List, [], ◌∷◌, ◌++◌, map}
use Rattle.cells.specs.Cells.{bytes_of, word, half, minus, largest, read_cell, read_within}
use Rattle.cells.specs.Refusals.{no_entry}
use Rattle.std.specs.Prelude.{Ok}
use Rattle.cells.specs.declared.refusals.Refusal.{Refusal}
use Rattle.layout.specs.Layout.{Checked, refuse}
use Rattle.layout.specs.Layout.{cursor, end_check}
use Rattle.codegen.specs.Generation.{Outcome, accepted, refused}
use Rattle.pack.specs.Pack.{pair_check, pairs_check, pack_check, part_at, find_pair, look_up}

abbrev from_cells : List ℕ → List ℕ
from_cells [] = []
from_cells (c ∷ cs) = bytes_of c ++ from_cells cs

bad : ℕ → Checked
bad k = refuse Refusal.BadPack k

good : ℕ → Checked
good k = Ok (cursor k)

-- what a pack's check says of each
packs : List (List ℕ)
packs =
    [] ∷ (1 ∷ 2 ∷ 3 ∷ []) ∷ from_cells (0 ∷ []) ∷ from_cells (257 ∷ []) ∷ from_cells (minus 1 ∷ [])
    ∷ from_cells (1 ∷ []) ∷ from_cells (1 ∷ 3 ∷ []) ∷ from_cells (1 ∷ 3 ∷ 0 ∷ []) ∷ from_cells (1 ∷ 4 ∷ 0 ∷ []) ∷ from_cells (1 ∷ 4 ∷ minus 1 ∷ [])
    ∷ from_cells (1 ∷ 3 ∷ minus 1 ∷ []) ∷ from_cells (1 ∷ 3 ∷ largest ∷ []) ∷ from_cells (1 ∷ 3 ∷ 1 ∷ []) ∷ from_cells (1 ∷ 3 ∷ 1 ∷ 7 ∷ [])
    ∷ from_cells (1 ∷ 3 ∷ 1 ∷ 7 ∷ 7 ∷ 7 ∷ []) ∷ (from_cells (1 ∷ 3 ∷ 0 ∷ []) ++ 0 ∷ []) ∷ (from_cells (1 ∷ 3 ∷ 1 ∷ []) ++ 0 ∷ [])
    ∷ from_cells (2 ∷ 5 ∷ 0 ∷ []) ∷ from_cells (2 ∷ 5 ∷ 0 ∷ 5 ∷ 0 ∷ []) ∷ from_cells (2 ∷ 5 ∷ 1 ∷ 6 ∷ 1 ∷ 7 ∷ 8 ∷ []) ∷ from_cells (2 ∷ 5 ∷ 1 ∷ 7 ∷ 1 ∷ 7 ∷ 8 ∷ 9 ∷ [])
    ∷ from_cells (2 ∷ 6 ∷ 1 ∷ 5 ∷ 1 ∷ 7 ∷ 8 ∷ []) ∷ from_cells (2 ∷ 5 ∷ 2 ∷ 6 ∷ 1 ∷ 7 ∷ 8 ∷ []) ∷ []

checks : List Checked
checks =
    bad 0 ∷ bad 0 ∷ bad 0 ∷ bad 0 ∷ bad 0
    ∷ bad 1 ∷ bad 2 ∷ good 3 ∷ bad 1 ∷ bad 1
    ∷ bad 2 ∷ bad 2 ∷ bad 2 ∷ good 4
    ∷ bad 4 ∷ bad 3 ∷ bad 2
    ∷ bad 2 ∷ good 5 ∷ good 7 ∷ bad 3
    ∷ bad 1 ∷ bad 3 ∷ []

checked_right : map pack_check packs ≡ checks
unfolding bytes_of word half read_cell read_within end_check pair_check pairs_check pack_check packs checks good bad
checked_right = refl

-- what a look-up hands back: 13 before 5, and a sheet's own bytes
two : List ℕ
two = from_cells (2 ∷ 5 ∷ 0 ∷ 5 ∷ 1 ∷ 7 ∷ [])

answers : List (Outcome (List ℕ))
answers = look_up two 0 ∷ look_up two 1 ∷ look_up two 2 ∷ look_up two (2 ^ 64 - 1) ∷ look_up (from_cells (2 ∷ 5 ∷ [])) 2 ∷ []

looked_right : answers ≡ accepted [] ∷ accepted (bytes_of 7) ∷ refused no_entry 0 ∷ refused no_entry 0 ∷ refused 13 2 ∷ []
unfolding bytes_of word half read_cell read_within end_check pair_check pairs_check pack_check part_at find_pair look_up two answers
looked_right = refl

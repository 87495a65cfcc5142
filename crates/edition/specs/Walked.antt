-- Auxiliary: what a walk over a sheet asks of it. `sheet_in` (layout/specs/Layout.antt) and `stray_in` give it, by `laid_present` and `entered_all` (proofs/Written.antt).
use Rattle.std.specs.Prelude.{ℕ, zero, suc, ◌<◌, ◌≤◌, List, [], ◌∷◌}
use Rattle.cells.specs.Cells.{cells, cell_at}
use Rattle.ir.specs.Function.{behind}

-- each of these ids has an entry
abbrev pub Entered : List ℕ → List ℕ → Type 0
Entered s [] = Unit {0}
Entered s (k ∷ ks) = (cell_at s k < cell_at s 0) × Entered s ks

-- n instructions from cell k on are there
unfoldable pub Present : List ℕ → ℕ → ℕ → Type 0
Present s zero k = Unit {0}
Present s (suc n) k = (behind s k ≤ cells s) × Present s n (behind s k)

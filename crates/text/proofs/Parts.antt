-- The parts of an input lie in it.
use Prim.Native.Nat.{ℕ, ◌+◌, ◌*◌, ◌≤◌, ◌<◌}
use mathlib.Core.Path.{◌≡◌}
use mathlib.Core.List.{List}
use mathlib.Core.Bool.{Bool, true, false, cond}
use native.Mathlib.Omega.{arith}
use lib.Dec.{ltb}
use lib.ListN.{length}
use borrow.Author.Tests.{ltb-true}
use Rattle.cells.specs.Cells.{cells, cell_at}
use Rattle.std.specs.Prelude.{Ok, Err}
use Rattle.text.specs.declared.input.InputError.{InputError}
use Rattle.text.specs.Input.{split_of}

-- the one way to tables
chosen : (a b c : Bool) (m n : ℕ) →
    cond a (Err InputError.TooLong) (cond b (cond c (Ok m) (Err InputError.NoTables)) (Err InputError.NoTables)) ≡ Ok n → (c ≡ true) × (m ≡ n)
chosen true b c m n e =
    let z : ◌≡◌ {A = ℕ} 0 1 = cc in
    absurd (omega arith)
chosen false false c m n e =
    let z : ◌≡◌ {A = ℕ} 0 1 = cc in
    absurd (omega arith)
chosen false true false m n e =
    let z : ◌≡◌ {A = ℕ} 0 1 = cc in
    absurd (omega arith)
chosen false true true m n e = (cc, cc)

pub parts_fit : (s : List ℕ) (n : ℕ) → split_of s ≡ Ok n → 8 + 8 * n ≤ length s
unfolding split_of
parts_fit s n e =
    let g = chosen (ltb 65536 (length s)) (ltb 0 (cells s)) (ltb (cell_at s 0) (cells s)) (cell_at s 0) n e in
    let h : cell_at s 0 < cells s = ltb-true _ _ g.0 in
    omega (arith, g.1)

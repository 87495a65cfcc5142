-- The lists of a sheet: how long they are, and what stands in them.
use Prim.Native.Nat.{ℕ, zero, suc, ◌+◌, ◌*◌, ◌-◌, ◌≤◌, ◌<◌}
use mathlib.Core.Path.{◌≡◌, refl, ap, ◌∙◌}
use mathlib.Core.List.{List, ◌∷◌}
use native.Mathlib.Omega.{arith}
use native.Mathlib.Nat.{mul-suc}
use borrow.Author.Tests.{ne_eqb}
use Rattle.cells.specs.Cells.{cell_at}
use lib.ListN.{length, get_or}
use Rattle.ir.specs.declared.«Type».{«Type» as IrType}
use Rattle.ir.specs.Function.{type_at, types_at, vars_at, operands_at, line_at, lines_at, arguments_at, behind}

pub types_length : (s : List ℕ) (n k : ℕ) → length (types_at s n k) ≡ n
unfolding types_at
types_length s zero k = refl
types_length s (suc n) k = ap suc (types_length s n (k + 2))

pub vars_length : (s : List ℕ) (n k : ℕ) → length (vars_at s n k) ≡ n
unfolding vars_at
vars_length s zero k = refl
vars_length s (suc n) k = ap suc (vars_length s n (k + 3))

pub operands_length : (s : List ℕ) (n k : ℕ) → length (operands_at s n k) ≡ n
unfolding operands_at
operands_length s zero k = refl
operands_length s (suc n) k = ap suc (operands_length s n (k + 4))

pub type_there : (s : List ℕ) (n k i : ℕ) (o : IrType) → i < n → get_or (types_at s n k) i o ≡ type_at s (k + 2 * i)
unfolding types_at
type_there s zero k i o h = absurd (omega arith)
type_there s (suc n) k zero o h = let l : k ≡ k + 2 * 0 = omega arith in ap (λ (m : ℕ). type_at s m) l
type_there s (suc n) k (suc i) o h =
    let l : k + 2 + 2 * i ≡ k + 2 * suc i = omega (arith, mul-suc 2 i) in
    type_there s n (k + 2) i o (omega arith) ∙ ap (λ (m : ℕ). type_at s m) l

pub lines_length : (s : List ℕ) (n k : ℕ) → length (lines_at s n k) ≡ n
unfolding lines_at
lines_length s zero k = refl
lines_length s (suc n) k = ap suc (lines_length s n (behind s k))

pub lines_more : (s : List ℕ) (n k : ℕ) → 0 < n → lines_at s n k ≡ (line_at s k ∷ lines_at s (n - 1) (behind s k))
unfolding lines_at
lines_more s zero k h = absurd (omega arith)
lines_more s (suc n) k h = let l : n ≡ suc n - 1 = omega arith in ap (λ (m : ℕ). line_at s k ∷ lines_at s m (behind s k)) l

-- ---- the cell behind an instruction

pub behind_least : (s : List ℕ) (k : ℕ) → k + 13 ≤ behind s k
unfolding behind
behind_least s k = omega arith

pub behind_call : (s : List ℕ) (k : ℕ) → cell_at s k ≡ 5 → behind s k ≡ k + 13 + 4 * cell_at s (k + 6)
unfolding behind arguments_at
behind_call s k e = rw e

pub behind_other : (s : List ℕ) (k : ℕ) → (cell_at s k ≡ 5 → ⊥) → behind s k ≡ k + 13
unfolding behind arguments_at
behind_other s k h = rw (ne_eqb (cell_at s k) 5 h) (omega arith)

-- The registers of parameters, by their rank.
use Prim.Native.Nat.{ℕ, zero, suc, ◌+◌, ◌<◌}
use mathlib.Core.Path.{◌≡◌, refl}
use mathlib.Core.Bool.{Bool, true, false}
use mathlib.Core.List.{List, [], ◌∷◌}
use native.Mathlib.Omega.{arith}
use borrow.Author.Tests.{eqb-true, eqb-false}
use lib.Dec.{eqb}
use lib.ListN.{get_or}
use Rattle.x86.specs.declared.register.Register.{Register}
use Rattle.x86.specs.Registers.{gpr, xmm, RAX}
use Rattle.codegen.specs.Instructions.{param_regs, param_fregs}

-- n XMM registers from number m on
abbrev xmms : ℕ → ℕ → List Register
xmms m zero = []
xmms m (suc n) = xmm m ∷ xmms (suc m) n

counted : (m n k : ℕ) → k < n → xmm (m + k) ≡ get_or (xmms m n) k RAX
counted m zero k h = absurd (omega arith)
counted m (suc n) zero h = let e : m + 0 ≡ m = omega arith in rw e
counted m (suc n) (suc k) h = let e : m + suc k ≡ suc m + k = omega arith in rw e (counted (suc m) n k (omega arith))

pub float_register : (k : ℕ) → k < 8 → xmm k ≡ get_or param_fregs k RAX
float_register k h = let e : 0 + k ≡ k = omega arith in rw e at (counted 0 8 k h)

-- behind RDI, RSI, RDX and RCX
pub word_register : (k : ℕ) → k < 6 → (k ≡ 0 → ⊥) → (k ≡ 1 → ⊥) → (k ≡ 2 → ⊥) → (k ≡ 3 → ⊥) → gpr (k + 4) ≡ get_or param_regs k RAX
word_register k h a b c d = go (eqb k 4) refl
  where
    go : (t : Bool) → eqb k 4 ≡ t → gpr (k + 4) ≡ get_or param_regs k RAX
    go true e = rw (eqb-true k 4 e)
    go false e = let n = eqb-false k 4 e in let five : k ≡ 5 = omega arith in rw five

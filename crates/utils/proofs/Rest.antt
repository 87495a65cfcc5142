-- What the `else` of a pattern and the `_` of a match leave.
use Prim.Native.Nat.{ℕ, ◌-◌, ◌/◌, ◌≤◌}
use mathlib.Core.Path.{◌≡◌, refl}
use mathlib.Core.Bool.{Bool, false, true, cond}
use mathlib.Core.List.{[], ◌∷◌}
use lib.Dec.{ltb}
use native.Mathlib.Omega.{arith}
use borrow.Author.Tests.{ne_eqb, le-ltb}
use denote.Enum.Declared.{tag_of}
use types.Run.{OneOf, miss}
use Rattle.cells.specs.Refusals.{no_entry, odd_width}
use Rattle.ir.specs.Types.{ok, refused, ◌>>=◌}
use Rattle.x86.specs.contracts.enums.Operand as elf_operand
use Rattle.x86.specs.declared.enums.Operand.{Operand}
use Rattle.codegen.specs.Context.{Context, float_at, float_short}
use Rattle.codegen.specs.Utils.{size_from, is_constant}

pub odd_width_lem : (n : ℕ) → (n ≡ 1 → ⊥) → (n ≡ 2 → ⊥) → (n ≡ 4 → ⊥) → (n ≡ 8 → ⊥) → refused odd_width ≡ size_from n
unfolding size_from
odd_width_lem n h1 h2 h4 h8 = rw (ne_eqb n 1 h1, ne_eqb n 2 h2, ne_eqb n 4 h4, ne_eqb n 8 h8)

pub not_constant : (x : Operand) → OneOf (0 ∷ 1 ∷ 3 ∷ 4 ∷ 5 ∷ []) (tag_of elf_operand.the_type x) → false ≡ is_constant x
not_constant Operand.NoOperand h = refl
not_constant (Operand.Reg r) h = refl
not_constant (Operand.Imm n) h = absurd (miss (0 ∷ 1 ∷ 3 ∷ 4 ∷ 5 ∷ []) 2 tt h)
not_constant (Operand.Sym n) h = refl
not_constant (Operand.Label n) h = refl
not_constant (Operand.MemoryAddress a) h = refl

pub no_floats : (id len : ℕ) → len / 8 ≤ 0 → ltb id (len / 8 - 1) ≡ false
no_floats id len h = le-ltb id (len / 8 - 1) (omega arith)

-- a float constant is looked up for its place as for its size
pub float_place : (ctx : Context) (k : ℕ) → float_at ctx k ≡ (float_short ctx k >>= λ short. ok k)
unfolding float_at float_short
float_place ctx k = go (ltb k ctx.tables.floats)
  where
    go : (b : Bool) → cond b (ok k) (refused no_entry) ≡ (cond b (ok (ctx.tables.short k)) (refused no_entry) >>= λ short. ok k)
    go true = refl
    go false = refl

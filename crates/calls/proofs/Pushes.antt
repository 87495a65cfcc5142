-- The loops over the arguments that are in excess: how many there are, and their records.
use Prim.Native.Nat.{ℕ, suc, ◌+◌, ◌*◌, ◌-◌, ◌≤◌, ◌<◌}
use mathlib.Core.Path.{◌≡◌, refl, sym, ap, ◌∙◌}
use mathlib.Core.Bool.{Bool}
use mathlib.Core.List.{List, [], ◌∷◌}
use native.Mathlib.Omega.{arith}
use lib.ListN.{length}
use Rattle.ir.specs.declared.Operand.{Operand as IrOp}
use Rattle.ir.specs.Types.{Result, ok, refused, ◌>>=◌}
use Rattle.ir.specs.Function.{operand_at, operands_at}
use Rattle.ir.proofs.Sheet.{operands_length}
use Rattle.x86.specs.declared.enums.Size.{Size}
use Rattle.x86.specs.declared.enums.Instruction.{Instruction}
use Rattle.x86.specs.Registers.{RAX}
use Rattle.codegen.specs.Context.{Context}
use Rattle.codegen.specs.Utils.{load_operand}
use Rattle.codegen.specs.Instructions.{floating, excess, push_arguments}
use Rattle.codegen.proofs.Results.{Yields, yields, refuses}
use Rattle.std.specs.Prelude.{Ok}
use Rattle.codegen.specs.declared.registers.Taken.{Taken}
use Rattle.utils.specs.Makes.{alone, Makes, then}
use Rattle.codegen.specs.Excess.{taken, behind_one, beyond}
use Rattle.utils.proofs.Rows.{InRow, one_made}
use Rattle.codegen.proofs.Taken.{stack_more, few_fit, count_turn}
use Rattle.utils.proofs.Beyond.{Items, all_left, next_left, none_left, Row}
use Rattle.calls.specs.Calls.{push_of, push_one}

pub operands_placed : (s : List ℕ) → Items (operand_at s) (operands_at s) 4
unfolding operands_at
operands_placed s = record { none = λ cell. refl; more = λ left cell. refl }

-- ---- how many are in excess

-- i of n arguments are counted
pub record Counting (s : List ℕ) (n from i : ℕ) (t : Taken) : Type 0 where
  pub few : t.stack ≤ i
  pub so_many : t.stack + length (beyond floating t (operands_at s (n - i) (from + 4 * i))) ≡ length (excess floating 0 0 (operands_at s n from))

pub few_counted : (s : List ℕ) (n from : ℕ) → n ≤ 6 → 0 ≡ length (excess floating 0 0 (operands_at s n from))
few_counted s n from h = sym (ap length (few_fit floating (operands_at s n from) (omega (arith, operands_length s n from))))

pub none_counted : (s : List ℕ) (n from : ℕ) → Counting s n from 0 (taken 0 0 0)
none_counted s n from = record { few = omega arith; so_many = rw (all_left (operands_placed s) n from) (omega arith) }

module _ {s : List ℕ} {n from i : ℕ} {t : Taken} (g : Counting s n from i t) where
  pub one_counted : i < n → {x : IrOp} {u : Taken} → x ≡ operand_at s (from + 4 * i) → u ≡ behind_one (floating x) t → Counting s n from (i + 1) u
  one_counted h {x} {u} e f =
      rw f (record {
        few = omega (arith, g.few, stack_more (floating x) t);
        so_many = sym (count_turn floating t x (operands_at s (n - (i + 1)) (from + 4 * (i + 1)))) ∙ rw (e, ← next_left (operands_placed s) n from h) g.so_many;
      })

  pub all_counted : n ≤ i → t.stack ≡ length (excess floating 0 0 (operands_at s n from))
  unfolding excess
  all_counted h =
      let z : t.stack + length (beyond floating t []) ≡ length (excess floating 0 0 (operands_at s n from)) = rw (none_left (operands_placed s) n from h) at g.so_many in
      omega (arith, z)

-- ---- the records of each

module _ (ctx : Context) where
  one_more_lem : (j : ℕ) (x : IrOp) (xs : List IrOp) → push_arguments ctx j (x ∷ xs) ≡ then (push_one ctx j x) (push_arguments ctx (suc j) xs)
  unfolding push_arguments push_one
  one_more_lem j x xs = go (load_operand ctx RAX x Size.NoSize) (push_arguments ctx (suc j) xs)
    where
      go : (a : Result Instruction) (r : Result (List Instruction)) → (a >>= λ load. r >>= λ rest. ok (load ∷ push_of j ∷ rest)) ≡ then (then (alone a) (ok (push_of j ∷ []))) r
      go (ok load) (ok rest) = refl
      go (ok load) (refused n) = refl
      go (refused n) r = refl

  two_records : (j : ℕ) (x : IrOp) → Yields (push_one ctx j x) (λ is. length is ≡ 2)
  unfolding push_one
  two_records j x = go (load_operand ctx RAX x Size.NoSize)
    where
      go : (a : Result Instruction) → Yields (then (alone a) (ok (push_of j ∷ []))) (λ is. length is ≡ 2)
      go (ok load) = yields refl
      go (refused n) = refuses n

  no_more : (j : ℕ) → push_arguments ctx j [] ≡ ok []
  unfolding push_arguments
  no_more j = refl

  pub pushing : (s : List ℕ) → Row floating (push_one ctx) (push_arguments ctx) (operand_at s) (operands_at s) 4
  pushing s = record { none = no_more; more = one_more_lem; two = two_records; placed = operands_placed s }

  pub one_load_lem : (x : IrOp) {writes : Bool} {at m : ℕ} {old new : List ℕ} → Makes writes (alone (load_operand ctx RAX x Size.NoSize)) at old new (Ok m)
      → Makes writes (alone (load_operand ctx RAX x Size.NoSize)) at old new (Ok 1)
  one_load_lem x made = one_made (load_operand ctx RAX x Size.NoSize) made

  -- a load, and then its store
  pub load_push : (j : ℕ) (x : IrOp) → InRow (push_one ctx j x) (alone (load_operand ctx RAX x Size.NoSize)) (ok (push_of j ∷ []))
  unfolding push_one
  load_push j x = record { is = refl }

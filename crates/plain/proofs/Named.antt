-- Instructions that have records name no label beyond the function's own, of which there are at most 256.
use Rattle.std.proofs.Common.{◌≡◌, ℕ, zero, suc, ◌-◌, ◌<◌, ◌≤◌, true, ltb, List, [], ◌∷◌, take, drop, refl, arith, ltb-true, lt-ltb}
use Rattle.ir.specs.declared.«Type».{«Type» as IrType}
use Rattle.ir.specs.declared.Operand.{Operand}
use Rattle.ir.specs.declared.Instr.{Instr}
use Rattle.ir.specs.Types.{Result}
use Rattle.ir.specs.Function.{Tables, Function, Line}
use Rattle.x86.specs.declared.enums.Size.{Size}
use Rattle.x86.specs.declared.enums.Instruction.{Instruction}
use Rattle.x86.specs.Registers.{RAX}
use Rattle.codegen.specs.Context.{Context, label_at}
use Rattle.codegen.specs.Utils.{load_operand}
use Rattle.codegen.specs.Instructions.{generate_label, generate_jump, generate_jmp_if_not}
use Rattle.codegen.specs.Generation.{accepted, refused, generate_instr, generate}
use Rattle.codegen.proofs.Results.{Yields, yields, any, bind, weaken, guard}
use Rattle.machine.specs.Plain.{every}
use Rattle.machine.proofs.Accepted.{accepted_list}
use Rattle.machine.proofs.Refused.{refused_at}
use Rattle.plain.specs.Parts.{label_of, are_named}

label_below : (labels l : ℕ) → Yields (label_at labels l) (λ k. l < labels)
unfolding label_at
label_below labels l = guard 5 (ltb l labels) (λ e. yields (ltb-true _ _ e))

no_name : {A : Type 0} (r : Result A) {labels : ℕ} → Yields r (λ b. labels ≤ 256 → 0 < 256)
no_name r = weaken (any r) (λ b t h. omega arith)

instr_named : (ctx : Context) (labels : ℕ) (ret : IrType) (i : Instr) (args : List Operand) →
    Yields (generate_instr ctx labels ret i args) (λ b. labels ≤ 256 → label_of i < 256)
unfolding generate_instr generate_label generate_jump generate_jmp_if_not
instr_named ctx labels ret (Instr.Label l) args = bind (label_below labels l) (λ k p. yields (λ h. omega arith))
instr_named ctx labels ret (Instr.Jump l) args = bind (label_below labels l) (λ k p. yields (λ h. omega arith))
instr_named ctx labels ret (Instr.JumpIfNot x l) args =
    bind (any (load_operand ctx RAX x Size.U8)) (λ load t. bind (label_below labels l) (λ k p. yields (λ h. omega arith)))
instr_named ctx labels ret _ args = no_name _

first_named : (n : ℕ) (is : List Line) → ((k : ℕ) (l : Line) (r : List Line) → k < n → drop k is ≡ l ∷ r → label_of l.instr < 256) → are_named (take n is) ≡ true
unfolding are_named every
first_named zero is f = refl
first_named (suc n) [] f = refl
first_named (suc n) (i ∷ is) f = rw (lt-ltb _ _ (f 0 i is (omega arith) refl)) (first_named n is (λ k l r h e. f (suc k) l r (omega arith) e))

module _ (tables : Tables) (F : Function) (few : F.labels ≤ 256) where
  pub accepted_named : (is : List Instruction) → generate tables F ≡ accepted is → (n : ℕ) → are_named (take n F.body) ≡ true
  accepted_named is e n =
      first_named n F.body (λ k l r h d.
      (instr_named _ F.labels F.ret l.instr l.args).of _ ((accepted_list tables F is e).0.lines k l r d) few)

  -- before the place of a refusal
  pub refused_named : (n place : ℕ) → generate tables F ≡ refused n place → are_named (take (place - 1) F.body) ≡ true
  refused_named n place e =
      first_named (place - 1) F.body (λ k l r h d.
      let (is, q) = (refused_at tables F n place e).lines k l r (omega arith) d in
      (instr_named _ F.labels F.ret l.instr l.args).of is q few)

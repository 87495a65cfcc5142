-- The records of the instruction at a cell, by its kind.
use Prim.Native.Nat.{ℕ, ◌+◌, ◌*◌, ◌≤◌}
use mathlib.Core.Path.{◌≡◌, refl, sym, ap, ◌∙◌}
use mathlib.Core.List.{List, [], ◌∷◌}
use native.Mathlib.Omega.{arith}
use lib.ListN.{get_or}
use Rattle.cells.specs.Cells.{cells, cell_at}
use Rattle.ir.specs.declared.«Type».{«Type» as IrType}
use Rattle.ir.specs.declared.Instr.{Instr}
use Rattle.ir.specs.Types.{Result, ok}
use Rattle.ir.specs.Function.{instr_at, arguments_at, behind, operands_at, copy_at, unary_at, binary_at, cast_at, zero_at, call_at, label_at, jump_at, jump_if_not_at, return_at}
use Rattle.ir.proofs.Sheet.{behind_least}
use Rattle.x86.specs.declared.enums.Instruction.{Instruction}
use Rattle.codegen.specs.Generation.{generate_instr}
use Rattle.codegen.specs.Context.{Context}
use Rattle.body.specs.Body.{line_made}

abbrev kinds : List (List ℕ → ℕ → Instr)
kinds = copy_at ∷ unary_at ∷ binary_at ∷ cast_at ∷ zero_at ∷ call_at ∷ label_at ∷ jump_at ∷ jump_if_not_at ∷ return_at ∷ []

module _ (ctx : Context) (s : List ℕ) (k labels : ℕ) (ret : IrType) where
  -- These are the records of kind n.
  abbrev of_kind : ℕ → Result (List Instruction)
  of_kind n = generate_instr ctx labels ret (get_or kinds n (λ s k. Instr.Comment) s k) (operands_at s (arguments_at s k) (k + 13))

  pub by_kind : {m n : ℕ} → m ≡ cell_at s k → m ≡ n → line_made ctx s k labels ret ≡ of_kind n
  unfolding instr_at
  by_kind e f = ap of_kind (sym e ∙ f)

  -- A kind without a maker has no record.
  pub no_record_lem : {m : ℕ} → m ≡ cell_at s k → Instr.Comment ≡ get_or kinds m (λ s k. Instr.Comment) s k → line_made ctx s k labels ret ≡ ok []
  unfolding generate_instr
  no_record_lem e f = by_kind e refl ∙ rw (← f) refl

-- ---- the cells

module _ (s : List ℕ) (k : ℕ) (h : behind s k ≤ cells s) where
  pub thirteen : k + 13 ≤ cells s
  thirteen = omega (arith, behind_least s k)

module _ (s : List ℕ) (k : ℕ) {m : ℕ} (e : m ≡ cell_at s k) (f : m ≡ 5) where
  -- A call's arguments are as many as its cell says.
  pub arguments : arguments_at s k ≡ cell_at s (k + 6)
  unfolding arguments_at
  arguments = let z : cell_at s k ≡ 5 = sym e ∙ f in rw z

  pub inside : {n : ℕ} → n ≡ cell_at s (k + 6) → behind s k ≤ cells s → k + 13 + 4 * n ≤ cells s
  unfolding behind
  inside l h = omega (arith, arguments)

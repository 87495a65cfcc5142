-- A sheet makes few records, so that the totals of a pack stay in range.
use Prim.Native.Nat.{ℕ, zero, suc, ◌+◌, ◌*◌, ◌-◌, ◌≤◌}
use mathlib.Core.Path.{◌≡◌, refl, sym, ap, ◌∙◌}
use mathlib.Core.Bool.{Bool, true, false, cond}
use mathlib.Core.List.{List, ◌++◌}
use native.Mathlib.Omega.{arith}
use lib.ListN.{length, length-append}
use Rattle.cells.specs.Cells.{cell_at}
use Rattle.ir.specs.declared.«Type».{«Type» as IrType}
use Rattle.ir.specs.Types as types
use Rattle.ir.specs.Types.{Result, ok}
use Rattle.ir.specs.Function.{Tables, arguments_at, operands_at, instr_at, line_at, lines_at, behind, params_from, body_from, tables_of, function_of}
use Rattle.ir.proofs.Sheet.{vars_length, operands_length}
use Rattle.cells.specs.declared.Cursor.{Cursor}
use Rattle.std.specs.Prelude.{Ok, Err}
use Rattle.cells.specs.declared.refusals.Refused.{Refused}
use Rattle.cells.specs.Refusals.{number_of_refusal}
use Rattle.layout.specs.Layout.{Checked}
use Rattle.layout.specs.declared.Edition.{Edition}
use Rattle.layout.specs.Layout.{tables_check, sheet_check}
use Rattle.layout.proofs.Laws.{sheet_right, head_params}
use Rattle.layout.proofs.Walk.{Walk, laid_from, has_few, walk_from, walk_few, walk_next}
use Rattle.x86.specs.declared.enums.Instruction.{Instruction}
use Rattle.codegen.specs.Bounds.{most_records, most_in_body, most_in_prologue}
use Rattle.codegen.specs.Context.{Context, context_of}
use Rattle.codegen.specs.Instructions.{func_epilogue}
use Rattle.codegen.specs.Frame.{var_offsets, frame, func_prologue}
use Rattle.codegen.specs.Generation.{Outcome, accepted, at, checked, generate_instruction, generate_body, ends_in_ret, with_epilogue, generate, compiled}
use Rattle.codegen.proofs.Shapes.{instr_part, prologue_few}
use Rattle.machine.proofs.Accepted.{never, taken, split}

-- the prologue, the body and an epilogue: 553,492
abbrev pub most_in_sheet : ℕ
most_in_sheet = most_in_prologue 256 + most_in_body + 3

at_accepted : {A : Type 0} (p : ℕ) (r : Result A) {a : A} → at p r ≡ accepted a → r ≡ ok a
at_accepted p (ok b) e = ap ok (taken e)
at_accepted p (types.refused n) e = absurd (never e)

module _ (s : List ℕ) (ctx : Context) (labels : ℕ) (ret : IrType) where
  body_few : (n k i : ℕ) {is : List Instruction} → Walk s n k → generate_body ctx labels ret i (lines_at s n k) ≡ accepted is → length is ≤ most_records 64 * n
  unfolding generate_body lines_at
  body_few zero k i w e = let z = ap length (sym (taken e)) in omega arith
  body_few (suc n) k i {is} w e =
      let a = split (at i (generate_instruction ctx labels ret (line_at s k))) _ is e in
      let b = split (generate_body ctx labels ret (suc i) (lines_at s n (behind s k))) _ is a.2 in
      let l : length a.0 ≤ most_records (length (operands_at s (arguments_at s k) (k + 13))) =
      ((instr_part ctx labels ret (instr_at s k) (operands_at s (arguments_at s k) (k + 13))).of a.0 (at_accepted i (generate_instruction ctx labels ret (line_at s k)) a.1)).few in
      let m : Walk s n (behind s k) = next w in
      let r = body_few n (behind s k) (suc i) m b.1 in
      let t : length is ≡ length a.0 + length b.0 = ap length (sym (taken b.2)) ∙ length-append a.0 b.0 in
      omega (arith, operands_length s (arguments_at s k) (k + 13), walk_few (suc n) k w (omega arith))
    where
      next : Walk s (suc n) k → Walk s n (behind s k)
      next w = let l : suc n - 1 ≡ n = omega arith in rw l at (walk_next (suc n) k w (omega arith))

-- behind a check that is passed
passed : {A : Type 0} (x : Checked) (f : Unit {0} → Outcome A) {a : A} → checked x f ≡ accepted a → (d : Cursor) × (x ≡ Ok d) × (f tt ≡ accepted a)
passed (Ok d) f e = (d, refl, e)
passed (Err r) f e = absurd (never e)

ended_few : (is : List Instruction) → length (with_epilogue is) ≤ length is + 3
unfolding with_epilogue
ended_few is = go (ends_in_ret is)
  where
    go : (b : Bool) → length (cond b is (is ++ func_epilogue)) ≤ length is + 3
    go true = omega arith
    go false = omega (arith, length-append is func_epilogue)

generated_few : (tables : Tables) (s : List ℕ) {is : List Instruction} {d : Cursor} → sheet_check s ≡ Ok d → generate tables (function_of s) ≡ accepted is → length is ≤ most_in_sheet
unfolding generate function_of
generated_few tables s {is} laid e =
    let F = function_of s in
    let o = split (at 0 (var_offsets F.vars)) _ is e in
    let c : Context = context_of tables o.0 in
    let p = split (at 0 (func_prologue c (frame F.vars) F.params)) _ is o.2 in
    let b = split (generate_body c F.labels F.ret 1 F.body) _ is p.2 in
    let l = (prologue_few c (frame F.vars) F.params).of p.0 (at_accepted 0 (func_prologue c (frame F.vars) F.params) p.1) in
    let m = body_few s c F.labels F.ret (cell_at s 5) (body_from s) 1 (walk_from (laid_from laid)) b.1 in
    let t : length is ≡ length (with_epilogue (p.0 ++ b.0)) = ap length (sym (taken b.2)) in
    few (length is) (length (with_epilogue (p.0 ++ b.0))) (length p.0) (length b.0) (length (p.0 ++ b.0)) (cell_at s 5) (length F.params) t (ended_few (p.0 ++ b.0)) (length-append p.0 b.0) l m
    (has_few (laid_from laid)) (omega (arith, vars_length s (cell_at s 1) (params_from s), head_params s (sheet_right Edition.First s laid).head))
  where
    few : (n w p b q k v : ℕ) → n ≡ w → w ≤ q + 3 → q ≡ p + b → p ≤ most_in_prologue v → b ≤ most_records 64 * k → k ≤ 4096 → v ≤ 256 → n ≤ most_in_sheet
    few n w p b q k v e f g h i j l = omega arith

pub sheet_few : (tables s : List ℕ) {is : List Instruction} → compiled tables s ≡ accepted is → length is ≤ most_in_sheet
unfolding compiled
sheet_few tables s e =
    let t = passed (tables_check tables) _ e in
    let c = passed (sheet_check s) _ t.2 in
    generated_few (tables_of tables) s c.1 c.2

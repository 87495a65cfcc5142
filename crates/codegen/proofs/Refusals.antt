-- Which numbers are answered: the layout refuses by 1 to 3 (layout/proofs/Refused.antt), the lowering by 4 to 7, a page by 9. 8, registers spent, no longer occurs (M-112).
use Prim.Native.Nat.{ℕ, suc, ◌*◌, ◌≤◌}
use mathlib.Core.Path.{◌≡◌, refl, subst}
use mathlib.Core.Bool.{Bool, true, false, cond, beq}
use mathlib.Core.List.{List, [], ◌∷◌}
use lib.Dec.{ltb, lit≤}
use lib.ListN.{length}
use native.Mathlib.Omega.{arith}
use Rattle.cells.specs.Refusals.{page_full}
use Rattle.std.specs.Prelude.{Ok, Err}
use Rattle.cells.specs.Refusals.{number_of_refusal}
use Rattle.layout.specs.Layout.{Checked}
use Rattle.layout.specs.declared.Edition.{Edition}
use Rattle.layout.specs.Layout.{tables_check, sheet_check}
use Rattle.layout.proofs.Refused.{Off, off_by, tables_off, sheet_off}
use Rattle.ir.specs.declared.«Type».{«Type» as IrType}
use Rattle.ir.specs.declared.VarId.{VarId}
use Rattle.ir.specs.Types.{Result, is_float}
use Rattle.ir.specs.Function.{Function, Line, Tables, tables_of, function_of}
use Rattle.x86.specs.declared.enums.Instruction.{Instruction}
use Rattle.codegen.specs.Context.{Context, context_of}
use Rattle.codegen.specs.Instructions.{excess}
use Rattle.codegen.specs.Frame.{have_widths, var_offsets, frame, registers_of, store_params, copy_params, is_float_param, func_prologue}
use Rattle.codegen.specs.Generation as generation
use Rattle.codegen.specs.Generation.{Outcome, accepted, at, generate_body, generate, checked, compiled, page, lowered}
use Rattle.codegen.proofs.Results.{FourToSeven, Closed, gives, slips, Slips, fine, slip, look, either}
use Rattle.codegen.proofs.Lowers.{var, var_size_lem, lowers}

-- ---- the prologue

module _ (ctx : Context) where
  stores : (f : Bool) (k : ℕ) (ps : List VarId) → Slips (store_params ctx f k ps)
  unfolding store_params
  stores f k [] = fine
  stores f k (p ∷ ps) =
      either (beq (is_float p.ty) f)
      (λ _. either (ltb k (length (registers_of f)))
      (λ _. look (var ctx p) (λ y _. look (var_size_lem p) (λ z _. look (stores f (suc k) ps) (λ l _. fine)))) (λ _. fine)) (λ _. stores f k ps)

  copies : (j : ℕ) (ps : List VarId) → Slips (copy_params ctx j ps)
  unfolding copy_params
  copies j [] = fine
  copies j (p ∷ ps) = look (var_size_lem p) (λ z _. look (var ctx p) (λ y _. look (copies (suc j) ps) (λ l _. fine)))

  prologue : (n : ℕ) (ps : List VarId) → Slips (func_prologue ctx n ps)
  unfolding func_prologue
  prologue n ps = look (stores false 0 ps) (λ a _. look (stores true 0 ps) (λ b _. look (copies 0 (excess is_float_param 0 0 ps)) (λ d _. fine)))

offsets : (vars : List IrType) → Slips (var_offsets vars)
unfolding var_offsets
offsets vars = either (have_widths vars) (λ _. fine) (λ _. slip 4 refl refl)

-- ---- the whole list

-- a refusal is one of 4 to 7, at whatever place
pub record Turned {A : Type 0} (r : Outcome A) : Type 0 where
  pub of : (n p : ℕ) → r ≡ generation.refused n p → FourToSeven n

not_accepted : {A : Type 0} {a : A} {n p : ℕ} → accepted a ≡ generation.refused n p → ⊥
not_accepted e = let z : ◌≡◌ {A = ℕ} 0 1 = cc in omega arith

placed : {A B : Type 0} {P : A → Type 0} {r : Result A} {f : A → Outcome B} (p : ℕ) → Closed P r → ((a : A) → Turned (f a)) → Turned (generation.◌>>=◌ (at p r) f)
placed p (gives h) k = k _
placed p (slips h) k = record { of = λ m q z. subst FourToSeven (let y = z in cc) h }

followed : {A B : Type 0} {r : Outcome A} {f : A → Outcome B} → Turned r → ((a : A) → Turned (f a)) → Turned (generation.◌>>=◌ r f)
followed {A} {B} {r} {f} h k = go r refl
  where
    go : (q : Outcome A) → r ≡ q → Turned (generation.◌>>=◌ q f)
    go (accepted a) e = k a
    go (generation.refused n p) e = record { of = λ m q z. subst FourToSeven (let y = z in cc) (h.of n p e) }

done : {A : Type 0} {a : A} → Turned (accepted a)
done = record { of = λ n p e. absurd (not_accepted e) }

body : (ctx : Context) (labels : ℕ) (ret : IrType) (i : ℕ) (ls : List Line) → Turned (generate_body ctx labels ret i ls)
unfolding generate_body
body ctx labels ret i [] = done
body ctx labels ret i (l ∷ ls) = placed i (lowers ctx labels ret l.instr l.args) (λ a. followed (body ctx labels ret (suc i) ls) (λ b. done))

-- .. behind a layout that is right
pub four_to_seven : (tables : Tables) (F : Function) → Turned (generate tables F)
unfolding generate
four_to_seven tables F =
    placed 0 (offsets F.vars) (λ o. placed 0 (prologue (context_of tables o) (frame F.vars) F.params) (λ p.
    followed (body (context_of tables o) F.labels F.ret 1 F.body) (λ b. done)))

-- ---- every answer

-- a refusal is one of 1 to 7, or 9 (docs/FORMAT.md, "Refusals"; M-112: 8 no longer occurs)
abbrev pub Known : ℕ → Type 0
Known n = (1 ≤ n) × (n ≤ 9) × (n ≡ 8 → ⊥)

pub record Answers {A : Type 0} (r : Outcome A) : Type 0 where
  pub of : (n p : ℕ) → r ≡ generation.refused n p → Known n

after : {A : Type 0} {P : ℕ → Type 0} (c : Checked) (rest : Unit {0} → Outcome A) → Off P c → ((n : ℕ) → P n → (1 ≤ n) × (n ≤ 3)) → Answers (rest tt) → Answers (checked c rest)
after (Ok c) rest h l k = k
after (Err r) rest h l k =
    let n : ℕ = number_of_refusal r.refusal in
    record { of = λ m p e. let (a, b) = l n (off_by h refl) in subst Known (let z = e in cc) (omega arith, omega arith, λ (z : n ≡ 8). omega arith) }

compiled_answers : (tables sheet : List ℕ) → Answers (compiled tables sheet)
unfolding compiled
compiled_answers tables sheet =
    after (tables_check tables) _ (tables_off tables) (λ n h. (omega arith, omega arith))
    (after (sheet_check sheet) _ (sheet_off Edition.First sheet) (λ n h. (omega arith, omega arith))
    (record { of = λ n p e. let (a, b) = (four_to_seven (tables_of tables) (function_of sheet)).of n p e in (omega arith, omega arith, λ z. omega arith) }))

-- every refusal has one of the numbers of the scope but 8
pub lowered_answers : (tables sheet : List ℕ) (m : ℕ) → Answers (lowered tables sheet m)
unfolding lowered
lowered_answers tables sheet m = go (compiled tables sheet) refl
  where
    paged : (is : List Instruction) (b : Bool) → Answers (cond b (generation.refused page_full (length is)) (accepted is))
    paged is true = record { of = λ n p e. subst Known (let z = e in cc) (lit≤ tt, lit≤ tt, λ (z : ◌≡◌ {A = ℕ} 9 8). omega arith) }
    paged is false = record { of = λ n p e. absurd (not_accepted e) }

    go : (r : Outcome (List Instruction)) → compiled tables sheet ≡ r → Answers (generation.◌>>=◌ r (page m))
    go (accepted is) e = paged is (ltb m (64 * length is))
    go (generation.refused n p) e = record { of = λ k q z. subst Known (let y = z in cc) ((compiled_answers tables sheet).of n p e) }

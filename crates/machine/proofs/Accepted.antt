-- An accepted list as a whole: prologue, every line's records, epilogue; where a line's records stand, and what the list ends in.
use Prim.Native.Nat.{ℕ, zero, suc, ◌+◌, ◌<◌, suc-le-suc}
use mathlib.Core.Path.{◌≡◌, refl, sym, ap, ap₂, ◌∙◌, subst}
use mathlib.Core.Bool.{Bool, true, false, cond}
use mathlib.Core.List.{List, [], ◌∷◌, ◌++◌, append_assoc, append-nil}
use lib.ListN.{length, take, drop, length-append, take-append-drop}
use lib.Seq.{drop_at}
use native.Mathlib.Omega.{arith}
use Rattle.cells.specs.Refusals.{no_width}
use Rattle.x86.specs.declared.enums.Instruction.{Instruction}
use Rattle.ir.specs.Types as types
use Rattle.ir.specs.Types.{Result, ok}
use Rattle.ir.specs.Function.{Function, Line, Tables}
use Rattle.codegen.specs.Context.{Context, context_of}
use Rattle.codegen.specs.Frame.{offsets_from, have_widths, var_offsets, frame, func_prologue}
use Rattle.codegen.specs.Instructions.{func_epilogue}
use Rattle.codegen.specs.Generation.{Outcome, accepted, refused, ◌>>=◌, at, generate_instruction, generate_body, ends_in_ret, with_epilogue, generate}
use Rattle.machine.specs.Simulation.{records_of, context_for, records_of_lines, place}
use Rattle.machine.proofs.Run.{cons_not_nil, heads, drop_suc}

-- ---- the parts

-- the records of a line
abbrev pub records : Tables → Function → Line → List Instruction
records tables F l = records_of (generate_instruction (context_for tables F) F.labels F.ret l)

-- the prologue
abbrev pub front : Tables → Function → List Instruction
front tables F = records_of (func_prologue (context_for tables F) (frame F.vars) F.params)

-- all but an epilogue that is added
abbrev pub whole : Tables → Function → List Instruction
whole tables F = front tables F ++ records_of_lines tables F F.body

abbrev pub tail : Tables → Function → List Instruction
tail tables F = cond (ends_in_ret (whole tables F)) [] func_epilogue

unfoldable pub code : Tables → Function → List Instruction
code tables F = whole tables F ++ tail tables F

-- no part was refused
pub record Accepted (tables : Tables) (F : Function) : Type 0 where
  pub begins : func_prologue (context_for tables F) (frame F.vars) F.params ≡ ok (front tables F)
  pub lines : (k : ℕ) (l : Line) (r : List Line) → drop k F.body ≡ l ∷ r
      → generate_instruction (context_for tables F) F.labels F.ret l ≡ ok (records tables F l)

-- ---- acceptance

pub never : {A : Type 0} {a : A} {n p : ℕ} → refused n p ≡ accepted a → ⊥
never e = let z : ◌≡◌ {A = ℕ} 0 1 = cc in omega arith

pub taken : {A : Type 0} {a b : A} → accepted a ≡ accepted b → a ≡ b
taken e = cc

-- a part that an accepted answer was made of
pub split : {A B : Type 0} (o : Outcome A) (f : A → Outcome B) (b : B) → (o >>= f) ≡ accepted b → (a : A) × (o ≡ accepted a) × (f a ≡ accepted b)
split (accepted a) f b e = (a, refl, e)
split (refused n p) f b e = absurd (never e)

at_accepted : {A : Type 0} (p : ℕ) (r : Result A) (a : A) → at p r ≡ accepted a → r ≡ ok a
at_accepted p (ok b) a e = ap ok (taken e)
at_accepted p (types.refused n) a e = absurd (never e)

module _ (tables : Tables) (F : Function) where
  abbrev ctx : Context
  ctx = context_for tables F

  -- every line's records
  record Lines (ls : List Line) (is : List Instruction) : Type 0 where
    all : is ≡ records_of_lines tables F ls
    each : (k : ℕ) (l : Line) (r : List Line) → drop k ls ≡ l ∷ r → generate_instruction ctx F.labels F.ret l ≡ ok (records tables F l)

  body_lines : (ls : List Line) (i : ℕ) (is : List Instruction) → generate_body ctx F.labels F.ret i ls ≡ accepted is → Lines ls is
  unfolding generate_body records_of_lines
  body_lines [] i is e = record { all = sym (taken e); each = λ k l r d. absurd (nowhere k (sym d)) }
    where
      nowhere : (k : ℕ) {l : Line} {r : List Line} → l ∷ r ≡ drop k [] → ⊥
      nowhere zero e = cons_not_nil e
      nowhere (suc k) e = cons_not_nil e
  body_lines (l ∷ ls) i is e =
      let (b, e₁, f) = split (at i (generate_instruction ctx F.labels F.ret l)) _ is e in
      let g : generate_instruction ctx F.labels F.ret l ≡ ok b = at_accepted i _ b e₁ in
      let (bs, e₂, h) = split (generate_body ctx F.labels F.ret (suc i) ls) _ is f in
      let rest : Lines ls bs = body_lines ls (suc i) bs e₂ in
      let own : generate_instruction ctx F.labels F.ret l ≡ ok (records tables F l) = g ∙ ap (λ r. ok (records_of r)) (sym g) in
      record {
        all = sym (taken h) ∙ ap₂ (λ (x y : List Instruction). x ++ y) (sym (ap records_of g)) rest.all;
        each = each own rest.each;
      }
    where
      each : generate_instruction ctx F.labels F.ret l ≡ ok (records tables F l)
          → ((k : ℕ) (x : Line) (r : List Line) → drop k ls ≡ x ∷ r → generate_instruction ctx F.labels F.ret x ≡ ok (records tables F x))
          → (k : ℕ) (x : Line) (r : List Line) → drop k (l ∷ ls) ≡ x ∷ r → generate_instruction ctx F.labels F.ret x ≡ ok (records tables F x)
      each own rest zero x r d = subst (λ (x : Line). generate_instruction ctx F.labels F.ret x ≡ ok (records tables F x)) (heads d) own
      each own rest (suc k) x r d = rest k x r d

  with_epilogue_lem : (b : List Instruction) → with_epilogue b ≡ b ++ cond (ends_in_ret b) [] func_epilogue
  unfolding with_epilogue
  with_epilogue_lem b = go (ends_in_ret b)
    where
      go : (t : Bool) → cond t b (b ++ func_epilogue) ≡ b ++ cond t [] func_epilogue
      go true = sym (append-nil b)
      go false = refl

  pub accepted_list : (is : List Instruction) → generate tables F ≡ accepted is → Accepted tables F × (is ≡ code tables F)
  unfolding generate code var_offsets
  accepted_list is e = go (have_widths F.vars) e
    where
      go : (b : Bool) → (at 0 (cond b (ok (offsets_from 0 F.vars)) (types.refused no_width)) >>= λ offsets.
          at 0 (func_prologue (context_of tables offsets) (frame F.vars) F.params) >>= λ prologue.
          generate_body (context_of tables offsets) F.labels F.ret 1 F.body >>= λ body. accepted (with_epilogue (prologue ++ body))) ≡ accepted is
          → Accepted tables F × (is ≡ code tables F)
      go true e =
          let (p, e₁, f) = split (at 0 (func_prologue ctx (frame F.vars) F.params)) _ is e in
          let g : func_prologue ctx (frame F.vars) F.params ≡ ok p = at_accepted 0 _ p e₁ in
          let (b, e₂, h) = split (generate_body ctx F.labels F.ret 1 F.body) _ is f in
          let ls : Lines F.body b = body_lines F.body 1 b e₂ in (
            record { begins = g ∙ ap (λ r. ok (records_of r)) (sym g); lines = ls.each },
            sym (taken h) ∙ ap with_epilogue (ap₂ (λ (x y : List Instruction). x ++ y) (sym (ap records_of g)) ls.all) ∙ with_epilogue_lem (whole tables F),
          )
      go false e = absurd (never e)

-- ---- places

pub take_suc_of : {A : Type 0} (k : ℕ) (l : List A) {i : A} {r : List A} → drop k l ≡ i ∷ r → take (suc k) l ≡ take k l ++ i ∷ []
take_suc_of zero [] e = cc
take_suc_of zero (x ∷ l) {i} e = let h : x ≡ i = cc in rw h
take_suc_of (suc k) [] e = cc
take_suc_of (suc k) (x ∷ l) {i} e = ap (λ r. x ∷ r) (take_suc_of k l e)

pub drop_less : {A : Type 0} (k : ℕ) (l : List A) {i : A} {r : List A} → drop k l ≡ i ∷ r → k < length l
drop_less zero [] e = absurd (cons_not_nil (sym e))
drop_less zero (x ∷ l) e = omega arith
drop_less (suc k) [] e = absurd (cons_not_nil (sym e))
drop_less (suc k) (x ∷ l) e = suc-le-suc (drop_less k l e)

ends_append : (a : List Instruction) (i : Instruction) (b : List Instruction) → ends_in_ret (a ++ i ∷ b) ≡ ends_in_ret (i ∷ b)
unfolding ends_in_ret
ends_append [] i b = refl
ends_append (x ∷ []) i b = refl
ends_append (x ∷ y ∷ a) i b = ends_append (y ∷ a) i b

module _ (tables : Tables) (F : Function) where
  abbrev lowers : List Line → List Instruction
  lowers ls = records_of_lines tables F ls

  lowers_append : (a b : List Line) → lowers (a ++ b) ≡ lowers a ++ lowers b
  unfolding records_of_lines
  lowers_append [] b = refl
  lowers_append (l ∷ a) b = ap (λ r. records tables F l ++ r) (lowers_append a b) ∙ sym (append_assoc (records tables F l) (lowers a) (lowers b))

  pub nothing_left : lowers [] ≡ []
  unfolding records_of_lines
  nothing_left = refl

  -- the records before line k
  abbrev before : ℕ → List Instruction
  before k = front tables F ++ lowers (take k F.body)

  whole_split : (k : ℕ) → whole tables F ≡ before k ++ lowers (drop k F.body)
  whole_split k =
      ap (λ (b : List Line). front tables F ++ lowers b) (sym (take-append-drop k F.body))
      ∙ ap (λ r. front tables F ++ r) (lowers_append (take k F.body) (drop k F.body))
      ∙ sym (append_assoc (front tables F) (lowers (take k F.body)) (lowers (drop k F.body)))

  pub place_zero : place tables F 0 ≡ length (front tables F)
  unfolding place records_of_lines
  place_zero = omega arith

  pub place_drop : (k : ℕ) → drop (place tables F k) (code tables F) ≡ lowers (drop k F.body) ++ tail tables F
  unfolding code place
  place_drop k =
      ap (λ r. drop (place tables F k) (r ++ tail tables F)) (whole_split k)
      ∙ ap (drop (place tables F k)) (append_assoc (before k) (lowers (drop k F.body)) (tail tables F))
      ∙ drop_at (before k) _ (place tables F k) (length-append (front tables F) (lowers (take k F.body)))

  pub place_suc : (k : ℕ) {l : Line} {r : List Line} → drop k F.body ≡ l ∷ r → place tables F (suc k) ≡ place tables F k + length (records tables F l)
  unfolding records_of_lines place
  place_suc k {l} e =
      rw (take_suc_of k F.body e, lowers_append (take k F.body) (l ∷ []), length-append, append-nil) (omega arith)

  -- the records at line k
  pub records_at : (k : ℕ) {l : Line} {r : List Line} → drop k F.body ≡ l ∷ r
      → drop (place tables F k) (code tables F) ≡ records tables F l ++ (lowers r ++ tail tables F)
  unfolding records_of_lines
  records_at k {l} {r} e = place_drop k ∙ ap (λ b. lowers b ++ tail tables F) e ∙ append_assoc (records tables F l) (lowers r) (tail tables F)

  -- with none left, at the end of the lines' records
  pub place_end : (k : ℕ) → lowers (drop k F.body) ≡ [] → length (code tables F) ≡ place tables F k + length (tail tables F)
  unfolding code place
  place_end k e =
      length-append (whole tables F) (tail tables F)
      ∙ ap (λ (a : ℕ). a + length (tail tables F))
      (ap length (whole_split k ∙ ap (λ c. before k ++ c) e ∙ append-nil (before k)) ∙ length-append (front tables F) (lowers (take k F.body)))

  -- behind a line with records, the last of which is no Ret
  pub open_behind : (k : ℕ) {l : Line} {r : List Line} {j : Instruction} {b : List Instruction} → drop k F.body ≡ l ∷ r
      → records tables F l ≡ j ∷ b → ends_in_ret (j ∷ b) ≡ false → lowers (drop (suc k) F.body) ≡ [] → ends_in_ret (whole tables F) ≡ false
  unfolding records_of_lines
  open_behind k {l} {r} {j} {b} e q g h =
      ap ends_in_ret (whole_split k ∙ ap (λ b. before k ++ lowers b) e ∙ ap (λ (x : List Instruction). before k ++ (x ++ lowers r)) q
      ∙ ap (λ x. before k ++ (j ∷ (b ++ x))) (ap lowers (sym (drop_suc k F.body e)) ∙ h) ∙ ap (λ x. before k ++ (j ∷ x)) (append-nil b))
      ∙ ends_append (before k) j b ∙ g

  -- .. and with no line's records at all
  pub open_start : ends_in_ret (front tables F) ≡ false → lowers F.body ≡ [] → ends_in_ret (whole tables F) ≡ false
  open_start g e = ap (λ c. ends_in_ret (front tables F ++ c)) e ∙ ap ends_in_ret (append-nil (front tables F)) ∙ g

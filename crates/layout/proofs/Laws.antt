-- What a layout that is right tells: where its parts end, and what their cells hold.
use Prim.Native.Nat.{ℕ, zero, suc, ◌+◌, ◌*◌, ◌≤◌}
use mathlib.Core.Path.{◌≡◌, refl, sym, ap, ◌∙◌}
use mathlib.Core.Bool.{Bool, true, false, cond}
use mathlib.Core.List.{List}
use native.Mathlib.Omega.{arith}
use native.Mathlib.Nat.{mul-suc}
use borrow.Author.Tests.{ltb-false, eqb-false}
use lib.ListN.{length}
use lib.Dec.{ltb, eqb, lit≤}
use Rattle.std.specs.Prelude.{Ok, Err}
use Rattle.cells.specs.Cells.{cells, cell_at, largest, read_within, bind_cell}
use Rattle.cells.specs.declared.Cursor.{Cursor}
use Rattle.cells.specs.declared.refusals.Refusal.{Refusal}
use Rattle.ir.specs.Types.{no_array, offset_behind, last_offset}
use Rattle.ir.specs.Function.{type_at, types_at, arguments_at, behind, params_from, body_from}
use Rattle.layout.specs.declared.Edition.{Edition}
use Rattle.layout.specs.Limits.{most_variables, most_parameters, most_labels, most_instructions, most_arguments, most_count}
use Rattle.layout.specs.Layout.{Checked, refuse, Laid, bind_limited, bind_checked, cursor, count_check, zeros_check, fields_check, type_check, return_check, own_in, var_in, param_in, param_width, holds_var, first_field, flag_field, operand_in, operands_in, operation_most, has_dest, has_left, dest_in, side_in, call_check, body_in, instr_in, types_check, params_in, instrs_in, body_start, rest_in, head_in, sheet_in, head_check}
use Rattle.layout.proofs.Passed.{place, same_word, kept, checked_passed, passed_at, word_passed, cell_passed, within_passed, limited_passed, at_end}

-- ---- types, variables, operands

-- from c to d there are so many cells
abbrev pub Spans : List ℕ → ℕ → Cursor → Cursor → Type 0
Spans s n c d = (d.at ≡ c.at + n) × (c.at + n ≤ cells s)

count_right : (s : List ℕ) (c : Cursor) {d : Cursor} → count_check s c ≡ Ok d → Spans s 1 c d
unfolding count_check
count_right s c {d} e =
    let p = cell_passed Refusal.TornSheet s c _ e in
    (go (eqb (cell_at s c.at) no_array) p.1, omega (arith, p.0))
  where
    go : (b : Bool) → cond b (Ok (cursor (c.at + 1))) (cond (ltb largest (cell_at s c.at)) (refuse Refusal.TornSheet c.at)
        (cond (ltb most_count (cell_at s c.at)) (refuse Refusal.Oversize c.at) (Ok (cursor (c.at + 1))))) ≡ Ok d →
        d.at ≡ c.at + 1
    go true e = place e
    go false e =
        let l = kept (ltb largest (cell_at s c.at)) Refusal.TornSheet c.at _ e in
        let q = kept (ltb most_count (cell_at s c.at)) Refusal.Oversize c.at _ l.1 in
        place q.1

pub type_right : (s : List ℕ) (c : Cursor) {d : Cursor} → type_check s c ≡ Ok d → Spans s 2 c d
unfolding type_check
type_right s c e =
    let p = within_passed Refusal.TornSheet s c 1 12 _ e in
    let q = count_right s (cursor (c.at + 1)) p.1 in
    (omega arith, omega arith)

-- none is code 0 and no array
pub return_right : (s : List ℕ) (c : Cursor) {d : Cursor} → return_check s c ≡ Ok d → Spans s 2 c d
unfolding return_check
return_right s c {d} e =
    let p = within_passed Refusal.TornSheet s c 0 12 _ e in
    go (eqb (cell_at s c.at) 0) p.1
  where
    go : (b : Bool) →
        cond b (bind_cell (refuse Refusal.TornSheet) (read_within s (cursor (c.at + 1)) no_array no_array) (λ count c2. Ok c2))
        (count_check s (cursor (c.at + 1))) ≡ Ok d → Spans s 2 c d
    go true e =
        let q = within_passed Refusal.TornSheet s (cursor (c.at + 1)) no_array no_array _ e in
        let r = place q.1 in
        (omega arith, omega (arith, q.0.there))
    go false e =
        let q = count_right s (cursor (c.at + 1)) e in
        (omega arith, omega arith)

fields_right : (s : List ℕ) (c : Cursor) (x y z : ℕ) {d : Cursor} → fields_check s c x y z ≡ Ok d → Spans s 3 c d
unfolding fields_check
fields_right s c x y z e =
    let p = within_passed Refusal.TornSheet s c 0 x _ e in
    let q = within_passed Refusal.TornSheet s (cursor (c.at + 1)) 0 y _ p.1 in
    let r = within_passed Refusal.TornSheet s (cursor (c.at + 1 + 1)) 0 z _ q.1 in
    let b = place r.1 in
    (omega arith, omega (arith, r.0.there))

zeros_right : (s : List ℕ) (n : ℕ) (c : Cursor) {d : Cursor} → zeros_check s n c ≡ Ok d → (d.at ≡ c.at + n) × (c.at ≤ cells s → d.at ≤ cells s)
unfolding zeros_check
zeros_right s zero c e = let l = place e in (omega arith, λ h. omega arith)
zeros_right s (suc n) c e =
    let p = within_passed Refusal.TornSheet s c 0 0 _ e in
    let q = zeros_right s n (cursor (c.at + 1)) p.1 in
    (omega arith, λ h. q.1 (omega arith))

-- .. of a variable's own type
own_right : (E : Edition) (s : List ℕ) (c : Cursor) {d : Cursor} → c.at ≤ cells s → own_in E s c ≡ Ok d → Spans s 2 c d
own_right Edition.First s c h e = type_right s c e
own_right Edition.Second s c h e = let p = zeros_right s 2 c e in (p.0, omega (arith, p.0, p.1 h))

pub var_right : (E : Edition) (s : List ℕ) (c : Cursor) {d : Cursor} → var_in E s c ≡ Ok d → Spans s 3 c d
unfolding var_in
var_right E s c e =
    let p = within_passed Refusal.TornSheet s c 0 largest _ e in
    let q = own_right E s (cursor (c.at + 1)) (omega (arith, p.0.there)) p.1 in
    (omega arith, omega arith)

pub param_right : (E : Edition) (s : List ℕ) (c : Cursor) {d : Cursor} → param_in E s c ≡ Ok d → Spans s (param_width E) c d
unfolding param_in
param_right Edition.First s c e = var_right Edition.First s c e
param_right Edition.Second s c e =
    let p = within_passed Refusal.TornSheet s c 0 largest _ e in
    (place p.1, omega (arith, p.0.there))

-- a variable, or three numbers behind the kind
pub operand_right : (E : Edition) (s : List ℕ) (c : Cursor) {d : Cursor} → operand_in E s c ≡ Ok d → Spans s 4 c d
unfolding operand_in
operand_right E s c {d} e = go (holds_var n) (within_passed Refusal.TornSheet s c 0 6 _ e).1
  where
    n : ℕ
    n = cell_at s c.at

    go : (b : Bool) → cond b (var_in E s (cursor (c.at + 1))) (fields_check s (cursor (c.at + 1)) (first_field n) (flag_field n) (flag_field n)) ≡ Ok d →
        Spans s 4 c d
    go true e =
        let p = var_right E s (cursor (c.at + 1)) e in
        (omega arith, omega arith)
    go false e =
        let p = fields_right s (cursor (c.at + 1)) (first_field n) (flag_field n) (flag_field n) e in
        (omega arith, omega arith)

-- ---- lists of parts that have one width

module _ (s : List ℕ) (step : Cursor → Checked) (w : ℕ) where
  -- n parts from c to d
  pub record Runs (n : ℕ) (c d : Cursor) : Type 0 where
    pub ends : d.at ≡ c.at + w * n
    pub within : c.at ≤ cells s → d.at ≤ cells s

  runs_none : {c d : Cursor} → ◌≡◌ {A = Checked} (Ok c) (Ok d) → Runs 0 c d
  runs_none e =
      let l = place e in
      record { ends = omega arith; within = λ h. omega arith }

  module _ (wide : (c d : Cursor) → step c ≡ Ok d → Spans s w c d) where
    runs_more : (n : ℕ) {c m d : Cursor} → step c ≡ Ok m → Runs n m d → Runs (suc n) c d
    runs_more n {c} {m} {d} e r =
        let p = wide c m e in
        record { ends = omega (arith, mul-suc w n, r.ends); within = λ h. r.within (omega arith) }

    runs : (rep : ℕ → Cursor → Checked) → ((c : Cursor) → rep 0 c ≡ Ok c) → ((n : ℕ) (c : Cursor) → rep (suc n) c ≡ bind_checked Err (step c) (rep n)) →
        (n : ℕ) (c : Cursor) {d : Cursor} → rep n c ≡ Ok d → Runs n c d
    runs rep none more zero c e = runs_none (sym (none c) ∙ e)
    runs rep none more (suc n) c e =
        let p = checked_passed (step c) (rep n) (sym (more n c) ∙ e) in
        runs_more n p.1 (runs rep none more n p.0 p.2)

pub operands_run : (E : Edition) (s : List ℕ) (n : ℕ) (c : Cursor) {d : Cursor} → operands_in E s n c ≡ Ok d → Runs s (operand_in E s) 4 n c d
unfolding operands_in
operands_run E s =
    runs s (operand_in E s) 4 (λ c d e. operand_right E s c e) (operands_in E s) (λ c. refl) (λ n c. refl)

pub params_run : (E : Edition) (s : List ℕ) (n : ℕ) (c : Cursor) {d : Cursor} → params_in E s n c ≡ Ok d → Runs s (param_in E s) (param_width E) n c d
unfolding params_in
params_run E s =
    runs s (param_in E s) (param_width E) (λ c d e. param_right E s c e) (params_in E s) (λ c. refl) (λ n c. refl)

-- one type, whose offset the limit allows, and the types behind it
pub types_more : (s : List ℕ) (n end : ℕ) (c : Cursor) {d : Cursor} → types_check s (suc n) end c ≡ Ok d →
    (m : Cursor) × (type_check s c ≡ Ok m) × (offset_behind end (type_at s c.at) ≤ most_count) × (types_check s n (offset_behind end
    (type_at s c.at)) m ≡ Ok d)
unfolding types_check
types_more s n end c e =
    let p = checked_passed (type_check s c) _ e in
    let q = kept _ Refusal.Oversize (c.at + 1) _ p.2 in
    (p.0, p.1, ltb-false _ _ q.0, q.1)

pub types_run : (s : List ℕ) (n end : ℕ) (c : Cursor) {d : Cursor} → types_check s n end c ≡ Ok d → Runs s (type_check s) 2 n c d
unfolding types_check
types_run s zero end c e = runs_none s (type_check s) 2 e
types_run s (suc n) end c e =
    let p = types_more s n end c e in
    runs_more s (type_check s) 2 (λ c d e. type_right s c e) n p.1 (types_run s n (offset_behind end (type_at s c.at)) p.0 p.3)

pub types_total : (s : List ℕ) (n end : ℕ) (c : Cursor) {d : Cursor} → types_check s n end c ≡ Ok d → end ≤ most_count →
    last_offset end (types_at s n c.at) ≤ most_count
unfolding last_offset types_at
types_total s zero end c e h = h
types_total s (suc n) end c e h =
    let p = types_more s n end c e in
    let l : p.0.at ≡ c.at + 2 = (type_right s c p.1).0 in
    rw (← l) (types_total s n (offset_behind end (type_at s c.at)) p.0 p.3 p.2)

-- ---- instructions

pub dest_right : (E : Edition) (s : List ℕ) (has : Bool) (c : Cursor) {d : Cursor} → dest_in E s has c ≡ Ok d → (d.at ≡ c.at + 3) × (c.at ≤ cells s → d.at ≤ cells s)
unfolding dest_in
dest_right E s true c e = let p = var_right E s c e in (p.0, λ h. omega arith)
dest_right E s false c e = zeros_right s 3 c e

pub side_right : (E : Edition) (s : List ℕ) (has : Bool) (c : Cursor) {d : Cursor} → side_in E s has c ≡ Ok d → (d.at ≡ c.at + 4) × (c.at ≤ cells s → d.at ≤ cells s)
unfolding side_in
side_right E s true c e = let p = operand_right E s c e in (p.0, λ h. omega arith)
side_right E s false c e = zeros_right s 4 c e

-- a call's own cells
pub call_right : (s : List ℕ) (k : ℕ) {n : ℕ} {d : Cursor} → call_check s (cursor (k + 5)) ≡ Ok (n, d) →
    (k + 13 ≤ cells s) × (cell_at s (k + 6) ≤ most_arguments) × (n ≡ cell_at s (k + 6)) × (d.at ≡ k + 13)
unfolding call_check
call_right s k e =
    let p = within_passed Refusal.TornSheet s (cursor (k + 5)) 0 largest _ e in
    let six : k + 5 + 1 ≡ k + 6 = omega arith in
    let q = limited_passed s (cursor (k + 6)) most_arguments _ (rw six at p.1) in
    let r = checked_passed (zeros_check s 6 (cursor (k + 6 + 1))) _ q.1 in
    let z = zeros_right s 6 (cursor (k + 6 + 1)) r.1 in
    let w = same_word r.2 in
    (omega (arith, z.0, z.1 (omega arith)), q.0.most, w.0, omega (arith, z.0, w.1))

-- left and right of any other instruction
sides_right : (E : Edition) (s : List ℕ) (k : ℕ) {d : Cursor} →
    bind_checked Err (side_in E s (has_left (cell_at s k)) (cursor (k + 5))) (λ c1. side_in E s (eqb (cell_at s k) 2) c1) ≡ Ok d →
    k + 5 ≤ cells s →
    (d.at ≡ k + 13) × (k + 13 ≤ cells s)
sides_right E s k e h =
    let has = has_left (cell_at s k) in
    let p = passed_at (side_in E s has (cursor (k + 5))) _ (k + 9) (λ m e. let z = side_right E s has (cursor (k + 5)) e in omega arith) e in
    let a = side_right E s has (cursor (k + 5)) p.0 in
    let b = side_right E s (eqb (cell_at s k) 2) (cursor (k + 9)) p.1 in
    (omega arith, omega (arith, b.1 (a.1 h)))

-- an instruction, with a call's arguments
pub record RightInstr (s : List ℕ) (k : ℕ) (d : Cursor) : Type 0 where
  pub there : k + 13 ≤ cells s
  pub ends : d.at ≡ behind s k
  pub within : d.at ≤ cells s
  pub few : cell_at s k ≡ 5 → cell_at s (k + 6) ≤ most_arguments

body_right : (E : Edition) (s : List ℕ) (k : ℕ) {d : Cursor} → body_in E s (cell_at s k) (cursor (k + 5)) ≡ Ok d → k + 5 ≤ cells s → RightInstr s k d
unfolding body_in behind arguments_at
body_right E s k {d} = go (eqb (cell_at s k) 5) refl
  where
    go : (b : Bool) → eqb (cell_at s k) 5 ≡ b →
        cond b (bind_limited Err (call_check s (cursor (k + 5))) (λ count c1. operands_in E s count c1))
        (bind_checked Err (side_in E s (has_left (cell_at s k)) (cursor (k + 5))) (λ c1. side_in E s (eqb (cell_at s k) 2) c1)) ≡ Ok d →
        k + 5 ≤ cells s → RightInstr s k d
    go true p e h =
        let w = word_passed (call_check s (cursor (k + 5))) _ e in
        let q = call_right s k w.2 in
        let r = operands_run E s w.0 w.1 w.3 in
        record { there = q.0; ends = rw p (omega (arith, r.ends, q.2, q.3)); within = r.within (omega (arith, q.0, q.3)); few = λ _. q.1 }
    go false p e h =
        let q = sides_right E s k e h in
        record { there = q.1; ends = rw p (omega arith); within = omega arith; few = λ t. absurd (eqb-false _ _ p t) }

pub instr_right : (E : Edition) (s : List ℕ) (c : Cursor) {d : Cursor} → instr_in E s c ≡ Ok d → RightInstr s c.at d
unfolding instr_in
instr_right E s c e =
    let k = c.at in
    let n = cell_at s k in
    let has = has_dest n (cell_at s (k + 1)) in
    let p = within_passed Refusal.TornSheet s c 0 10 _ e in
    let q = within_passed Refusal.TornSheet s (cursor (k + 1)) 0 (operation_most n) _ p.1 in
    let two : k + 1 + 1 ≡ k + 2 = omega arith in
    let r = passed_at (dest_in E s has (cursor (k + 2))) (λ c3. body_in E s n c3) (k + 5)
    (λ m e. let z = dest_right E s has (cursor (k + 2)) e in omega arith) (rw two at q.1) in
    let z = dest_right E s has (cursor (k + 2)) r.0 in
    body_right E s k r.1 (z.1 (omega arith))

-- the first instruction, and those behind it
pub instrs_more : (E : Edition) (s : List ℕ) (n : ℕ) (c : Cursor) {e : Cursor} → instrs_in E s (suc n) c ≡ Ok e →
    (instr_in E s c ≡ Ok (cursor (behind s c.at))) × (instrs_in E s n (cursor (behind s c.at)) ≡ Ok e)
unfolding instrs_in
instrs_more E s n c h =
    passed_at (instr_in E s c) (λ next. instrs_in E s n next) (behind s c.at) (λ m e. (instr_right E s c e).ends) h

pub instrs_within : (E : Edition) (s : List ℕ) (n : ℕ) (c : Cursor) {e : Cursor} → instrs_in E s n c ≡ Ok e → c.at ≤ cells s → e.at ≤ cells s
unfolding instrs_in
instrs_within E s zero c h l = let p = place h in omega arith
instrs_within E s (suc n) c h l =
    let p = instrs_more E s n c h in
    instrs_within E s n (cursor (behind s c.at)) p.1 (instr_right E s c p.0).within

-- ---- the sheet

-- what stands before the instructions
pub record RightHead (E : Edition) (s : List ℕ) : Type 0 where
  pub header : 6 ≤ cells s
  pub vars : cell_at s 0 ≤ most_variables
  pub params : cell_at s 1 ≤ most_parameters
  pub labels : cell_at s 2 ≤ most_labels
  pub returned : return_check s (cursor 3) ≡ Ok (cursor 5)
  pub instrs : cell_at s 5 ≤ most_instructions
  pub types : types_check s (cell_at s 0) 0 (cursor 6) ≡ Ok (cursor (params_from s))
  pub listed : params_in E s (cell_at s 1) (cursor (params_from s)) ≡ Ok (cursor (body_start E s))
  pub within : body_start E s ≤ cells s

-- .. how many instructions there are, and where they start
pub head_right : (E : Edition) (s : List ℕ) {n : ℕ} {c : Cursor} → head_in E s ≡ Ok (n, c) → RightHead E s × (n ≡ cell_at s 5) × (c.at ≡ body_start E s)
unfolding head_in rest_in
head_right E s h =
    let vars = limited_passed s (cursor 0) most_variables _ h in
    let params = limited_passed s (cursor 1) most_parameters _ vars.1 in
    let labels = limited_passed s (cursor 2) most_labels _ params.1 in
    let ret = passed_at (return_check s (cursor 3)) _ 5 (λ m e. (return_right s (cursor 3) e).0) labels.1 in
    let instrs = limited_passed s (cursor 5) most_instructions _ ret.1 in
    let types = passed_at (types_check s (cell_at s 0) 0 (cursor 6)) _ (params_from s)
    (λ m e. (types_run s (cell_at s 0) 0 (cursor 6) e).ends) instrs.1 in
    let from = cursor (params_from s) in
    let listed = passed_at (params_in E s (cell_at s 1) from) _ (body_start E s) (λ m e. (params_run E s (cell_at s 1) from e).ends) types.1 in
    let inside = (types_run s (cell_at s 0) 0 (cursor 6) types.0).within instrs.0.there in
    let w = same_word listed.1 in (
      record {
        header = instrs.0.there;
        vars = vars.0.most;
        params = params.0.most;
        labels = labels.0.most;
        returned = ret.0;
        instrs = instrs.0.most;
        types = types.0;
        listed = listed.0;
        within = (params_run E s (cell_at s 1) from listed.0).within inside;
      },
      w.0,
      w.1,
    )

pub record Right (E : Edition) (s : List ℕ) (e : Cursor) : Type 0 where
  pub head : head_in E s ≡ Ok (cell_at s 5, cursor (body_start E s))
  pub body : instrs_in E s (cell_at s 5) (cursor (body_start E s)) ≡ Ok e
  pub whole : e.at * 8 ≡ length s

pub sheet_right : (E : Edition) (s : List ℕ) {e : Cursor} → sheet_in E s ≡ Ok e → Right E s e
unfolding sheet_in
sheet_right E s h =
    let w = word_passed (head_in E s) _ h in
    let p = head_right E s w.2 in
    let from : w.1 ≡ cursor (body_start E s) = ap cursor p.2 in
    let n = checked_passed (instrs_in E s w.0 w.1) _ w.3 in
    let z = at_end Refusal.TornSheet s n.0 n.2 in
    let body : instrs_in E s (cell_at s 5) (cursor (body_start E s)) ≡ Ok n.0 = rw (← p.1, ← from) n.1 in
    let l = instrs_within E s (cell_at s 5) (cursor (body_start E s)) body p.0.within in
    record {
      head = w.2 ∙ rw (p.1, from);
      body = body ∙ ap (λ (k : ℕ). Ok (cursor k)) (sym z.0);
      whole = omega arith;
    }

-- ---- the head of edition 1

module _ (s : List ℕ) {n : ℕ} {c : Cursor} (h : head_check s ≡ Ok (n, c)) where
  first_head : RightHead Edition.First s
  first_head = (head_right Edition.First s h).0

  pub head_header : 6 ≤ cells s
  head_header = first_head.header

  pub head_vars : cell_at s 0 ≤ most_variables
  head_vars = first_head.vars

  pub head_params : cell_at s 1 ≤ most_parameters
  head_params = first_head.params

  pub head_labels : cell_at s 2 ≤ most_labels
  head_labels = first_head.labels

  pub head_types : types_check s (cell_at s 0) 0 (cursor 6) ≡ Ok (cursor (params_from s))
  head_types = first_head.types

  pub head_within : body_from s ≤ cells s
  head_within = first_head.within

  pub head_few : cell_at s 5 ≤ most_instructions
  head_few = first_head.instrs

  pub head_starts : c.at ≡ body_from s
  head_starts = (head_right Edition.First s h).2

  pub head_total : last_offset 0 (types_at s (cell_at s 0) 6) ≤ most_count
  head_total = types_total s (cell_at s 0) 0 (cursor 6) head_types (lit≤ tt)

-- the head of a sheet whose layout is right
pub head_laid : {s : List ℕ} → Laid s → head_check s ≡ Ok (cell_at s 5, cursor (body_from s))
head_laid {s} r = (sheet_right Edition.First s r.is).head

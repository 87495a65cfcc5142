-- From the survey and the list that is written to the whole answer.
use Prim.Native.Nat.{ℕ, ◌+◌, ◌*◌, ◌/◌, ◌≤◌, ◌<◌}
use mathlib.Core.Path.{◌≡◌, refl, sym, ap, ◌∙◌}
use mathlib.Core.Bool.{Bool, true, false}
use mathlib.Core.List.{List, ◌++◌}
use native.Mathlib.Omega.{arith}
use borrow.Author.Tests.{lt-ltb, le-ltb}
use lib.ListN.{length, take, drop}
use lib.Seq.{length-take-le}
use Rattle.cells.specs.Cells.{cell_at, write}
use Rattle.cells.specs.declared.Cursor.{Cursor}
use Rattle.cells.specs.Refusals.{page_full}
use Rattle.layout.specs.Limits.{most_variables, most_count}
use Rattle.layout.specs.Layout.{Checked, bind_checked, tables_check, head_check, sheet_in, sheet_check, instrs_check, end_check}
use Rattle.layout.proofs.Laws.{head_total}
use Rattle.ir.specs.declared.«Type».{«Type» as IrType}
use Rattle.ir.specs.Types as types
use Rattle.ir.specs.Types.{Result, ok, last_offset}
use Rattle.ir.specs.Function.{types_at, vars_at, params_from, tables_of, function_of}
use Rattle.x86.specs.declared.enums.Instruction.{Instruction}
use Rattle.x86.specs.Records.{list_bytes}
use Rattle.x86.proofs.Lists.{list_bytes_length}
use Rattle.codegen.specs.Frame.{offsets_from, have_widths, var_offsets, func_prologue}
use Rattle.codegen.specs.Generation.{Outcome, accepted, refused, ◌>>=◌, checked, generate, compiled, page, lowered, records_after}
use Rattle.codegen.proofs.Results.{never}
use Rattle.machine.specs.Plain.{Plain}
use Rattle.machine.specs.Calls.{Demand2}
use Rattle.machine.specs.Simulation.{Demand3}
use Rattle.machine.proofs.Accepted as outcomes
use Rattle.machine.proofs.Demand2.{demand2}
use Rattle.machine.proofs.Demand3.{demand3}
use Rattle.utils.specs.Answers.{lent, counted}
use Rattle.std.specs.Prelude.{Ok, Err}
use Rattle.std.specs.Prelude as std
use Rattle.cells.specs.declared.refusals.Refusal.{Refusal}
use Rattle.cells.specs.declared.refusals.Refused.{Refused}
use Rattle.cells.specs.Refusals.{number_of_refusal}
use Rattle.cells.specs.Outcomes.{outcome}
use Rattle.utils.specs.Makes.{Makes, Ready}
use Rattle.frame.specs.Sizes.{total_of, sizes_at}
use Rattle.generation.specs.Answers.{counted_outcome}
use Rattle.body.specs.Body.{Passed, Surveyed, body_of, without_place, passed_of, survey_of}
use Rattle.generation.specs.Pass.{list_of}
use Rattle.generation.specs.Survey.{Counted, Opens, LendsIf, counted_list, rounded, framed, sized_then, counted_says}
use Rattle.body.proofs.Running.{survey_laid, survey_wrong}
use Rattle.generation.proofs.Listing.{prologue_open, list_is, list_counted}

-- ---- the offsets

abbrev vars_of : List ℕ → List IrType
vars_of s = types_at s (cell_at s 0) 6

-- a total, where every variable has a width
sized : (s : List ℕ) {t : ℕ} → ok t ≡ sizes_at s (cell_at s 0) 6 → (have_widths (vars_of s) ≡ true) × (t ≡ last_offset 0 (vars_of s))
sized s {t} = go (have_widths (vars_of s))
  where
    go : (b : Bool) → ok t ≡ total_of b (last_offset 0 (vars_of s)) → (b ≡ true) × (t ≡ last_offset 0 (vars_of s))
    go true e = (refl, let z = e in cc)
    go false e = absurd (let z : ◌≡◌ {A = ℕ} 0 1 = cc in omega arith)

unsized : (s : List ℕ) {n : ℕ} → types.refused n ≡ sizes_at s (cell_at s 0) 6 → (have_widths (vars_of s) ≡ false) × (n ≡ 4)
unsized s {n} = go (have_widths (vars_of s))
  where
    go : (b : Bool) → types.refused n ≡ total_of b (last_offset 0 (vars_of s)) → (b ≡ false) × (n ≡ 4)
    go true e = absurd (let z : ◌≡◌ {A = ℕ} 0 1 = cc in omega arith)
    go false e = (refl, let z = e in cc)

-- the total is small
pub total_few : (s : List ℕ) {t : ℕ} {c : Cursor} → ok t ≡ sizes_at s (cell_at s 0) 6 → head_check s ≡ Ok (cell_at s 5, c) → t ≤ most_count
total_few s e h = omega (arith, (sized s e).1, head_total s h)

-- ---- from the survey to the whole

module _ (tables s : List ℕ) where
  -- what is generated is the list of the offsets that are lent
  generated : (offsets : List ℕ) {t : ℕ} → ok t ≡ sizes_at s (cell_at s 0) 6 → offsets ≡ offsets_from 0 (vars_of s) →
      generate (tables_of tables) (function_of s) ≡ list_of (lent tables offsets) (rounded t) s
  unfolding var_offsets generate function_of list_of body_of
  generated offsets e l = let p = sized s e in rw (l, p.0, p.1) refl

  not_generated : {n : ℕ} → types.refused n ≡ sizes_at s (cell_at s 0) 6 → generate (tables_of tables) (function_of s) ≡ refused n 0
  unfolding var_offsets generate function_of
  not_generated e = let p = unsized s e in rw (p.0, p.1) refl

  -- the layout of the sheet is its head's, then that of its instructions
  rest_checked : {c : Cursor} → head_check s ≡ Ok (cell_at s 5, c) →
      sheet_check s ≡ bind_checked Err (instrs_check s (cell_at s 5) c) (λ end. end_check Refusal.TornSheet s end)
  unfolding sheet_in
  rest_checked h = rw h refl

  -- behind tables that are right
  sheet_next : {c : Cursor} → tables_check tables ≡ Ok c → compiled tables s ≡ checked (sheet_check s) (λ u. generate (tables_of tables) (function_of s))
  unfolding compiled
  sheet_next e = rw e refl

  abbrev Says : Counted → List ℕ → Type 0
  Says r offsets = (counted_says r ≡ counted_outcome (compiled tables s)) × LendsIf r tables s offsets

  module _ (offsets : List ℕ) {total : Result ℕ} {c : Cursor} (o : Opens tables s offsets total c) where
    abbrev prologue : ℕ → Result (List Instruction)
    prologue bytes = func_prologue (lent tables offsets) bytes (vars_at s (cell_at s 1) (params_from s))

    abbrev rest : ℕ → Outcome ℕ
    rest bytes = counted_list (prologue bytes) (passed_of (body_of (lent tables offsets) s))

    rest_is : (bytes : ℕ) → rest bytes ≡ counted_outcome (list_of (lent tables offsets) bytes s)
    rest_is bytes =
        list_counted (prologue bytes) (body_of (lent tables offsets) s)
        (prologue_open (lent tables offsets) bytes (vars_at s (cell_at s 1) (params_from s)))
        ∙ ap counted_outcome (list_is tables offsets bytes s refl refl)

    laid_next : {x : Checked} → sheet_check s ≡ x → compiled tables s ≡ checked x (λ u. generate (tables_of tables) (function_of s))
    laid_next q = sheet_next o.first ∙ ap (λ (x : Checked). checked x (λ u. generate (tables_of tables) (function_of s))) q

    -- a sheet whose layout is right
    sized_says : {w : Cursor} → sheet_check s ≡ Ok w → (t : Result ℕ) → t ≡ sizes_at s (cell_at s 0) 6 → Says (sized_then t rest) offsets
    sized_says {w} q (types.refused n) t = (ap counted_outcome (sym (laid_next q ∙ not_generated t)), tt)
    sized_says {w} q (ok n) t = go (rest (rounded n)) (rest_is (rounded n))
      where
        all : compiled tables s ≡ list_of (lent tables offsets) (rounded n) s
        all = laid_next q ∙ generated offsets t o.slots

        go : (x : Outcome ℕ) → x ≡ counted_outcome (list_of (lent tables offsets) (rounded n) s) → Says (framed (rounded n) x) offsets
        go (accepted m) f = (f ∙ ap counted_outcome (sym all), record { laid = record { end = w; is = q }; list = all })
        go (refused m place) f = (f ∙ ap counted_outcome (sym all), tt)

    -- The survey of its instructions says one of three things.
    module _ {r : Surveyed} (e : r ≡ survey_of (instrs_check s (cell_at s 5) c) (passed_of (body_of (lent tables offsets) s))) where
      checked_next : {x : Checked} → instrs_check s (cell_at s 5) c ≡ x → sheet_check s ≡ bind_checked Err x (λ end. end_check Refusal.TornSheet s end)
      checked_next f = rest_checked o.head ∙ ap (λ (x : Checked). bind_checked Err x (λ end. end_check Refusal.TornSheet s end)) f

      -- A cell in an instruction is wrong.
      pub instrs_say : {n k : ℕ} → r ≡ Surveyed.Wrong n k → Says (Counted.Refused n k) offsets
      instrs_say f =
          let w = survey_wrong _ (passed_of (body_of (lent tables offsets) s)) (sym f ∙ e) in
          (rw (w.2, w.3) at (ap counted_outcome (sym (laid_next (checked_next w.1)))), tt)

      module _ {p : Passed} {d : Cursor} (f : r ≡ Surveyed.Laid p d) where
        laid : (instrs_check s (cell_at s 5) c ≡ Ok d) × (p ≡ passed_of (body_of (lent tables offsets) s))
        laid = survey_laid (instrs_check s (cell_at s 5) c) (passed_of (body_of (lent tables offsets) s)) (sym f ∙ e)

        -- Something is left behind the last one.
        pub end_says : {x : Checked} {v : Refused} → x ≡ end_check Refusal.TornSheet s d → x ≡ Err v → Says (Counted.Refused (number_of_refusal v.refusal) v.place) offsets
        end_says g h = (ap counted_outcome (sym (laid_next (checked_next laid.0 ∙ sym g ∙ h))), tt)

        -- The layout is right.
        pub survey_says : {x : Checked} {w : Cursor} {q : Counted} → x ≡ end_check Refusal.TornSheet s d → x ≡ Ok w → q ≡ sized_then total (λ bytes. counted_list (prologue bytes) p) → Says q offsets
        survey_says g h k = rw (k, laid.1) (sized_says (checked_next laid.0 ∙ sym g ∙ h) total o.sizes)

-- as many offsets are lent as there are variables
pub lent_long : (s offsets : List ℕ) {n : ℕ} → cell_at s 0 ≤ most_variables → length offsets ≡ 256 → n ≡ cell_at s 0 → n ≡ length (take n offsets)
lent_long s offsets {n} h l e = sym (length-take-le n offsets (omega arith))

-- ---- page full

abbrev pub Left : Outcome ℕ → List ℕ → List ℕ → Outcome (List Instruction) → Type 0
Left x old new q = (x ≡ counted_outcome q) × (new ≡ records_after q old)

pub paged_refused : (q : Outcome (List Instruction)) (old : List ℕ) {n place : ℕ} → refused n place ≡ counted_outcome q → Left (refused n place) old old (q >>= page (length old))
unfolding records_after
paged_refused (accepted is) old e = absurd (outcomes.never e)
paged_refused (refused m k) old e = (e, refl)

pub paged_full : (q : Outcome (List Instruction)) (old : List ℕ) {n : ℕ} → accepted n ≡ counted_outcome q → length old / 64 < n →
    Left (refused page_full n) old old (q >>= page (length old))
unfolding records_after
paged_full (accepted is) old {n} e h =
    let l : n ≡ length is = let z = e in cc in
    let k : length old < 64 * length is = omega arith in
    rw (lt-ltb (length old) (64 * length is) k) (ap (λ (m : ℕ). refused page_full m) l, refl)
paged_full (refused m k) old e h = absurd (outcomes.never (sym e))

pub paged_made : (q : Outcome (List Instruction)) (old new : List ℕ) {n : ℕ} → Makes true (without_place q) 0 old new (Ok n) → n ≤ length old / 64 →
    Left (accepted n) old new (q >>= page (length old))
unfolding records_after write
paged_made (accepted is) old new {n} m h =
    let l : n ≡ length is = let z = m.says in cc in
    let k : 64 * length is ≤ length old = omega arith in
    let b : 0 + length (list_bytes is) ≡ 64 * length is = omega (arith, list_bytes_length is) in
    rw (le-ltb (length old) (64 * length is) k) (ap accepted l, m.bytes ∙ ap (λ (j : ℕ). list_bytes is ++ drop j old) b)
paged_made (refused m k) old new e h = absurd (never (sym e.says))

-- ---- the list that is written

-- A list of n records has its number without its place too.
pub so_many : (q : Outcome (List Instruction)) {n : ℕ} → accepted n ≡ counted_outcome q → ok n ≡ counted (without_place q)
so_many (accepted is) e = let z : ◌≡◌ {A = Outcome ℕ} (accepted _) (accepted (length is)) = e in cc
so_many (refused m k) e = absurd (outcomes.never (sym e))

-- The list is ready to be written where there is room for so many.
pub list_ready : (q : Outcome (List Instruction)) {n m : ℕ} → accepted n ≡ counted_outcome q → n ≤ m / 64 → Ready true (without_place q) 0 m
list_ready (accepted is) {n} e h =
    let l : n ≡ length is = let z = e in cc in
    record { room = λ w. omega arith }
list_ready (refused m k) e h = absurd (outcomes.never (sym e))

-- ---- the whole

pub left_lowered : (tables s old new : List ℕ) {x : Outcome ℕ} (q : Outcome (List Instruction)) → compiled tables s ≡ q → Left x old new (q >>= page (length old)) →
    Left x old new (lowered tables s (length old))
unfolding lowered
left_lowered tables s old new q e h = rw e h

module _ (tables s old new : List ℕ) {r : std.Result ℕ Refused} (h : Left (outcome r) old new (lowered tables s (length old))) where
  with_list : (P : ℕ → Type 0) → ((is : List Instruction) → lowered tables s (length old) ≡ accepted is → P (length is)) → (n : ℕ) → r ≡ Ok n → P n
  with_list P f n e = go (lowered tables s (length old)) refl (sym (ap outcome e) ∙ h.0)
    where
      go : (q : Outcome (List Instruction)) → lowered tables s (length old) ≡ q → accepted n ≡ counted_outcome q → P n
      go (accepted is) g c = let l : n ≡ length is = let z = c in cc in rw l (f is g)
      go (refused m k) g c = absurd (outcomes.never (sym c))

  pub obeying : (n : ℕ) → r ≡ Ok n → Demand2 tables s new n
  obeying = with_list (Demand2 tables s new) (λ is g. rw h.1 (demand2 tables s old is g))

  pub simulating : (n : ℕ) → r ≡ Ok n → Plain tables s → Demand3 tables s new n
  simulating n e plain = with_list (Demand3 tables s new) (λ is g. rw h.1 (demand3 tables s old is g plain)) n e

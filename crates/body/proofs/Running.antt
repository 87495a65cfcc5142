-- The loop over the body keeps three things: what a survey says of the whole, the layout of what is left, and the records so far.
use Prim.Native.Nat.{ℕ, zero, suc, ◌+◌, ◌*◌, ◌-◌, ◌≤◌, ◌<◌}
use mathlib.Core.Path.{◌≡◌, refl, sym, ap, ◌∙◌}
use mathlib.Core.Bool.{Bool, true, false, cond}
use mathlib.Core.List.{List, [], ◌∷◌, ◌++◌}
use native.Mathlib.Omega.{arith}
use native.Mathlib.Numerals.{add-one}
use borrow.Author.Tests.{lt-ltb, ltb-true, ltb-false, ne_eqb, eqb-true}
use lib.ListN.{length, length-append, get_or}
use lib.Dec.{ltb, eqb}
use Rattle.cells.specs.Cells.{cells, cell_at}
use Rattle.cells.specs.declared.Cursor.{Cursor}
use Rattle.ir.specs.declared.«Type».{«Type» as IrType}
use Rattle.ir.specs.declared.Instr.{Instr}
use Rattle.ir.specs.Types as types
use Rattle.ir.specs.Types.{Result, ok}
use Rattle.ir.specs.Function.{Line, type_at, instr_at, copy_at, unary_at, binary_at, cast_at, zero_at, call_at, label_at, jump_at, jump_if_not_at, return_at, arguments_at, line_at, lines_at, behind, body_from}
use Rattle.ir.proofs.Sheet.{lines_more}
use Rattle.std.specs.Prelude.{Ok, Err}
use Rattle.cells.specs.declared.refusals.Refusal.{Refusal}
use Rattle.cells.specs.declared.refusals.Refused.{Refused}
use Rattle.cells.specs.Refusals.{number_of_refusal}
use Rattle.layout.specs.declared.Edition.{Edition}
use Rattle.layout.specs.Limits.{most_arguments}
use Rattle.layout.specs.Layout.{Checked, Laid, cursor, instrs_in, instr_check, instrs_check, head_check}
use Rattle.layout.proofs.Passed as passed
use Rattle.layout.proofs.Laws.{instr_right, instrs_more, head_few, head_starts}
use Rattle.layout.proofs.Walk.{walk_from}
use Rattle.x86.specs.declared.enums.Instruction.{Instruction}
use Rattle.codegen.specs.Context.{Context}
use Rattle.codegen.specs.Generation.{Outcome, accepted, refused, ◌>>=◌, at, generate_instruction, generate_body, ends_in_ret}
use Rattle.codegen.specs.Bounds.{most_records, most_in_body}
use Rattle.codegen.proofs.Results.{never}
use Rattle.codegen.proofs.Shapes.{is_return, Part, instr_part, ends_some, ends_same}
use Rattle.ir.proofs.Sheet.{operands_length}
use Rattle.utils.specs.Answers.{counted}
use Rattle.utils.specs.Makes.{after, Makes, Fits, Ready, then}
use Rattle.utils.proofs.Made.{Going, begins, next_ready, next, stops, finishes}
use Rattle.body.specs.Body.{Passed, Surveyed, body_of, without_place, passed_of, survey_of}

-- ---- what a survey says of instructions behind others

-- This is what it says of those that are left, behind n records, the last of them Ret or not.
abbrev passed_behind : ℕ → Bool → Passed → Passed
passed_behind n last (Passed.Made m ret) = Passed.Made (n + m) (cond (ltb 0 m) ret last)
passed_behind n last (Passed.Refused m i) = Passed.Refused m i

behind_none : (o : Outcome (List Instruction)) → passed_of o ≡ passed_behind 0 false (passed_of o)
unfolding ends_in_ret
behind_none (accepted []) = refl
behind_none (accepted (x ∷ xs)) =
    let e : 0 + length (x ∷ xs) ≡ length (x ∷ xs) = omega arith in
    rw (lt-ltb 0 (length (x ∷ xs)) (omega arith), e)
behind_none (refused n i) = refl

behind_both : (n m : ℕ) (last ret : Bool) (p : Passed) → passed_behind n last (passed_behind m ret p) ≡ passed_behind (n + m) (cond (ltb 0 m) ret last) p
behind_both n m last ret (Passed.Made zero r) = let e : m + 0 ≡ m = omega arith in let f : n + m + 0 ≡ n + m = omega arith in rw (e, f)
behind_both n m last ret (Passed.Made (suc k) r) =
    let e : n + (m + suc k) ≡ n + m + suc k = omega arith in
    rw (lt-ltb 0 (m + suc k) (omega arith), lt-ltb 0 (suc k) (omega arith), e)
behind_both n m last ret (Passed.Refused k i) = refl

-- The first instruction makes records, or it is refused.
module _ (ctx : Context) (labels : ℕ) (ret : IrType) (i : ℕ) (line : Line) (lines : List Line) where
  one_more_lem : (is : List Instruction) → generate_instruction ctx labels ret line ≡ ok is →
      passed_of (generate_body ctx labels ret i (line ∷ lines)) ≡ passed_behind (length is) (ends_in_ret is) (passed_of (generate_body ctx labels ret (suc i) lines))
  unfolding generate_body
  one_more_lem is e = rw e (go (generate_body ctx labels ret (suc i) lines))
    where
      last : (js : List Instruction) (b : Bool) → ltb 0 (length js) ≡ b → ends_in_ret (is ++ js) ≡ cond b (ends_in_ret js) (ends_in_ret is)
      last js true t = let h = ltb-true 0 (length js) t in ends_some is js (omega arith)
      last js false t = let h = ltb-false 0 (length js) t in ends_same is js (omega arith)

      go : (r : Outcome (List Instruction)) → passed_of (r >>= λ rest. accepted (is ++ rest)) ≡ passed_behind (length is) (ends_in_ret is) (passed_of r)
      go (accepted js) = rw (length-append, last js _ refl)
      go (refused n place) = refl

  no_more : (n : ℕ) → generate_instruction ctx labels ret line ≡ types.refused n → generate_body ctx labels ret i (line ∷ lines) ≡ refused n i
  unfolding generate_body
  no_more n e = rw e

  -- It is one maker, and the others follow it.
  in_turn : without_place (generate_body ctx labels ret i (line ∷ lines)) ≡ then (generate_instruction ctx labels ret line) (without_place (generate_body ctx labels ret (suc i) lines))
  unfolding generate_body
  in_turn = go (generate_instruction ctx labels ret line) (generate_body ctx labels ret (suc i) lines)
    where
      go : (r : Result (List Instruction)) (q : Outcome (List Instruction)) → without_place (at i r >>= λ is. q >>= λ rest. accepted (is ++ rest)) ≡ then r (without_place q)
      go (ok is) (accepted js) = refl
      go (ok is) (refused n place) = refl
      go (types.refused n) q = refl

-- ---- the last record

far : (n : ℕ) → suc (suc (suc (suc (suc (suc (suc (suc (suc (suc n))))))))) ≡ 9 → ⊥
far n e = omega arith

returns_at : (s : List ℕ) (k : ℕ) → is_return (instr_at s k) ≡ eqb (cell_at s k) 9
unfolding instr_at
returns_at s k = go (cell_at s k)
  where
    go : (n : ℕ) → is_return (get_or (copy_at ∷ unary_at ∷ binary_at ∷ cast_at ∷ zero_at ∷ call_at ∷ label_at ∷ jump_at ∷ jump_if_not_at ∷ return_at ∷ []) n (λ s k. Instr.Comment) s k) ≡ eqb n 9
    go zero = refl
    go (suc zero) = refl
    go (suc (suc zero)) = refl
    go (suc (suc (suc zero))) = refl
    go (suc (suc (suc (suc zero)))) = refl
    go (suc (suc (suc (suc (suc zero))))) = refl
    go (suc (suc (suc (suc (suc (suc zero)))))) = refl
    go (suc (suc (suc (suc (suc (suc (suc zero))))))) = refl
    go (suc (suc (suc (suc (suc (suc (suc (suc zero)))))))) = refl
    go (suc (suc (suc (suc (suc (suc (suc (suc (suc zero))))))))) = refl
    go (suc (suc (suc (suc (suc (suc (suc (suc (suc (suc n)))))))))) = sym (ne_eqb (suc (suc (suc (suc (suc (suc (suc (suc (suc (suc n)))))))))) 9 (far n))

-- ---- an instruction and its answer

-- A number of records is the length of a list.
counted_ok : (r : Result (List Instruction)) {n : ℕ} → ok n ≡ counted r → (is : List Instruction) × (r ≡ ok is) × (n ≡ length is)
counted_ok (ok is) e = (is, refl, let z = e in cc)
counted_ok (types.refused m) e = absurd (never (sym e))

counted_refused : (r : Result (List Instruction)) {n : ℕ} → types.refused n ≡ counted r → r ≡ types.refused n
counted_refused (ok is) e = absurd (never e)
counted_refused (types.refused m) e = let z = e in cc

-- The layout of an instruction is right.
module _ (s : List ℕ) (c : Cursor) {d : Cursor} (e : instr_check s c ≡ Ok d) where
  pub right_there : c.at + 1 ≤ cells s
  right_there = omega (arith, (instr_right Edition.First s c e).there)

  pub right_behind : behind s c.at ≤ cells s
  right_behind = let b = instr_right Edition.First s c e in omega (arith, b.ends, b.within)

  -- A call has few arguments.
  pub right_few : arguments_at s c.at ≤ most_arguments
  unfolding arguments_at
  right_few = go (eqb (cell_at s c.at) 5) (λ t. (instr_right Edition.First s c e).few (eqb-true _ _ t))
    where
      go : (t : Bool) → (t ≡ true → cell_at s (c.at + 6) ≤ most_arguments) → cond t (cell_at s (c.at + 6)) 0 ≤ most_arguments
      go true f = f refl
      go false f = omega arith

-- The first instruction is checked before the others.
module _ (s : List ℕ) where
  instrs_behind : (n : ℕ) (c : Cursor) {d : Cursor} → 0 < n → instr_check s c ≡ Ok d → instrs_check s n c ≡ instrs_check s (n - 1) d
  unfolding instrs_in
  instrs_behind zero c h e = absurd (omega arith)
  instrs_behind (suc n) c {d} h e = let l : suc n - 1 ≡ n = omega arith in rw (e, l) refl

  instrs_wrong : (n : ℕ) (c : Cursor) {r : Refused} → 0 < n → instr_check s c ≡ Err r → instrs_check s n c ≡ Err r
  unfolding instrs_in
  instrs_wrong zero c h e = absurd (omega arith)
  instrs_wrong (suc n) c h e = rw e refl

  instrs_none : (n : ℕ) (c : Cursor) → n ≤ 0 → instrs_check s n c ≡ Ok c
  unfolding instrs_in
  instrs_none zero c h = refl
  instrs_none (suc n) c h = absurd (omega arith)

  instrs_right : (n : ℕ) (c : Cursor) {d : Cursor} → 0 < n → instrs_check s n c ≡ Ok d → instr_check s c ≡ Ok (cursor (behind s c.at))
  instrs_right zero c h e = absurd (omega arith)
  instrs_right (suc n) c h e = (instrs_more Edition.First s n c e).0

-- ---- the loop

-- There are `left` instructions to come from a cursor on, the first of them number i, behind `made` records, the last of them Ret or not. `whole` is the
-- body, and `all` is the layout of its instructions.
pub record Walking (ctx : Context) (labels : ℕ) (ret : IrType) (s : List ℕ) (whole : Outcome (List Instruction)) (all : Checked) (writes : Bool) (place : ℕ) (old : List ℕ)
    (left : ℕ) (here : Cursor) (i made : ℕ) (last : Bool) (new : List ℕ) : Type 0 where
  pub few : made + most_records most_arguments * left ≤ most_in_body
  pub number : i + left ≤ 4097
  pub layout : instrs_check s left here ≡ all
  pub says : passed_of whole ≡ passed_behind made last (passed_of (generate_body ctx labels ret i (lines_at s left here.at)))
  pub going : Going writes (without_place whole) place old (without_place (generate_body ctx labels ret i (lines_at s left here.at))) made new

pub none_walked : (ctx : Context) (s : List ℕ) {from : Cursor} → head_check s ≡ Ok (cell_at s 5, from) → {labels left : ℕ} {ret : IrType} (writes : Bool) (place : ℕ) (old : List ℕ)
    → labels ≡ cell_at s 2 → ret ≡ type_at s 3 → left ≡ cell_at s 5
    → Walking ctx labels ret s (body_of ctx s) (instrs_check s (cell_at s 5) from) writes place old left from 1 0 false old
unfolding body_of
none_walked ctx s {from} h writes place old a b c =
    rw (a, b, c) (record {
      few = omega (arith, head_few s h);
      number = omega (arith, head_few s h);
      layout = refl;
      says = rw (head_starts s h) (behind_none (body_of ctx s));
      going = begins writes _ _ place old (rw (head_starts s h) refl);
    })

-- The layout of all instructions is right where that of the sheet is.
pub laid_all : {s : List ℕ} {from : Cursor} → head_check s ≡ Ok (cell_at s 5, from) → (r : Laid s) → instrs_check s (cell_at s 5) from ≡ Ok (walk_from r).end
laid_all {s} {from} h r = let e : from ≡ cursor (body_from s) = ap cursor (head_starts s h) in rw e (walk_from r).is

module _ {ctx : Context} {labels : ℕ} {ret : IrType} {s : List ℕ} {whole : Outcome (List Instruction)} {all : Checked} {writes : Bool} {place : ℕ} {old : List ℕ} {left : ℕ} {here : Cursor}
    {i made : ℕ} {last : Bool} {new : List ℕ} (g : Walking ctx labels ret s whole all writes place old left here i made last new) where
  module _ (h : 0 < left) where
    abbrev line : Result (List Instruction)
    line = generate_instruction ctx labels ret (line_at s here.at)

    abbrev later : Cursor → Outcome (List Instruction)
    later d = generate_body ctx labels ret (i + 1) (lines_at s (left - 1) d.at)

    pub walked_right : {d : Cursor} → all ≡ Ok d → instr_check s here ≡ Ok (cursor (behind s here.at))
    walked_right e = instrs_right s left here h (g.layout ∙ e)

    module _ {d : Cursor} (e : instr_check s here ≡ Ok d) where
      left_is : lines_at s left here.at ≡ (line_at s here.at ∷ lines_at s (left - 1) d.at)
      left_is = rw (instr_right Edition.First s here e).ends (lines_more s left here.at h)

      left_in_turn : without_place (generate_body ctx labels ret i (lines_at s left here.at)) ≡ then line (without_place (later d))
      left_in_turn = rw (left_is, add-one i) (in_turn ctx labels ret i (line_at s here.at) (lines_at s (left - 1) d.at))

      -- Its records are few, and they end in Ret where it is a Return.
      module _ {n : ℕ} (is : List Instruction) (made-is : line ≡ ok is) (long : n ≡ length is) where
        part : Part (most_records (length (line_at s here.at).args)) (is_return (instr_at s here.at)) is
        part = (instr_part ctx labels ret (line_at s here.at).instr (line_at s here.at).args).of is made-is

        says_more : passed_of whole ≡ passed_behind (made + n) (cond (ltb 0 n) (eqb (cell_at s here.at) 9) last) (passed_of (later d))
        says_more =
            let q = one_more_lem ctx labels ret i (line_at s here.at) (lines_at s (left - 1) d.at) is made-is in
            let v : passed_of (generate_body ctx labels ret i (lines_at s left here.at)) ≡ passed_behind n (eqb (cell_at s here.at) 9) (passed_of (later d))
            = rw (left_is, add-one i, ← returns_at s here.at, ← part.last, long) q in
            g.says ∙ ap (passed_behind made last) v ∙ behind_both made n last (eqb (cell_at s here.at) 9) (passed_of (later d))

      module _ (room : Ready writes (without_place whole) place (length old)) where
        pub walked_ready : {p : ℕ} → p ≡ place + 64 * made → Ready writes line p (length new)
        walked_ready f = next_ready g.going room line (without_place (later d)) left_in_turn f

        module _ {n p : ℕ} {newer : List ℕ} (f : p ≡ place + 64 * made) (m : Makes writes line p new newer (Ok n)) where
          abbrev answer : (is : List Instruction) × (line ≡ ok is) × (n ≡ length is)
          answer = counted_ok line m.says

          pub walked_few : n ≤ most_records most_arguments
          walked_few = omega (arith, (part answer.0 answer.1 answer.2).few, answer.2, operands_length s (arguments_at s here.at) (here.at + 13), right_few s here e)

          pub walked_more : Walking ctx labels ret s whole all writes place old (left - 1) d (i + 1) (made + n) (cond (ltb 0 n) (eqb (cell_at s here.at) 9) last) newer
          walked_more =
              record {
                few = omega (arith, g.few, walked_few);
                number = omega (arith, g.number);
                layout = sym (instrs_behind s left here h e) ∙ g.layout;
                says = says_more answer.0 answer.1 answer.2;
                going = next g.going room line (without_place (later d)) left_in_turn f m;
              }

        module _ {x : Refusal} {p : ℕ} {newer : List ℕ} (m : Makes writes line p new newer (Err x)) where
          abbrev n : ℕ
          n = number_of_refusal x

          pub walked_refused : {r : Surveyed} → r ≡ survey_of (instrs_check s (left - 1) d) (Passed.Refused n i) → r ≡ survey_of all (passed_of whole)
          walked_refused f =
              let q = no_more ctx labels ret i (line_at s here.at) (lines_at s (left - 1) d.at) n (counted_refused line m.says) in
              let v : generate_body ctx labels ret i (lines_at s left here.at) ≡ refused n i = rw left_is q in
              let w : passed_of whole ≡ Passed.Refused n i = g.says ∙ ap (λ (x : Outcome (List Instruction)). passed_behind made last (passed_of x)) v in
              f ∙ rw w (ap (λ (x : Checked). survey_of x (Passed.Refused n i)) (sym (instrs_behind s left here h e) ∙ g.layout))

          pub walked_unwritten : newer ≡ cond writes (after (without_place whole) place old) old
          walked_unwritten = (stops g.going room line (without_place (later d)) left_in_turn m).bytes

    -- The layout is wrong, which the pass that writes does not meet.
    module _ {x : Refused} (e : instr_check s here ≡ Err x) where
      pub walked_wrong : Surveyed.Wrong (number_of_refusal x.refusal) x.place ≡ survey_of all (passed_of whole)
      walked_wrong = ap (λ (x : Checked). survey_of x (passed_of whole)) (sym (instrs_wrong s left here h e) ∙ g.layout)

      pub wrong_unwritten : (writes ≡ true → instr_check s here ≡ Ok (cursor (behind s here.at))) → new ≡ cond writes (after (without_place whole) place old) old
      wrong_unwritten f = go writes refl
        where
          go : (b : Bool) → writes ≡ b → new ≡ cond b (after (without_place whole) place old) old
          go true w = passed.never (sym e ∙ f w)
          go false w = rw w at g.going.bytes

  -- No instruction is left.
  module _ (h : left ≤ 0) where
    none_left : generate_body ctx labels ret i (lines_at s left here.at) ≡ accepted []
    unfolding generate_body lines_at
    none_left = let e : left ≡ 0 = omega arith in rw e refl

    pub all_walked : Surveyed.Laid (Passed.Made made last) here ≡ survey_of all (passed_of whole)
    unfolding ends_in_ret
    all_walked =
        let z : made + 0 ≡ made = omega arith in
        let w : passed_of whole ≡ Passed.Made made last = rw (none_left, z) at g.says in
        rw w (ap (λ (x : Checked). survey_of x (Passed.Made made last)) (sym (instrs_none s left here h) ∙ g.layout))

    pub all_written : Ready writes (without_place whole) place (length old) → new ≡ cond writes (after (without_place whole) place old) old
    all_written room = (finishes g.going room (ap without_place none_left)).bytes

-- ---- what a survey says of its layout and its records

pub survey_laid : (x : Checked) (p : Passed) {q : Passed} {c : Cursor} → Surveyed.Laid q c ≡ survey_of x p → (x ≡ Ok c) × (q ≡ p)
survey_laid (Ok d) p e = (let z = e in cc, let z = e in cc)
survey_laid (Err r) p e = absurd (let z : ◌≡◌ {A = ℕ} 0 1 = cc in omega arith)

pub survey_wrong : (x : Checked) (p : Passed) {n k : ℕ} → Surveyed.Wrong n k ≡ survey_of x p
    → (r : Refused) × (x ≡ Err r) × (number_of_refusal r.refusal ≡ n) × (r.place ≡ k)
survey_wrong (Ok d) p e = absurd (let z : ◌≡◌ {A = ℕ} 0 1 = cc in omega arith)
survey_wrong (Err r) p e = (r, refl, let z = e in sym cc, let z = e in sym cc)

-- ---- the pass that writes: its layout is right, and its list has room

module _ (ctx : Context) (s : List ℕ) (from : Cursor) {r : Surveyed} (e : r ≡ survey_of (instrs_check s (cell_at s 5) from) (passed_of (body_of ctx s))) where
  abbrev whole : Outcome (List Instruction)
  whole = body_of ctx s

  abbrev all : Checked
  all = instrs_check s (cell_at s 5) from

  module _ {p : Passed} {c : Cursor} (f : r ≡ Surveyed.Laid p c) where
    pub survey_made : {n : ℕ} {ret : Bool} {at : ℕ} {old new : List ℕ} → p ≡ Passed.Made n ret → new ≡ after (without_place whole) at old → Makes true (without_place whole) at old new (Ok n)
    survey_made {n} {ret} h b = record { says = go whole (sym h ∙ (survey_laid all (passed_of whole) (sym f ∙ e)).1); bytes = b }
      where
        go : (o : Outcome (List Instruction)) → Passed.Made n ret ≡ passed_of o → ok n ≡ counted (without_place o)
        go (accepted is) e = let l : n ≡ length is = let z = e in cc in ap ok l
        go (refused m i) e = absurd (let z : ◌≡◌ {A = ℕ} 0 1 = cc in omega arith)

    pub never_refused : {A : Type 0} {n i at m : ℕ} → p ≡ Passed.Refused n i → Ready true (without_place whole) at m → A
    never_refused {A} {n} {i} {at} {m} h y = go whole (sym h ∙ (survey_laid all (passed_of whole) (sym f ∙ e)).1) (y.room refl)
      where
        go : (o : Outcome (List Instruction)) → Passed.Refused n i ≡ passed_of o → Fits (without_place o) at m → A
        go (accepted is) e y = absurd (let z : ◌≡◌ {A = ℕ} 0 1 = cc in omega arith)
        go (refused k j) e y = absurd y

  pub never_wrong : {A : Type 0} {n k : ℕ} → r ≡ Surveyed.Wrong n k → head_check s ≡ Ok (cell_at s 5, from) → Laid s → A
  never_wrong f h l = passed.never (sym (survey_wrong all (passed_of whole) (sym f ∙ e)).1 ∙ laid_all h l)

-- What a conversion answers, told as the code finds it.
use Rattle.std.proofs.Common.{◌≡◌, ℕ, ◌*◌, Bool, true, false, cond, List, length, refl}
use Rattle.std.specs.Prelude.{ltb, Option, Some, None, Result, Ok, Err}
use Rattle.cells.specs.Outcomes.{accepted, refused, ◌>>=◌, amount, outcome}
use Rattle.cells.specs.Refusals.{page_full, type_differs}
use Rattle.cells.specs.declared.refusals.Refusal.{Refusal}
use Rattle.cells.specs.declared.refusals.Refused.{Refused}
use Rattle.layout.specs.declared.Edition.{Edition}
use Rattle.layout.specs.Layout.{Checked, refuse, bind_checked, sheet_in, LaidIn}
use Rattle.layout.proofs.Walk.{laid_from}
use Rattle.edition.specs.Editions.{other, ids, stray_in, sheet_cells, unless, converted, output_after}
use Rattle.edition.specs.Answers.{looked_up, refused_if}
use Rattle.edition.specs.Walked.{Entered}
use Rattle.edition.proofs.Parts.{none_stray}
use Rattle.edition.proofs.Strays.{and_then}
use Rattle.edition.proofs.Written.{entered_all}

-- the cells of the result where they have room
abbrev pub placed : ℕ → List ℕ → Result (List ℕ) Refused
placed room xs = cond (ltb room (8 * length xs)) (refuse Refusal.PageFull (length xs)) (Ok xs)

pub converted_is : (e : Edition) (s : List ℕ) (room : ℕ) →
    converted e s room ≡ outcome (bind_checked Err (sheet_in e s) (λ end. and_then (looked_up e s (ids e s)) (placed room (sheet_cells e (other e) s))))
unfolding converted
converted_is e s room = go (sheet_in e s) (stray_in e s (ids e s)) (ltb room (8 * length (sheet_cells e (other e) s)))
  where
    xs : List ℕ
    xs = sheet_cells e (other e) s

    go : (x : Checked) (o : Option ℕ) (short : Bool) →
        outcome x >>= (λ end. unless type_differs o >>= (λ u. cond short (refused page_full (length xs)) (accepted xs)))
        ≡ outcome (bind_checked Err x (λ end. and_then (refused_if o) (cond short (refuse Refusal.PageFull (length xs)) (Ok xs))))
    go (Err r) o short = refl
    go (Ok end) (Some k) short = refl
    go (Ok end) None true = refl
    go (Ok end) None false = refl

-- an answer, and the output afterwards
pub record Answered (e : Edition) (s old new : List ℕ) (r : Result ℕ Refused) : Type 0 where
  pub says : outcome r ≡ amount length (converted e s (length old))
  pub bytes : new ≡ output_after (converted e s (length old)) old

pub says_stray : (e : Edition) (s old : List ℕ) → LaidIn e s → {k : ℕ} → Some k ≡ stray_in e s (ids e s) → Answered e s old old (refuse Refusal.TypeDiffers k)
unfolding converted output_after
says_stray e s old laid {k} h =
    let g : converted e s (length old) ≡ refused type_differs k = rw (laid.is, ← h) refl in
    record { says = rw g refl; bytes = rw g refl }

-- ids that were looked up have entries
pub agreed_entered : (e : Edition) (s ks : List ℕ) {u : Unit {0}} → looked_up e s ks ≡ Ok u → Entered s ks
agreed_entered e s ks h = entered_all e s ks (none_stray e s ks (go (stray_in e s ks) h))
  where
    go : (o : Option ℕ) {u : Unit {0}} → refused_if o ≡ Ok u → o ≡ None
    go None h = refl
    go (Some k) h = absurd cc

pub ruleset converting = (converted_is, agreed_entered, laid_from)

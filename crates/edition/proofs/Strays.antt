-- Ids that are looked up one list behind the other.
use Rattle.std.proofs.Common.{◌≡◌, Bool, true, false, cond, List, [], ◌∷◌, ◌++◌, ℕ, refl}
use Rattle.std.specs.Prelude.{Some, Result, Ok, Err}
use Rattle.cells.specs.declared.refusals.Refused.{Refused}
use Rattle.layout.specs.declared.Edition.{Edition}
use Rattle.edition.specs.Editions.{agrees, stray_in}
use Rattle.edition.specs.Answers.{looked_up, refused_if}
use Rattle.layout.proofs.Walk.{has_params}
use Rattle.edition.proofs.Written.{laid_present}
use Rattle.edition.proofs.Turns.{operand_ids_on, operand_ids_off, instr_ids_on, instr_ids_off, param_ids_on, param_ids_off, present_on}

-- what follows ids that agree; a refusal stands
abbrev pub and_then : {A : Type 0} → Result (Unit {0}) Refused → Result A Refused → Result A Refused
and_then (Ok u) rest = rest
and_then (Err r) rest = Err r

pub parts : (e : Edition) (s xs ys : List ℕ) → looked_up e s (xs ++ ys) ≡ and_then (looked_up e s xs) (looked_up e s ys)
unfolding stray_in
parts e s [] ys = refl
parts e s (x ∷ xs) ys = go (parts e s xs ys) (agrees e s x)
  where
    go : looked_up e s (xs ++ ys) ≡ and_then (looked_up e s xs) (looked_up e s ys) → (b : Bool) →
        refused_if (cond b (stray_in e s (xs ++ ys)) (Some x)) ≡ and_then (refused_if (cond b (stray_in e s xs) (Some x))) (looked_up e s ys)
    go h true = h
    go h false = refl

pub ruleset looking = (parts, operand_ids_on, operand_ids_off, instr_ids_on, instr_ids_off, param_ids_on, param_ids_off, present_on)

pub ruleset sheet_looking = (parts, has_params, laid_present)

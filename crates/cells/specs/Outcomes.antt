-- Believed: the answer to a call: what was asked for, or a refusal by its number and place (docs/FORMAT.md, "Refusals"). A place is a cell, an instruction's
-- number from 1 and 0 before the body, or how much is needed.
use Rattle.std.specs.Prelude.{ℕ, Bool, true, false, Result, Ok, Err}
use Rattle.cells.specs.declared.refusals.Refused.{Refused}
use Rattle.cells.specs.Refusals.{number_of_refusal}

pub data Outcome (A : Type 0) : Type 0 where
  accepted : A → Outcome A
  refused : ℕ → ℕ → Outcome A

-- what follows an accepted answer; a refusal stays
infixl 20 ◌>>=◌
abbrev pub ◌>>=◌ : {A B : Type 0} → Outcome A → (A → Outcome B) → Outcome B
accepted a >>= f = f a
refused n place >>= f = refused n place

-- refused by this number and place, unless the test holds
abbrev pub require : Bool → ℕ → ℕ → Outcome (Unit {0})
require true n place = accepted tt
require false n place = refused n place

-- the same answer with a number for what was asked for
abbrev pub amount : {A : Type 0} → (A → ℕ) → Outcome A → Outcome ℕ
amount f (accepted a) = accepted (f a)
amount f (refused n place) = refused n place

-- ---- an answer as C gets it: two numbers

-- 0, or the number of the refusal
abbrev pub number_of : {A : Type 0} → Outcome A → ℕ
number_of (accepted a) = 0
number_of (refused n place) = n

-- how much was asked for, or the place of the refusal
abbrev pub place_of : {A : Type 0} → (A → ℕ) → Outcome A → ℕ
place_of f (accepted a) = f a
place_of f (refused n place) = place

-- ---- what the code answers

abbrev pub outcome : {A : Type 0} → Result A Refused → Outcome A
outcome (Ok a) = accepted a
outcome (Err r) = refused (number_of_refusal r.refusal) r.place

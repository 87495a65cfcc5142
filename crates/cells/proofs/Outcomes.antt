-- From an answer that has a number for what was asked for, back to the answer itself and to the two numbers of it.
use Prim.Native.Nat.{ℕ}
use mathlib.Core.Path.{◌≡◌, refl}
use native.Mathlib.Omega.{arith}
use Rattle.cells.specs.Outcomes.{Outcome, accepted, refused, amount, number_of, place_of}

module _ {A : Type 0} (f : A → ℕ) where
  pub accepted_is : (o : Outcome A) {n : ℕ} → accepted n ≡ amount f o → (a : A) × (o ≡ accepted a)
  accepted_is (accepted a) e = (a, refl)
  accepted_is (refused m q) e = let z : ◌≡◌ {A = ℕ} 0 1 = cc in absurd (omega arith)

  pub refused_is : (o : Outcome A) {n p : ℕ} → refused n p ≡ amount f o → o ≡ refused n p
  refused_is (accepted a) e = let z : ◌≡◌ {A = ℕ} 0 1 = cc in absurd (omega arith)
  refused_is (refused m q) e = cc

  pub accepted_numbers : (o : Outcome A) {n : ℕ} → accepted n ≡ amount f o → (0 ≡ number_of o) × (n ≡ place_of f o)
  accepted_numbers (accepted a) e = (refl, cc)
  accepted_numbers (refused m q) e = let z : ◌≡◌ {A = ℕ} 0 1 = cc in absurd (omega arith)

  pub refused_numbers : (o : Outcome A) {n p : ℕ} → refused n p ≡ amount f o → (n ≡ number_of o) × (p ≡ place_of f o)
  refused_numbers (accepted a) e = let z : ◌≡◌ {A = ℕ} 0 1 = cc in absurd (omega arith)
  refused_numbers (refused m q) e = (cc, cc)

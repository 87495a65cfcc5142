-- Tests put together and taken apart, and tests of every element of a list.
use Prim.Native.Nat.{ℕ, zero, suc, ◌+◌, ◌-◌, ◌<◌, ◌≤◌}
use mathlib.Core.Path.{◌≡◌, refl, subst}
use mathlib.Core.Bool.{Bool, true, false, not, ◌&&◌, false≢true}
use mathlib.Core.List.{List, [], ◌∷◌}
use lib.ListN.{length, get_or}
use native.Mathlib.Omega.{arith}
use native.Mathlib.Nat.{not-suc-le-zero, le_of_suc-le-suc}
use Rattle.machine.specs.Plain.{every}

pub both : (a b : Bool) → (a && b) ≡ true → (a ≡ true) × (b ≡ true)
both true b e = (refl, e)
both false b e = absurd (false≢true e)

pub not-true : (b : Bool) → not b ≡ true → b ≡ false
not-true true e = absurd (false≢true e)
not-true false e = refl

-- an element passes
pub every_at : {A : Type 0} (f : A → Bool) (xs : List A) (k : ℕ) (d : A) → every f xs ≡ true → k < length xs → f (get_or xs k d) ≡ true
unfolding every
every_at f [] k d e h = absurd (not-suc-le-zero h)
every_at f (x ∷ xs) zero d e h = (both (f x) (every f xs) e).0
every_at f (x ∷ xs) (suc k) d e h = every_at f xs k d (both (f x) (every f xs) e).1 (le_of_suc-le-suc h)

-- a number from lo to lo + 3
pub four_cases : (P : ℕ → Type 0) (lo k : ℕ) → lo ≤ k → k ≤ lo + 3 → P (lo + 0) → P (lo + 1) → P (lo + 2) → P (lo + 3) → P k
four_cases P lo k h g p₀ p₁ p₂ p₃ = subst P e (go (k - lo) (omega arith))
  where
    e : lo + (k - lo) ≡ k
    e = omega arith

    go : (j : ℕ) → j ≤ 3 → P (lo + j)
    go zero i = p₀
    go (suc zero) i = p₁
    go (suc (suc zero)) i = p₂
    go (suc (suc (suc zero))) i = p₃
    go (suc (suc (suc (suc j)))) i = absurd (omega arith)

-- what holds of every entry of a table holds of one that is looked up
abbrev pub Each : {A : Type 0} → (A → Type 0) → List A → Type 0
Each P [] = Unit {0}
Each P (x ∷ xs) = P x × Each P xs

pub each_or : {A : Type 0} (P : A → Type 0) (xs : List A) (k : ℕ) (d : A) → Each P xs → P d → P (get_or xs k d)
each_or P [] k d h e = e
each_or P (x ∷ xs) zero d h e = h.0
each_or P (x ∷ xs) (suc k) d h e = each_or P xs k d h.1 e

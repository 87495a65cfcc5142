-- A loop of n turns, behind i of them: what is left to do, from the state that it has come to, gives what the whole gives.
use Prim.Native.Nat.{ℕ, suc, ◌+◌, ◌-◌, ◌≤◌, ◌<◌}
use mathlib.Core.Path.{◌≡◌, sym, ap, ◌∙◌}
use native.Mathlib.Omega.{arith}

module _ {S R : Type 0} (rep : ℕ → S → R) (whole : R) where
  pub record Turns (n i : ℕ) (x : S) : Type 0 where
    pub is : rep (n - i) x ≡ whole

  module _ {n i : ℕ} {x : S} (h : Turns n i x) where
    -- a turn goes on to the next state
    pub goes_on : (y : S) → i < n → rep (suc (n - (i + 1))) x ≡ rep (n - (i + 1)) y → Turns n (i + 1) y
    goes_on y p e =
        let l : suc (n - (i + 1)) ≡ n - i = omega arith in
        record { is = sym e ∙ ap (λ (k : ℕ). rep k x) l ∙ h.is }

    -- a turn gives the answer
    pub stops : {r : R} → i < n → rep (suc (n - (i + 1))) x ≡ r → r ≡ whole
    stops p e =
        let l : suc (n - (i + 1)) ≡ n - i = omega arith in
        sym e ∙ ap (λ (k : ℕ). rep k x) l ∙ h.is

    -- no turn is left
    pub ends : {r : R} → n ≤ i → rep 0 x ≡ r → r ≡ whole
    ends p e =
        let l : 0 ≡ n - i = omega arith in
        sym e ∙ ap (λ (k : ℕ). rep k x) l ∙ h.is

-- The rank of a pattern is its place in the order of signed numbers: the one law to ℤ.
use Prim.Native.Nat.{ℕ, suc, ◌-◌, ◌<◌, ◌≤◌}
use mathlib.Core.Path.{◌≡◌, refl, sym, ap, ap₂, ◌∙◌}
use mathlib.Core.Bool.{Bool, true, false, cond, not}
use lib.Dec.{ltb, leb}
use lib.IntN.{ℤ, pos, negsuc, sub_ℕ}
use lib.Signed.{lt_z, le_z}
use native.Mathlib.Omega.{arith}
use borrow.Author.Tests.{ltb-true, ltb-false, lt-ltb, le-ltb}
use Rattle.machine.specs.Word.{bound, sign, rank}
use Rattle.machine.proofs.Flags.{half, rank_low, rank_high, not_ltb}

-- a pattern of n bytes as two's complement: itself, or less 2 ^ width where its highest bit is set
abbrev pub signed : ℕ → ℕ → ℤ
signed n a = cond (sign n a) (sub_ℕ a (bound n)) (pos a)

same_ltb : (x y u v : ℕ) → (x < y → u < v) → (y ≤ x → v ≤ u) → ltb x y ≡ ltb u v
same_ltb x y u v f g = go (ltb x y) refl
  where
    go : (b : Bool) → ltb x y ≡ b → b ≡ ltb u v
    go true e = sym (lt-ltb u v (f (ltb-true x y e)))
    go false e = sym (le-ltb u v (g (ltb-false x y e)))

module _ (n a b : ℕ) (width : 0 < n) (ha : a < bound n) (hb : b < bound n) where
  abbrev below : ℕ → ℤ
  below x = negsuc (bound n - suc x)

  negative : (x : ℕ) → x < bound n → sub_ℕ x (bound n) ≡ below x
  negative x h = rw (lt-ltb x (bound n) h)

  by_signs : (p q : Bool) → sign n a ≡ p → sign n b ≡ q → lt_z (cond p (below a) (pos a)) (cond q (below b) (pos b)) ≡ ltb (rank n a) (rank n b)
  by_signs true true s t =
      let u = rank_high n a width ha s in
      let v = rank_high n b width hb t in
      same_ltb (bound n - suc b) (bound n - suc a) (rank n a) (rank n b) (λ h. omega arith) (λ h. omega arith)
  by_signs true false s t = sym (lt-ltb (rank n a) (rank n b) (omega (arith, rank_high n a width ha s, rank_low n b width hb t, half n width)))
  by_signs false true s t = sym (le-ltb (rank n a) (rank n b) (omega (arith, rank_low n a width ha s, rank_high n b width hb t, half n width)))
  by_signs false false s t =
      let u = rank_low n a width ha s in
      let v = rank_low n b width hb t in
      same_ltb a b (rank n a) (rank n b) (λ h. omega arith) (λ h. omega arith)

  -- less, as signed numbers, is less by rank
  pub signed_lt : lt_z (signed n a) (signed n b) ≡ ltb (rank n a) (rank n b)
  signed_lt =
      ap₂ (λ (x y : ℤ). lt_z (cond (sign n a) x (pos a)) (cond (sign n b) y (pos b))) (negative a ha) (negative b hb)
      ∙ by_signs (sign n a) (sign n b) refl refl

-- .. and so is at most
pub signed_le : (n a b : ℕ) → 0 < n → a < bound n → b < bound n → le_z (signed n a) (signed n b) ≡ leb (rank n a) (rank n b)
signed_le n a b w ha hb =
    not_less (signed n a) (signed n b) ∙ ap not (signed_lt n b a w hb ha) ∙ not_ltb (rank n b) (rank n a)
  where
    not_less : (x y : ℤ) → le_z x y ≡ not (lt_z y x)
    not_less (pos x) (pos y) = sym (not_ltb y x)
    not_less (pos x) (negsuc y) = refl
    not_less (negsuc x) (pos y) = refl
    not_less (negsuc x) (negsuc y) = sym (not_ltb x y)

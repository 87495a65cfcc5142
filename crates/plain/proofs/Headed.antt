-- What `all` answers over a range is what a recursion answers that takes one number of the range after the other.
use Rattle.std.proofs.Common.{◌≡◌, ℕ, zero, suc, ◌+◌, Bool, true, false, ◌&&◌, List, MatchOption, sym, ◌∙◌, arith}
use denote.Param.Members.{Mut}
use Rattle.std.specs.Fn.{Called}
use Rattle.std.specs.Iterator.{YieldsThen}
use Rattle.std.specs.List.{FoldsTo, list_all, range_with_len}
use Rattle.std.specs.declared.ops.Range.{Range}
use Rattle.std.proofs.iter.Yields.{nat_range_steps}
use Rattle.std.proofs.lemmas.Iterator.{YieldsList-from_range}
use Rattle.std.proofs.lemmas.Iterator.Search.{all_from_yields_List}

module _ (test : ℕ → Bool) (whole : ℕ → ℕ → Bool) (b : ℕ) (none : (k : ℕ) → whole 0 k ≡ true)
    (more : (n k : ℕ) → k + suc n ≡ b → whole (suc n) k ≡ (test k && whole n (k + 1))) where
  all_turns : (n k : ℕ) → k + n ≡ b → list_all test (range_with_len k n) ≡ whole n k
  all_turns zero k e = sym (none k)
  all_turns (suc n) k e = rw (more n k e, all_turns n (k + 1) (omega arith))

  pub all_over : {F : Type 0} {g : Mut F (ℕ × Unit {0}) Bool} {s u : Range ℕ} {f : F} {r : Bool} (n a : ℕ) → a + n ≡ b → s ≡ record { start = a; end = b } →
      (xs : List ℕ) × (o : _) × (j : F) × YieldsThen nat_range_steps s xs o u × FoldsTo (λ p x q. Called g p (x, tt) true q) f xs j
      × MatchOption o (r ≡ true) (λ x. (r ≡ false) × ((h : F) × Called g j (x, tt) false h)) →
      ((x : ℕ) (b : Bool) (q : F) → Called g f (x, tt) b q → (q ≡ f) × (b ≡ test x)) → r ≡ whole n a
  all_over {u = u} {f = f} {r = r} n a l e ran call =
      all_from_yields_List test u f r ran (YieldsList-from_range a b n e (omega arith)) call ∙ all_turns n a l

-- The plain test's answer is the least number at fault, and there is none exactly where the function is plain.
use Prim.Native.Nat.{ℕ, zero, suc, ◌+◌, ◌≤◌, ◌<◌}
use mathlib.Core.Path.{◌≡◌, refl, sym, ap, subst, ◌∙◌}
use mathlib.Core.Logic.{◌⊎◌, inl, inr, ◌↔◌}
use mathlib.Core.Bool.{Bool, true, false, cond, not, ◌||◌, false≢true}
use mathlib.Core.List.{List, [], ◌∷◌}
use mathlib.Core.Option.{Option, none, some}
use lib.ListN.{length}
use native.Mathlib.Omega.{arith}
use native.Mathlib.Nat.{eq-or-lt_of_le, le_of_suc-le-suc}
use borrow.Author.Tests.{ne_eqb}
use Rattle.std.specs.Prelude.{Ok, Err}
use Rattle.layout.specs.Layout.{Checked}
use Rattle.layout.specs.Layout.{tables_check, sheet_check}
use Rattle.ir.specs.Function.{Function, Line, tables_of, function_of}
use Rattle.x86.specs.declared.enums.Instruction.{Instruction}
use Rattle.codegen.specs.Generation.{Outcome, accepted, refused, generate}
use Rattle.machine.specs.Plain.{Plain, is_plain_line, is_plain_at, is_refused_at, after_layout, is_fault, first_among, first_fault}
use Rattle.machine.proofs.Run.{le_or_lt}
use Rattle.machine.proofs.Refused.{refused_at}

-- ---- the least number that passes a test

-- no number passes, or this one does and none below it
abbrev pub Least : (ℕ → Bool) → Option ℕ → Type 0
Least f none = (j : ℕ) → f j ≡ false
Least f (some m) = (f m ≡ true) × ((j : ℕ) → j < m → f j ≡ false)

-- there is only one such answer
pub only_least : (f : ℕ → Bool) (a b : Option ℕ) → Least f a → Least f b → a ≡ b
only_least f none none p q = refl
only_least f none (some n) p q = absurd (false≢true (sym (p n) ∙ q.0))
only_least f (some m) none p q = absurd (false≢true (sym (q m) ∙ p.0))
only_least f (some m) (some n) p q = go (le_or_lt m n)
  where
    order : (m ≡ n) ⊎ (m < n) → some m ≡ some n
    order (inl e) = ap some e
    order (inr h) = absurd (false≢true (sym (q.1 m h) ∙ p.0))

    go : (m ≤ n) ⊎ (n < m) → some m ≡ some n
    go (inl h) = order (eq-or-lt_of_le h)
    go (inr h) = absurd (false≢true (sym (p.1 n h) ∙ q.0))

module _ (f : ℕ → Bool) where
  -- .. of the numbers from lo on and below hi
  abbrev Within : ℕ → ℕ → Option ℕ → Type 0
  Within lo hi none = (j : ℕ) → lo ≤ j → j < hi → f j ≡ false
  Within lo hi (some m) = (f m ≡ true) × ((j : ℕ) → lo ≤ j → j < m → f j ≡ false)

  first_or_later : (k j : ℕ) → f k ≡ false → (suc k ≤ j → f j ≡ false) → k ≤ j → f j ≡ false
  first_or_later k j e later h = go (eq-or-lt_of_le h)
    where
      go : (k ≡ j) ⊎ (k < j) → f j ≡ false
      go (inl q) = subst (λ (i : ℕ). f i ≡ false) q e
      go (inr q) = later q

  among : (k : ℕ) (is : List Line) → Within k (k + length is) (first_among f k is)
  unfolding first_among
  among k [] = λ j a b. absurd (omega arith)
  among k (i ∷ is) = go (f k) refl (first_among f (suc k) is) (among (suc k) is)
    where
      go : (b : Bool) → f k ≡ b → (o : Option ℕ) → Within (suc k) (suc k + length is) o → Within k (k + suc (length is)) (cond b (some k) o)
      go true e o w = (e, λ j a b. absurd (omega arith))
      go false e none w = λ j a b. first_or_later k j e (λ c. w j c (omega arith)) a
      go false e (some m) w = (w.0, λ j a b. first_or_later k j e (λ c. w.1 j c b) a)

-- ---- numbers that no instruction has

module _ (F : Function) where
  line_beyond : (before is : List Line) (k : ℕ) → length is ≤ k → is_plain_line F before is k ≡ true
  line_beyond before [] k h = refl
  line_beyond before (i ∷ is) zero h = absurd (omega arith)
  line_beyond before (i ∷ is) (suc k) h = line_beyond (i ∷ before) is k (le_of_suc-le-suc h)

  pub plain_beyond : (k : ℕ) → length F.body < k → is_plain_at F k ≡ true
  unfolding is_plain_at
  plain_beyond zero h = absurd (omega arith)
  plain_beyond (suc k) h = line_beyond [] F.body k (le_of_suc-le-suc h)

module _ (t s : List ℕ) where
  refused_beyond : (k : ℕ) → length (function_of s).body < k → (o : Outcome (List Instruction)) → generate (tables_of t) (function_of s) ≡ o → is_refused_at o k ≡ false
  refused_beyond k h (accepted is) e = refl
  refused_beyond k h (refused n place) e =
      ne_eqb place k (λ q. let w = (refused_at (tables_of t) (function_of s) n place e).within in omega arith)

  -- with a layout that is off only 0 is at fault
  beyond : is_fault t s 0 ≡ false → (k : ℕ) → length (function_of s).body < k → is_fault t s k ≡ false
  unfolding is_fault
  beyond e k h = go (tables_check t) (sheet_check s) e
    where
      go : (a b : Checked)
          → after_layout a 0 (λ u. after_layout b 0 (λ v. not (is_plain_at (function_of s) 0) || is_refused_at (generate (tables_of t) (function_of s)) 0)) ≡ false
          → after_layout a k (λ u. after_layout b k (λ v. not (is_plain_at (function_of s) k) || is_refused_at (generate (tables_of t) (function_of s)) k)) ≡ false
      go (Ok c) (Ok d) e =
          rw (plain_beyond (function_of s) k h, refused_beyond k h (generate (tables_of t) (function_of s)) refl)
      go (Ok c) (Err r) e = absurd (false≢true (sym e))
      go (Err r) b e = absurd (false≢true (sym e))

  -- ---- the answer

  pub first_least : Least (is_fault t s) (first_fault t s)
  unfolding first_fault
  first_least = go (is_fault t s 0) refl (first_among (is_fault t s) 1 (function_of s).body) (among (is_fault t s) 1 (function_of s).body)
    where
      go : (b : Bool) → is_fault t s 0 ≡ b → (o : Option ℕ) → Within (is_fault t s) 1 (1 + length (function_of s).body) o → Least (is_fault t s) (cond b (some 0) o)
      go true e o w = (e, λ j h. absurd (omega arith))
      go false e none w = λ j. every j (le_or_lt j (length (function_of s).body))
        where
          every : (j : ℕ) → (j ≤ length (function_of s).body) ⊎ (length (function_of s).body < j) → is_fault t s j ≡ false
          every j (inl h) = first_or_later (is_fault t s) 0 j e (λ c. w j c (omega arith)) (omega arith)
          every j (inr h) = beyond e j h
      go false e (some m) w = (w.0, λ j h. first_or_later (is_fault t s) 0 j e (λ c. w.1 j c h) (omega arith))

  -- yes exactly where the function is plain
  pub plain_first : Plain t s ↔ (first_fault t s ≡ none)
  plain_first = (to, back)
    where
      to : Plain t s → first_fault t s ≡ none
      to p = only_least (is_fault t s) (first_fault t s) none first_least p.faultless

      back : first_fault t s ≡ none → Plain t s
      back e = record { faultless = subst (Least (is_fault t s)) e first_least }

  -- no with a number exactly where it is the least at fault
  pub fault_first : (k : ℕ) → ((is_fault t s k ≡ true) × ((j : ℕ) → j < k → is_fault t s j ≡ false)) ↔ (first_fault t s ≡ some k)
  fault_first k = (to, back)
    where
      to : (is_fault t s k ≡ true) × ((j : ℕ) → j < k → is_fault t s j ≡ false) → first_fault t s ≡ some k
      to h = only_least (is_fault t s) (first_fault t s) (some k) first_least h

      back : first_fault t s ≡ some k → (is_fault t s k ≡ true) × ((j : ℕ) → j < k → is_fault t s j ≡ false)
      back e = subst (Least (is_fault t s)) e first_least

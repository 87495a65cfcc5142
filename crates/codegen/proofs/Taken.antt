-- Arguments or parameters in order: what they take, and which are in excess.
use Prim.Native.Nat.{ℕ, suc, ◌+◌, ◌≤◌, ◌<◌}
use mathlib.Core.Path.{◌≡◌, refl, sym, ◌∙◌}
use mathlib.Core.Bool.{Bool, true, false, cond}
use mathlib.Core.List.{List, [], ◌∷◌}
use native.Mathlib.Omega.{arith}
use native.Mathlib.Numerals.{add-one}
use borrow.Author.Tests.{lt-leb, leb-false}
use lib.Dec.{leb}
use lib.ListN.{length}
use Rattle.ir.specs.Types.{Result, ok}
use Rattle.x86.specs.declared.enums.Instruction.{Instruction}
use Rattle.codegen.specs.Instructions.{is_spent, words_taken, floats_taken, excess}
use Rattle.codegen.specs.declared.registers.Taken.{Taken}
use Rattle.codegen.specs.Excess.{taken, is_beyond, behind_one, beyond, if_beyond, Within}

-- ---- what is taken

module _ (b : Bool) (t : Taken) {c : Bool} (e : c ≡ is_beyond b t) where
  -- an eightbyte of the stack more
  pub stack_with : c ≡ true → taken t.words t.floats (t.stack + 1) ≡ behind_one b t
  stack_with h = rw (← e, h, add-one t.stack)

  -- a register more, which is left where one is found
  module _ (h : c ≡ false) where
    pub float_left : b ≡ true → t.floats < 8
    float_left k = leb-false 8 t.floats (rw k at (sym e ∙ h))

    pub float_with : b ≡ true → taken t.words (t.floats + 1) t.stack ≡ behind_one b t
    float_with k = rw (← e, h, k, add-one t.floats)

    pub word_left : b ≡ false → t.words < 6
    word_left k = leb-false 6 t.words (rw k at (sym e ∙ h))

    pub word_with : b ≡ false → taken (t.words + 1) t.floats t.stack ≡ behind_one b t
    word_with k = rw (← e, h, k, add-one t.words)

-- no more registers than there are
pub within_more : (b : Bool) (t : Taken) → Within t → Within (behind_one b t)
within_more true t w = go (leb 8 t.floats) (λ e. leb-false 8 t.floats e)
  where
    go : (c : Bool) → (c ≡ false → t.floats < 8) → Within (cond c (taken t.words t.floats (suc t.stack)) (taken t.words (suc t.floats) t.stack))
    go true h = record { words = w.words; floats = w.floats }
    go false h = record { words = w.words; floats = h refl }
within_more false t w = go (leb 6 t.words) (λ e. leb-false 6 t.words e)
  where
    go : (c : Bool) → (c ≡ false → t.words < 6) → Within (cond c (taken t.words t.floats (suc t.stack)) (taken (suc t.words) t.floats t.stack))
    go true h = record { words = w.words; floats = w.floats }
    go false h = record { words = h refl; floats = w.floats }

-- at most one eightbyte of the stack more
pub stack_more : (b : Bool) (t : Taken) → (behind_one b t).stack ≤ suc t.stack
stack_more b t = go (is_beyond b t)
  where
    go : (c : Bool) → (cond c (taken t.words t.floats (suc t.stack)) (taken (words_taken b t.words) (floats_taken b t.floats) t.stack)).stack ≤ suc t.stack
    go true = omega arith
    go false = omega arith

-- ---- the records of one, by the code's test

module _ (b : Bool) (t : Taken) (r : Result (List Instruction)) {c : Bool} (e : c ≡ is_beyond b t) where
  pub when_beyond : c ≡ true → if_beyond b t r ≡ r
  when_beyond h = rw (← e, h)

  pub when_not : c ≡ false → if_beyond b t r ≡ ok []
  when_not h = rw (← e, h)

-- ---- what is in excess

module _ {A : Type 0} (float : A → Bool) where
  -- six find their registers, whatever they are
  no_excess : (i f : ℕ) (xs : List A) → i + f + length xs ≤ 6 → excess float i f xs ≡ []
  unfolding excess
  no_excess i f [] h = refl
  no_excess i f (x ∷ xs) h = go (float x) (no_excess i (suc f) xs (omega arith)) (no_excess (suc i) f xs (omega arith))
    where
      go : (b : Bool) → excess float i (suc f) xs ≡ [] → excess float (suc i) f xs ≡ []
          → cond (is_spent b i f) (x ∷ excess float i f xs) (excess float (words_taken b i) (floats_taken b f) xs) ≡ []
      go true p q = rw (lt-leb 8 f (omega arith)) p
      go false p q = rw (lt-leb 6 i (omega arith)) q

  pub few_fit : (xs : List A) → length xs ≤ 6 → excess float 0 0 xs ≡ []
  few_fit xs h = no_excess 0 0 xs (omega arith)

  -- those that have been counted, and those to come
  abbrev so_many : List A → Taken → ℕ
  so_many xs t = t.stack + length (beyond float t xs)

  pub count_turn : (t : Taken) (x : A) (xs : List A)
      → t.stack + length (beyond float t (x ∷ xs)) ≡ (behind_one (float x) t).stack + length (beyond float (behind_one (float x) t) xs)
  unfolding excess
  count_turn t x xs = go (is_beyond (float x) t)
    where
      go : (b : Bool) → t.stack + length (cond b (x ∷ beyond float t xs) (excess float (words_taken (float x) t.words) (floats_taken (float x) t.floats) xs))
          ≡ so_many xs (cond b (taken t.words t.floats (suc t.stack)) (taken (words_taken (float x) t.words) (floats_taken (float x) t.floats) t.stack))
      go true = omega arith
      go false = refl

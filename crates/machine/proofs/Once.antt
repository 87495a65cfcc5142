-- Labels judged line by line are the scope's labels: a label that is jumped to stands once in the body, none twice.
use Prim.Native.Nat.{ℕ, zero, suc, ◌+◌, ◌≤◌}
use mathlib.Core.Path.{◌≡◌, refl, sym, ap, ◌∙◌}
use mathlib.Core.Logic.{◌↔◌}
use mathlib.Core.Bool.{Bool, true, false, cond, ◌&&◌, false≢true}
use mathlib.Core.List.{List, [], ◌∷◌}
use lib.Dec.{leb, eqb}
use native.Mathlib.Omega.{arith}
use borrow.Author.Tests.{eqb-true, leb-true, le-leb, eq-eqb}
use Rattle.ir.specs.declared.Instr.{Instr}
use Rattle.ir.specs.Function.{Function, Line}
use Rattle.machine.specs.Steps.{is_label}
use Rattle.machine.specs.Plain.{every, is_plain_head, is_plain_operand, is_bool, label_count, is_plain_instr, is_plain_line, is_plain_at}
use Rattle.machine.proofs.Tests.{both}

-- the conditions on an instruction, labels in the scope's words
unfoldable pub is_plain_once : Function → Instr → Bool
is_plain_once F (Instr.Copy d x) = is_plain_instr F [] (Instr.Copy d x)
is_plain_once F (Instr.Unary d op x) = is_plain_instr F [] (Instr.Unary d op x)
is_plain_once F (Instr.Binary d op x y) = is_plain_instr F [] (Instr.Binary d op x y)
is_plain_once F (Instr.Cast d x) = is_plain_instr F [] (Instr.Cast d x)
is_plain_once F (Instr.Zero d) = is_plain_instr F [] (Instr.Zero d)
is_plain_once F (Instr.Call d symbol count) = is_plain_instr F [] (Instr.Call d symbol count)
is_plain_once F (Instr.Label l) = leb (label_count l F.body) 1
is_plain_once F (Instr.Jump l) = eqb (label_count l F.body) 1
is_plain_once F (Instr.JumpIfNot x l) = is_plain_operand F x && (is_bool x && eqb (label_count l F.body) 1)
is_plain_once F (Instr.Return x) = is_plain_instr F [] (Instr.Return x)
is_plain_once F Instr.Comment = is_plain_instr F [] Instr.Comment

-- ---- counts

-- an instruction goes over from the lines that are left to those before
over : (l : ℕ) (i : Line) (before is : List Line) → label_count l (i ∷ before) + label_count l is ≡ label_count l before + label_count l (i ∷ is)
unfolding label_count
over l i before is = go (is_label l i.instr)
  where
    go : (b : Bool) → cond b (suc (label_count l before)) (label_count l before) + label_count l is ≡ label_count l before + cond b (suc (label_count l is)) (label_count l is)
    go true = omega arith
    go false = omega arith

-- a Label counts itself
own : (l : ℕ) (i : Line) (is : List Line) → i.instr ≡ Instr.Label l → 1 ≤ label_count l (i ∷ is)
unfolding label_count
own l i is e = rw (e, eq-eqb l l refl) (omega arith)

-- ---- the conditions line by line

module _ (F : Function) where
  -- a Label that is plain has not stood before
  new_label : (l : ℕ) (before : List Line) (i : Instr) → is_label l i ≡ true → is_plain_instr F before i ≡ true → label_count l before ≡ 0
  unfolding is_plain_instr
  new_label l before (Instr.Copy d x) q e = absurd (false≢true q)
  new_label l before (Instr.Unary d op x) q e = absurd (false≢true q)
  new_label l before (Instr.Binary d op x y) q e = absurd (false≢true q)
  new_label l before (Instr.Cast d x) q e = absurd (false≢true q)
  new_label l before (Instr.Zero d) q e = absurd (false≢true q)
  new_label l before (Instr.Call d symbol count) q e = absurd (false≢true q)
  new_label l before (Instr.Label k) q e = ap (λ (j : ℕ). label_count j before) (sym (eqb-true k l q)) ∙ eqb-true (label_count k before) 0 e
  new_label l before (Instr.Jump k) q e = absurd (false≢true q)
  new_label l before (Instr.JumpIfNot x k) q e = absurd (false≢true q)
  new_label l before (Instr.Return x) q e = absurd (false≢true q)
  new_label l before Instr.Comment q e = absurd (false≢true q)

  -- so with the plain lines behind them lines have a label once at most, if they have it once at most
  at_most_once : (l : ℕ) (before is : List Line) → label_count l before ≤ 1 → ((k : ℕ) → is_plain_line F before is k ≡ true)
      → label_count l before + label_count l is ≤ 1
  unfolding label_count
  at_most_once l before [] f h = omega arith
  at_most_once l before (i ∷ is) f h = go (is_label l i.instr) refl (at_most_once l (i ∷ before) is)
    where
      go : (b : Bool) → is_label l i.instr ≡ b
          → (cond b (suc (label_count l before)) (label_count l before) ≤ 1 → ((k : ℕ) → is_plain_line F (i ∷ before) is k ≡ true)
          → cond b (suc (label_count l before)) (label_count l before) + label_count l is ≤ 1)
          → label_count l before + cond b (suc (label_count l is)) (label_count l is) ≤ 1
      go true q w =
          let z = new_label l before i.instr q (h zero) in
          omega (arith, w (omega arith) (λ k. h (suc k)))
      go false q w = w f (λ k. h (suc k))

  pub none_twice : ((k : ℕ) → is_plain_at F k ≡ true) → (l : ℕ) → label_count l F.body ≤ 1
  unfolding is_plain_at label_count
  none_twice h l = omega (arith, at_most_once l [] F.body (omega arith) (λ k. h (suc k)))

  -- ---- to the scope's words

  module _ (few : (l : ℕ) → label_count l F.body ≤ 1) where
    once : (l : ℕ) → leb 1 (label_count l F.body) ≡ true → eqb (label_count l F.body) 1 ≡ true
    once l e = eq-eqb (label_count l F.body) 1 (omega (arith, few l, leb-true 1 (label_count l F.body) e))

    instr_once : (before : List Line) (i : Instr) → is_plain_instr F before i ≡ true → is_plain_once F i ≡ true
    unfolding is_plain_instr is_plain_once
    instr_once before (Instr.Copy d x) e = e
    instr_once before (Instr.Unary d op x) e = e
    instr_once before (Instr.Binary d op x y) e = e
    instr_once before (Instr.Cast d x) e = e
    instr_once before (Instr.Zero d) e = e
    instr_once before (Instr.Call d symbol count) e = e
    instr_once before (Instr.Label l) e = le-leb (label_count l F.body) 1 (few l)
    instr_once before (Instr.Jump l) e = once l e
    instr_once before (Instr.JumpIfNot x l) e =
        let h = both (is_plain_operand F x) (is_bool x && leb 1 (label_count l F.body)) e in
        let g = both (is_bool x) (leb 1 (label_count l F.body)) h.1 in
        rw (h.0, g.0, once l g.1)
    instr_once before (Instr.Return x) e = e
    instr_once before Instr.Comment e = e

    lines_once : (before is : List Line) → ((k : ℕ) → is_plain_line F before is k ≡ true) → every (λ i. is_plain_once F i.instr) is ≡ true
    unfolding every
    lines_once before [] h = refl
    lines_once before (i ∷ is) h = rw (instr_once before i.instr (h zero), lines_once (i ∷ before) is (λ k. h (suc k)))

  -- ---- and back

  module _ (before : List Line) (i : Line) (is : List Line) (all : (l : ℕ) → label_count l before + label_count l (i ∷ is) ≡ label_count l F.body) where
    new : (l : ℕ) → i.instr ≡ Instr.Label l → leb (label_count l F.body) 1 ≡ true → eqb (label_count l before) 0 ≡ true
    new l q e = eq-eqb (label_count l before) 0 (omega (arith, all l, own l i is q, leb-true (label_count l F.body) 1 e))

    there : (l : ℕ) → eqb (label_count l F.body) 1 ≡ true → leb 1 (label_count l F.body) ≡ true
    there l e = rw (eqb-true (label_count l F.body) 1 e)

    once_instr : (j : Instr) → i.instr ≡ j → is_plain_once F j ≡ true → is_plain_instr F before j ≡ true
    unfolding is_plain_instr is_plain_once
    once_instr (Instr.Copy d x) q e = e
    once_instr (Instr.Unary d op x) q e = e
    once_instr (Instr.Binary d op x y) q e = e
    once_instr (Instr.Cast d x) q e = e
    once_instr (Instr.Zero d) q e = e
    once_instr (Instr.Call d symbol count) q e = e
    once_instr (Instr.Label l) q e = new l q e
    once_instr (Instr.Jump l) q e = there l e
    once_instr (Instr.JumpIfNot x l) q e =
        let h = both (is_plain_operand F x) (is_bool x && eqb (label_count l F.body) 1) e in
        let g = both (is_bool x) (eqb (label_count l F.body) 1) h.1 in
        rw (h.0, g.0, there l g.1)
    once_instr (Instr.Return x) q e = e
    once_instr Instr.Comment q e = e

  once_lines : (before is : List Line) → ((l : ℕ) → label_count l before + label_count l is ≡ label_count l F.body)
      → every (λ i. is_plain_once F i.instr) is ≡ true → (k : ℕ) → is_plain_line F before is k ≡ true
  unfolding every
  once_lines before [] all e k = refl
  once_lines before (i ∷ is) all e zero =
      once_instr before i is all i.instr refl (both (is_plain_once F i.instr) (every (λ i. is_plain_once F i.instr) is) e).0
  once_lines before (i ∷ is) all e (suc k) =
      once_lines (i ∷ before) is (λ l. over l i before is ∙ all l) (both (is_plain_once F i.instr) (every (λ i. is_plain_once F i.instr) is) e).1 k

  -- a function is plain at every number exactly where it is plain in the scope's words
  pub same_functions : ((k : ℕ) → is_plain_at F k ≡ true) ↔ ((is_plain_head F ≡ true) × (every (λ i. is_plain_once F i.instr) F.body ≡ true))
  unfolding is_plain_at label_count
  same_functions = (to, back)
    where
      to : ((k : ℕ) → is_plain_at F k ≡ true) → (is_plain_head F ≡ true) × (every (λ i. is_plain_once F i.instr) F.body ≡ true)
      to h = (h zero, lines_once (none_twice h) [] F.body (λ k. h (suc k)))

      back : (is_plain_head F ≡ true) × (every (λ i. is_plain_once F i.instr) F.body ≡ true) → (k : ℕ) → is_plain_at F k ≡ true
      back h zero = h.0
      back h (suc k) = once_lines [] F.body (λ l. omega arith) h.1 k

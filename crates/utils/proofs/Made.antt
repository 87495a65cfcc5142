-- What a maker says and leaves, by what its look-ups found; and makers one after the other.
use Prim.Native.Nat.{ℕ, ◌+◌, ◌*◌, ◌≤◌}
use mathlib.Core.Path.{◌≡◌, refl, sym, ap, ◌∙◌}
use mathlib.Core.List.{List, [], ◌++◌, append-nil, append_assoc}
use mathlib.Core.Bool.{Bool, true, false, cond}
use native.Mathlib.Omega.{arith}
use lib.ListN.{length, length-append}
use Rattle.cells.specs.Cells.{write}
use Rattle.ir.specs.Types.{Result, ok, refused}
use Rattle.ir.specs.Answers.{says}
use Rattle.codegen.proofs.Results.{never}
use Rattle.x86.specs.declared.enums.Instruction.{Instruction}
use Rattle.x86.specs.Records.{list_bytes}
use Rattle.x86.proofs.Lists.{both, none, wrote_length}
use Rattle.std.specs.Prelude.{Ok, Err}
use Rattle.std.specs.Result.{IsErrAnd}
use Rattle.std.proofs.lemmas.Result.{err_from_is_err_and}
use Rattle.std.specs.Prelude as std
use Rattle.cells.specs.declared.refusals.Refusal.{Refusal}
use Rattle.cells.specs.Refusals.{number_of_refusal}
use Rattle.utils.specs.Makes.{listed, after, Makes, Fits, Ready, before, then}

-- what an answer says, by its case
pub told : {A : Type 0} {r q : std.Result A Refusal} {x : Result A} → says r ≡ x → r ≡ q → x ≡ says q
told e h = sym e ∙ ap says h

-- what the exit of a `?` returns
pub exit_is : {A : Type 0} {r : std.Result A Refusal} {e : Refusal} → IsErrAnd r (λ y. y ≡ e) → r ≡ Err e
exit_is {A} {r} h = let p = err_from_is_err_and r h in p.1 ∙ ap Err p.2

pub no_list : {list : Result (List Instruction)} {n : Refusal} {writes : Bool} {at : ℕ} {old : List ℕ} → list ≡ refused (number_of_refusal n) → Makes writes list at old old (Err n)
no_list {list} {n} {writes} {at} {old} l = go writes
  where
    go : (b : Bool) → Makes b list at old old (Err n)
    go true = record { says = rw l; bytes = rw l }
    go false = record { says = rw l; bytes = refl }

-- ---- a maker: a list that is made of what its look-ups find

module _ {A : Type 0} {look : Result A} {list : Result (List Instruction)} (f : A → List Instruction) (h : list ≡ listed look f) where
  is_list : {a : A} → look ≡ ok a → list ≡ ok (f a)
  is_list e = rw e at h

  pub has_room : {a : A} {writes : Bool} {at n : ℕ} → look ≡ ok a → Ready writes list at n → writes ≡ true → at + 64 * length (f a) ≤ n
  has_room {a} e g w = rw (is_list e) at (g.room w)

  pub makes : {a : A} {writes : Bool} {at : ℕ} {old new : List ℕ} → look ≡ ok a → writes ≡ true → new ≡ write old at (list_bytes (f a))
      → Makes writes list at old new (Ok (length (f a)))
  makes e w b = record { says = rw (is_list e); bytes = rw (w, is_list e) b }

  pub counts : {a : A} {writes : Bool} {at : ℕ} {old : List ℕ} → look ≡ ok a → writes ≡ false → Makes writes list at old old (Ok (length (f a)))
  counts e w = record { says = rw (is_list e); bytes = rw w }

  pub refuses : {n : Refusal} {writes : Bool} {at : ℕ} {old : List ℕ} → look ≡ refused (number_of_refusal n) → Makes writes list at old old (Err n)
  refuses e = no_list (rw e at h)

-- the same under another name
pub ready_as : {writes : Bool} {list other : Result (List Instruction)} {at n : ℕ} → list ≡ other → Ready writes list at n → Ready writes other at n
ready_as e h = rw e at h

pub makes_as : {writes : Bool} {list other : Result (List Instruction)} {at : ℕ} {old new : List ℕ} {r : std.Result ℕ Refusal} → list ≡ other → Makes writes other at old new r
    → Makes writes list at old new r
makes_as e h = rw e h

-- ---- makers one after the other: what is left to make, behind what has been made, is the whole

pub before_none : (r : Result (List Instruction)) → before [] r ≡ r
before_none (ok is) = refl
before_none (refused n) = refl

before_both : (xs ys : List Instruction) (r : Result (List Instruction)) → before (xs ++ ys) r ≡ before xs (before ys r)
before_both xs ys (ok is) = ap ok (append_assoc xs ys is)
before_both xs ys (refused n) = refl

pub record Going (writes : Bool) (whole : Result (List Instruction)) (at : ℕ) (old : List ℕ) (left : Result (List Instruction)) (k : ℕ) (new : List ℕ) : Type 0 where
  pub made : List Instruction
  pub count : length made ≡ k
  pub is : whole ≡ before made left
  pub bytes : new ≡ cond writes (write old at (list_bytes made)) old

pub begins : (writes : Bool) (whole left : Result (List Instruction)) (at : ℕ) (old : List ℕ) → left ≡ whole → Going writes whole at old left 0 old
begins writes whole left at old e = record { made = []; count = refl; is = sym (before_none left ∙ e); bytes = go writes }
  where
    go : (b : Bool) → old ≡ cond b (write old at (list_bytes [])) old
    go true = none old at
    go false = refl

first_fits : (r rest : Result (List Instruction)) (at n : ℕ) → Fits (then r rest) at n → Fits r at n
first_fits (ok is) (ok js) at n h = omega (arith, length-append is js)
first_fits (ok is) (refused m) at n h = absurd h
first_fits (refused m) rest at n h = h

module _ {writes : Bool} {whole left : Result (List Instruction)} {at k : ℕ} {old new : List ℕ} (g : Going writes whole at old left k new) (h : Ready writes whole at (length old)) where
  made_room : writes ≡ true → at + 64 * k ≤ length old
  made_room w = go left (rw g.is at (h.room w))
    where
      go : (r : Result (List Instruction)) → Fits (before g.made r) at (length old) → at + 64 * k ≤ length old
      go (ok is) f = omega (arith, length-append g.made is, g.count)
      go (refused m) f = absurd f

  left_fits : writes ≡ true → Fits left (at + 64 * k) (length old)
  left_fits w = go left (rw g.is at (h.room w))
    where
      go : (r : Result (List Instruction)) → Fits (before g.made r) at (length old) → Fits r (at + 64 * k) (length old)
      go (ok is) f = omega (arith, length-append g.made is, g.count)
      go (refused m) f = f

  pub same_long : length new ≡ length old
  same_long = go writes refl
    where
      go : (b : Bool) → writes ≡ b → length new ≡ length old
      go true w = wrote_length old new at g.made (rw w at g.bytes) (omega (arith, made_room w, g.count))
      go false w = ap length (rw w at g.bytes)

  -- the next maker has its room
  pub next_ready : (r rest : Result (List Instruction)) {p : ℕ} → left ≡ then r rest → p ≡ at + 64 * k → Ready writes r p (length new)
  next_ready r rest e f = record { room = λ w. rw (f, same_long) (first_fits r rest (at + 64 * k) (length old) (rw e at (left_fits w))) }

  -- it has made its records, n of them
  pub next : (r rest : Result (List Instruction)) {p n : ℕ} {newer : List ℕ} → left ≡ then r rest → p ≡ at + 64 * k → Makes writes r p new newer (Ok n)
      → Going writes whole at old rest (k + n) newer
  next (ok is) rest {p} {n} {newer} e f m =
      let l : n ≡ length is = let z = m.says in cc in
      record {
        made = g.made ++ is;
        count = length-append g.made is ∙ omega (arith, g.count);
        is = g.is ∙ ap (before g.made) e ∙ sym (before_both g.made is rest);
        bytes = go writes refl;
      }
    where
      go : (b : Bool) → writes ≡ b → newer ≡ cond b (write old at (list_bytes (g.made ++ is))) old
      go true w =
          both old new newer at p g.made is (rw w at g.bytes) (rw w at m.bytes) (omega (arith, f, g.count))
          (let z = first_fits (ok is) rest (at + 64 * k) (length old) (rw e at (left_fits w)) in omega (arith, g.count))
      go false w = rw w at m.bytes ∙ rw w at g.bytes
  next (refused q) rest e f m = absurd (never (sym m.says))

  -- it has refused: no byte was written, since there is room only for a list
  pub stops : (r rest : Result (List Instruction)) {p : ℕ} {n : Refusal} {newer : List ℕ} → left ≡ then r rest → Makes writes r p new newer (Err n)
      → Makes writes whole at old newer (Err n)
  stops (ok is) rest e m = absurd (never m.says)
  stops (refused q) rest {p} {n} {newer} e m =
      let w : whole ≡ refused q = g.is ∙ ap (before g.made) e in
      record { says = m.says ∙ rw w; bytes = go writes refl }
    where
      go : (b : Bool) → writes ≡ b → newer ≡ cond b (after whole at old) old
      go true w = absurd (rw e at (left_fits w))
      go false w = rw w at m.bytes ∙ rw w at g.bytes

  -- nothing is left
  pub finishes : left ≡ ok [] → Makes writes whole at old new (Ok k)
  finishes e =
      let w : whole ≡ ok g.made = g.is ∙ ap (before g.made) e ∙ ap ok (append-nil g.made) in
      record { says = rw (w, g.count); bytes = rw w g.bytes }

-- what counts asks nothing
pub counting : {list : Result (List Instruction)} {at n : ℕ} → Ready false list at n
counting = record { room = λ w. absurd (let z : ◌≡◌ {A = ℕ} 0 1 = cc in omega arith) }

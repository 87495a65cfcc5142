-- Arguments or parameters in order: the loop that makes the records of those in excess.
use Prim.Native.Nat.{ℕ, suc, ◌+◌, ◌*◌, ◌-◌, ◌≤◌, ◌<◌}
use mathlib.Core.Path.{◌≡◌, refl, sym, ap, ◌∙◌}
use mathlib.Core.Bool.{Bool, true, false}
use mathlib.Core.List.{List, [], ◌∷◌}
use native.Mathlib.Omega.{arith}
use lib.ListN.{length}
use Rattle.ir.specs.Types.{Result, ok, refused}
use Rattle.x86.specs.declared.enums.Instruction.{Instruction}
use Rattle.codegen.specs.Instructions.{excess}
use Rattle.codegen.proofs.Results.{Yields, never}
use Rattle.std.specs.Prelude.{Ok, Err}
use Rattle.cells.specs.declared.refusals.Refusal.{Refusal}
use Rattle.codegen.specs.declared.registers.Taken.{Taken}
use Rattle.utils.specs.Answers.{counted}
use Rattle.utils.specs.Makes.{Makes, Ready, then}
use Rattle.codegen.specs.Excess.{taken, is_beyond, behind_one, beyond}
use Rattle.utils.proofs.Made.{Going, begins, next_ready, next, stops, finishes}

-- ---- items of a sheet in a row, each of so many cells

pub record Items {A : Type 0} (item : ℕ → A) (items : ℕ → ℕ → List A) (width : ℕ) : Type 0 where
  pub none : (cell : ℕ) → items 0 cell ≡ []
  pub more : (left cell : ℕ) → items (suc left) cell ≡ item cell ∷ items left (cell + width)

-- of n of them, those behind the first i
module _ {A : Type 0} {item : ℕ → A} {items : ℕ → ℕ → List A} {width : ℕ} (row : Items item items width) (n from : ℕ) where
  pub all_left : items (n - 0) (from + width * 0) ≡ items n from
  all_left = let l : n - 0 ≡ n = omega arith in let c : from + width * 0 ≡ from = omega arith in rw (l, c)

  pub next_left : {i : ℕ} → i < n → items (n - i) (from + width * i) ≡ item (from + width * i) ∷ items (n - (i + 1)) (from + width * (i + 1))
  next_left {i} h =
      let l : n - i ≡ suc (n - (i + 1)) = omega arith in
      let c : from + width * i + width ≡ from + width * (i + 1) = omega arith in
      ap (λ (k : ℕ). items k (from + width * i)) l ∙ row.more (n - (i + 1)) (from + width * i)
      ∙ ap (λ (k : ℕ). item (from + width * i) ∷ items (n - (i + 1)) k) c

  pub none_left : {i : ℕ} → n ≤ i → items (n - i) (from + width * i) ≡ []
  none_left {i} h = let l : n - i ≡ 0 = omega arith in ap (λ (k : ℕ). items k (from + width * i)) l ∙ row.none (from + width * i)

-- ---- two records are made of each that is in excess, the first of number j

pub record Row {A : Type 0} (float : A → Bool) (one : ℕ → A → Result (List Instruction)) (all : ℕ → List A → Result (List Instruction))
    (item : ℕ → A) (items : ℕ → ℕ → List A) (width : ℕ) : Type 0 where
  pub none : (j : ℕ) → all j [] ≡ ok []
  pub more : (j : ℕ) (x : A) (xs : List A) → all j (x ∷ xs) ≡ then (one j x) (all (suc j) xs)
  pub two : (j : ℕ) (x : A) → Yields (one j x) (λ is. length is ≡ 2)
  pub placed : Items item items width

module _ {A : Type 0} {float : A → Bool} {one : ℕ → A → Result (List Instruction)} {all : ℕ → List A → Result (List Instruction)}
    {item : ℕ → A} {items : ℕ → ℕ → List A} {width : ℕ} (row : Row float one all item items width) where
  -- what is made of the rest
  abbrev made_of : List A → Taken → Result (List Instruction)
  made_of xs t = all t.stack (beyond float t xs)

  -- one of them, and those behind it
  turn_beyond : (t : Taken) (x : A) (xs : List A) → is_beyond (float x) t ≡ true
      → made_of (x ∷ xs) t ≡ then (one t.stack x) (made_of xs (behind_one (float x) t))
  unfolding excess
  turn_beyond t x xs h = rw h (row.more t.stack x (beyond float t xs))

  turn_within : (t : Taken) (x : A) (xs : List A) → is_beyond (float x) t ≡ false → made_of (x ∷ xs) t ≡ made_of xs (behind_one (float x) t)
  unfolding excess
  turn_within t x xs h = rw h refl

  -- the loop: i items of n are done
  pub record Passing (writes : Bool) (n from at : ℕ) (old : List ℕ) (i : ℕ) (t : Taken) (new : List ℕ) : Type 0 where
    pub few : t.stack ≤ i
    pub going : Going writes (all 0 (excess float 0 0 (items n from))) at old (all t.stack (beyond float t (items (n - i) (from + width * i)))) (2 * t.stack) new

  pub none_passed : (writes : Bool) (n from at : ℕ) (old : List ℕ) → Passing writes n from at old 0 (taken 0 0 0) old
  none_passed writes n from at old = record { few = omega arith; going = begins writes _ _ at old (ap (λ (xs : List A). made_of xs (taken 0 0 0)) (all_left row.placed n from)) }

  module _ {writes : Bool} {n from at : ℕ} {old : List ℕ} {i : ℕ} {t : Taken} {new : List ℕ} (g : Passing writes n from at old i t new)
      (room : Ready writes (all 0 (excess float 0 0 (items n from))) at (length old)) where
    module _ (h : i < n) {x : A} (e : x ≡ item (from + width * i)) {b : Bool} (d : b ≡ float x) {c : Bool} (f : c ≡ is_beyond b t) where
      abbrev others : List A
      others = items (n - (i + 1)) (from + width * (i + 1))

      here : items (n - i) (from + width * i) ≡ x ∷ others
      here = rw e (next_left row.placed n from h)

      -- one that is in excess
      module _ (q : c ≡ true) where
        spent : is_beyond (float x) t ≡ true
        spent = rw (← d, ← f, q)

        left_is : made_of (items (n - i) (from + width * i)) t ≡ then (one t.stack x) (made_of others (behind_one (float x) t))
        left_is = ap (λ (xs : List A). made_of xs t) here ∙ turn_beyond t x others spent

        pub turn_ready : {p : ℕ} → p ≡ at + 128 * t.stack → Ready writes (one t.stack x) p (length new)
        turn_ready s = next_ready g.going room (one t.stack x) (made_of others (behind_one (float x) t)) left_is (omega arith)

        pub turn_refused : {p : ℕ} {m : Refusal} {newer : List ℕ} → Makes writes (one t.stack x) p new newer (Err m)
            → Makes writes (all 0 (excess float 0 0 (items n from))) at old newer (Err m)
        turn_refused made = stops g.going room (one t.stack x) (made_of others (behind_one (float x) t)) left_is made

        pub turn_made : {p m : ℕ} {newer : List ℕ} {u : Taken} → p ≡ at + 128 * t.stack → Makes writes (one t.stack x) p new newer (Ok m) → u ≡ behind_one b t
            → Passing writes n from at old (i + 1) u newer
        turn_made {p} {m} {newer} s made k =
            let l : 2 * t.stack + m ≡ 2 * suc t.stack = pair (one t.stack x) (row.two t.stack x) made.says in
            rw (k, d, spent) (record { few = omega (arith, g.few); going = rw (spent, l) at (next g.going room (one t.stack x) (made_of others (behind_one (float x) t)) left_is (omega arith) made) })
          where
            pair : (r : Result (List Instruction)) → Yields r (λ is. length is ≡ 2) → ok m ≡ counted r → 2 * t.stack + m ≡ 2 * suc t.stack
            pair (ok is) y z = let l : m ≡ length is = let w = z in cc in omega (arith, y.of is refl)
            pair (refused n) y z = absurd (never (sym z))

      -- one that finds a register
      pub turn_over : {u : Taken} → c ≡ false → u ≡ behind_one b t → Passing writes n from at old (i + 1) u new
      turn_over {u} q k =
          let free : is_beyond (float x) t ≡ false = rw (← d, ← f, q) in
          let l : made_of (items (n - i) (from + width * i)) t ≡ made_of others (behind_one (float x) t) = ap (λ (xs : List A). made_of xs t) here ∙ turn_within t x others free in
          rw (k, d, free) (record { few = omega (arith, g.few); going = rw (l, free) at g.going })

    pub all_passed : n ≤ i → Makes writes (all 0 (excess float 0 0 (items n from))) at old new (Ok (2 * t.stack))
    unfolding excess
    all_passed h = finishes g.going room (ap (λ (xs : List A). made_of xs t) (none_left row.placed n from h) ∙ row.none t.stack)

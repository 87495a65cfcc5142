-- The sheets of a good pack tile it; and the packs that the check accepts are those whose layout is 02's.
use Prim.Native.Nat.{ℕ, zero, suc, ◌+◌, ◌*◌, ◌-◌, ◌≤◌, ◌<◌}
use mathlib.Core.Path.{◌≡◌, refl, sym, ap, ◌∙◌}
use mathlib.Core.Bool.{Bool, true, false}
use mathlib.Core.List.{List, ◌++◌, flatten}
use native.Mathlib.Omega.{arith}
use native.Mathlib.Nat.{add-mul}
use borrow.Author.Tests.{ltb-true, ltb-false}
use lib.Dec.{ltb}
use lib.ListN.{length, take, drop, take-append-drop, drop_of_length-le}
use lib.Seq.{drop-drop}
use Rattle.cells.specs.Cells.{cells, largest}
use Rattle.cells.specs.declared.Cursor.{Cursor}
use Rattle.std.specs.Prelude.{Ok}
use Rattle.layout.specs.Layout.{cursor}
use Rattle.pack.specs.Pack.{sheets_from, pack_check, sheet_count, offset_at, length_at, part_at, sheets_at}
use Rattle.pack.specs.Changes.{Good, Tiles}
use Rattle.pack.proofs.Pairs.{Pairs, ends, pair, pack_right, pack_accepted}

-- the first number, or a later one
by_first : (P : ℕ → Type 0) (k i : ℕ) → k ≤ i → (k ≡ i → P k) → (suc k ≤ i → P i) → P i
by_first P k i l first later = go (ltb k i) refl
  where
    go : (b : Bool) → ltb k i ≡ b → P i
    go true e = later (omega (arith, ltb-true k i e))
    go false e = let q : k ≡ i = omega (arith, ltb-false k i e) in rw q at (first q)

-- ---- of pair i, from k on

-- the pair is there, and its sheet stands inside the pack, from `from` on
pub record Stands (p : List ℕ) (from i : ℕ) : Type 0 where
  pub there : 2 + 2 * i < cells p
  pub behind : from ≤ offset_at p i
  pub counts : length_at p i ≤ largest
  pub within : offset_at p i + length_at p i ≤ cells p

module _ (p : List ℕ) where
  later : {from next i : ℕ} → from ≤ next → Stands p next i → Stands p from i
  later l s = record { there = s.there; behind = omega (arith, s.behind); counts = s.counts; within = s.within }

  pub stands : {n from k : ℕ} → Pairs p n from k → (i : ℕ) → k ≤ i → i < k + n → Stands p from i
  stands (ends w) i a b = absurd (omega arith)
  stands {from = from} {k} (pair {n} t o c w more) i a b =
      by_first (Stands p from) k i a (λ e. record { there = t; behind = omega arith; counts = c; within = omega arith })
      (λ l. later (omega arith) (stands more i l (omega arith)))

  first_stands : {n from k : ℕ} → Pairs p n from k → 1 ≤ n → offset_at p k ≡ from
  first_stands (ends w) l = absurd (omega arith)
  first_stands (pair t o c w more) l = o

  -- the next sheet follows it
  follows : {n from k : ℕ} → Pairs p n from k → (i : ℕ) → k ≤ i → suc i < k + n → offset_at p (suc i) ≡ offset_at p i + length_at p i
  follows (ends w) i a b = absurd (omega arith)
  follows {from = from} {k} (pair {n} t o c w (ends z)) i a b = absurd (omega arith)
  follows {from = from} {k} (pair {n} t o c w (pair u q d v more)) i a b =
      by_first (λ (i : ℕ). offset_at p (suc i) ≡ offset_at p i + length_at p i) k i a (λ e. omega arith)
      (λ l. follows (pair u q d v more) i l (omega arith))

  -- the last sheet ends the file
  last_ends : {n from k : ℕ} → Pairs p n from k → (i : ℕ) → k ≤ i → suc i ≡ k + n → (offset_at p i + length_at p i) * 8 ≡ length p
  last_ends (ends w) i a b = absurd (omega arith)
  last_ends {from = from} {k} (pair {n} t o c w (ends z)) i a b = let e : i ≡ k = omega arith in rw e (rw o z)
  last_ends {from = from} {k} (pair {n} t o c w (pair u q d v more)) i a b = last_ends (pair u q d v more) i (omega arith) (omega arith)

  -- the sheets before it stand before it
  in_order : {n from k : ℕ} → Pairs p n from k → (j i : ℕ) → k ≤ j → j < i → i < k + n → offset_at p j + length_at p j ≤ offset_at p i
  in_order (ends w) j i a l b = absurd (omega arith)
  in_order {from = from} {k} (pair {n} t o c w more) j i a l b =
      by_first (λ (j : ℕ). offset_at p j + length_at p j ≤ offset_at p i) k j a (λ e. omega (arith, (stands more i (omega arith) (omega arith)).behind))
      (λ m. in_order more j i m l (omega arith))

  -- all of them, from `from` on
  whole : {n from k : ℕ} → Pairs p n from k → drop (from * 8) p ≡ flatten (sheets_at p n k)
  unfolding flatten sheets_at part_at
  whole {from = from} (ends w) = drop_of_length-le p {i = from * 8} (omega arith)
  whole {from = from} {k} (pair {n} t o c w more) =
      rw (o, ← whole more, add-mul from (length_at p k) 8, ← drop-drop (length_at p k * 8) (from * 8) p) (sym (take-append-drop (length_at p k * 8) (drop (from * 8) p)))

-- ---- a good pack

module _ (p : List ℕ) {d : Cursor} (good : pack_check p ≡ Ok d) where
  pub sheet_stands : (k : ℕ) → k < sheet_count p → Stands p (sheets_from (sheet_count p)) k
  sheet_stands k l = stands p (pack_right p good).2 k (omega arith) (omega arith)

  pub good_laid : Good p
  good_laid =
      let f = pack_right p good in
      record {
        some = f.0;
        few = f.1;
        first = first_stands p f.2 f.0;
        next = λ k l. follows p f.2 k (omega arith) (omega arith);
        last = λ k e. last_ends p f.2 k (omega arith) (omega arith);
        counts = λ k l. (sheet_stands k l).counts;
      }

  pub tiles : Tiles p
  tiles =
      let f = pack_right p good in
      record {
        inside = λ k l. let s = sheet_stands k l in (s.behind, omega arith);
        apart = λ j k m l. in_order p f.2 j k (omega arith) m (omega arith);
        whole = sym (ap (λ (x : List ℕ). take (sheets_from (sheet_count p) * 8) p ++ x) (sym (whole p f.2)) ∙ take-append-drop (sheets_from (sheet_count p) * 8) p);
      }

-- ---- every pack that is laid out as 02 says is accepted

module _ (p : List ℕ) (laid : Good p) where
  -- from the last sheet back
  below : (n k : ℕ) → k + suc n ≡ sheet_count p → offset_at p k ≤ cells p
  below zero k e = omega (arith, laid.last k (omega arith))
  below (suc n) k e = omega (arith, laid.next k (omega arith), below n (suc k) (omega arith))

  ahead : sheets_from (sheet_count p) ≤ cells p
  ahead =
      let e : 0 + suc (sheet_count p - 1) ≡ sheet_count p = omega (arith, laid.some) in
      omega (arith, laid.first, below (sheet_count p - 1) 0 e)

  pairs : (n k : ℕ) → k + suc n ≡ sheet_count p → Pairs p (suc n) (offset_at p k) k
  pairs zero k e =
      let w = laid.last k (omega arith) in
      pair {k = k} (omega (arith, ahead)) refl (laid.counts k (omega arith)) (omega arith) (ends w)
  pairs (suc n) k e =
      let w = laid.next k (omega arith) in
      pair {k = k} (omega (arith, ahead)) refl (laid.counts k (omega arith)) (omega (arith, below n (suc k) (omega arith))) (rw w at (pairs n (suc k) (omega arith)))

  pub laid_good : pack_check p ≡ Ok (cursor (cells p))
  laid_good =
      let e : suc (sheet_count p - 1) ≡ sheet_count p = omega (arith, laid.some) in
      let f : Pairs p (sheet_count p) (sheets_from (sheet_count p)) 0 = rw (e, laid.first) at (pairs (sheet_count p - 1) 0 (omega arith)) in
      pack_accepted p laid.some laid.few f (omega (arith, ahead))

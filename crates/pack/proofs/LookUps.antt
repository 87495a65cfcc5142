-- What a look-up answers.
use Prim.Native.Nat.{ℕ, ◌+◌, ◌*◌, ◌-◌, ◌≤◌, ◌<◌}
use mathlib.Core.Path.{◌≡◌, refl}
use mathlib.Core.Bool.{Bool, true, false, cond}
use mathlib.Core.List.{List, []}
use native.Mathlib.Omega.{arith}
use borrow.Author.Tests.{ltb-true, lt-ltb, le-ltb}
use lib.Dec.{ltb}
use lib.ListN.{length, take, drop}
use Rattle.cells.specs.Cells.{cells}
use Rattle.cells.specs.declared.Cursor.{Cursor}
use Rattle.cells.specs.Refusals.{no_entry}
use Rattle.cells.specs.Outcomes.{number_of, place_of}
use Rattle.std.specs.Prelude.{Ok, Err}
use Rattle.cells.specs.declared.refusals.Refused.{Refused}
use Rattle.cells.specs.Refusals.{number_of_refusal}
use Rattle.layout.specs.Layout.{Checked}
use Rattle.codegen.specs.Generation.{accepted, refused, ◌>>=◌, checked}
use Rattle.pack.specs.declared.Pair.{Pair}
use Rattle.pack.specs.Pack.{pack_check, Checks, sheet_count, pair_at, part_at, sheet_at, packed, find_pair, look_up, part_of, start_of, moved}
use Rattle.pack.proofs.Pairs.{pack_right}
use Rattle.pack.proofs.Tiles.{sheet_stands, tiles}

-- the sheet's bytes, or one of the two refusals
pub looked_up : (p : List ℕ) (k : ℕ) → look_up p k ≡ packed p (cond (ltb k (sheet_count p)) (accepted (sheet_at p k)) (refused no_entry 0))
unfolding look_up find_pair
looked_up p k = go (pack_check p) (ltb k (sheet_count p))
  where
    go : (x : Checked) (b : Bool) →
        (checked x (λ u. cond b (accepted (pair_at p k)) (refused no_entry 0)) >>= λ pair. accepted (part_at p pair)) ≡ checked x (λ u. cond b (accepted (sheet_at p k)) (refused no_entry 0))
    go (Ok c) true = refl
    go (Ok c) false = refl
    go (Err r) b = refl

-- a good pack; `count` is its sheet count as it was read
module _ (p : List ℕ) {d : Cursor} (good : pack_check p ≡ Ok d) where
  pub count_there : 0 < cells p
  count_there = omega (arith, (pack_right p good).0, (sheet_stands p good 0 (pack_right p good).0).there)

  module _ (k : ℕ) {count : ℕ} (read : count ≡ sheet_count p) where
    pub pair_there : k < count → 2 + 2 * k < cells p
    pair_there l = (sheet_stands p good k (omega arith)).there

    pub found_pair : k < count → {pair : Pair} → pair ≡ pair_at p k → accepted pair ≡ find_pair p k
    unfolding find_pair
    found_pair l e = rw (good, lt-ltb k (sheet_count p) (omega arith), e)

    pub no_entry_lem : count ≤ k → refused no_entry 0 ≡ find_pair p k
    unfolding find_pair
    no_entry_lem l = rw (good, le-ltb k (sheet_count p) (omega arith))

pub bad_pack_lem : (p : List ℕ) (k : ℕ) {r : Refused} → pack_check p ≡ Err r → refused (number_of_refusal r.refusal) r.place ≡ find_pair p k
unfolding find_pair
bad_pack_lem p k e = rw e

-- ---- the part that is handed back

never : {A : Type 0} {a : A} {n j : ℕ} → accepted a ≡ refused n j → ⊥
never e = let z : ◌≡◌ {A = ℕ} 0 1 = cc in omega arith

-- a pair that was found is a sheet's, and so inside the pack
module _ (p : List ℕ) (k : ℕ) where
  pub pair_inside : {pair : Pair} → accepted pair ≡ find_pair p k → (pair.offset + pair.length) * 8 ≤ length p
  unfolding find_pair
  pair_inside {pair} = go (pack_check p) (ltb k (sheet_count p)) refl refl
    where
      go : (x : Checked) (b : Bool) → pack_check p ≡ x → ltb k (sheet_count p) ≡ b → accepted pair ≡ checked x (λ u. cond b (accepted (pair_at p k)) (refused no_entry 0)) →
          (pair.offset + pair.length) * 8 ≤ length p
      go (Err r) b f g e = absurd (never e)
      go (Ok d) false f g e = absurd (never e)
      go (Ok d) true f g e =
          let w : pair ≡ pair_at p k = cc in
          rw w ((tiles p f).inside k (ltb-true k (sheet_count p) g)).1

  -- what is handed back: the part and where it starts, behind an address; the numbers of a refusal
  abbrev pub Hands : List ℕ → (ℕ × ℕ) → (ℕ × ℕ) → ℕ → ℕ → Type 0
  Hands part at from n j =
      (part ≡ part_of (look_up p k)) × ((from ≡ moved at (start_of (find_pair p k))) × ((n ≡ number_of (look_up p k)) × (j ≡ place_of (λ s. 0) (look_up p k))))

  pub handed_back : (at : ℕ × ℕ) {pair : Pair} {part : List ℕ} {from : ℕ × ℕ} → accepted pair ≡ find_pair p k → part ≡ part_at p pair → from ≡ moved at (pair.offset * 8) → Hands part at from 0 0
  unfolding look_up
  handed_back at e f g = rw (← e, f, g) (refl, (refl, (refl, refl)))

  pub handed_none : (at : ℕ × ℕ) {n j : ℕ} → refused n j ≡ find_pair p k → Hands [] at (moved at 0) n j
  unfolding look_up
  handed_none at e = rw (← e) (refl, (refl, (refl, refl)))

-- a sheet of a good pack is inside it
pub sheet_inside : (p : List ℕ) (k : ℕ) {pair : Pair} → Checks p → k < sheet_count p → pair ≡ pair_at p k → (pair.offset + pair.length) * 8 ≤ length p
sheet_inside p k g l e = rw e ((tiles p g.is).inside k l).1

-- what a part is, where the code cuts it out
pub part_is : (p : List ℕ) (pair : Pair) → take (pair.offset * 8 + pair.length * 8 - pair.offset * 8) (drop (pair.offset * 8) p) ≡ part_at p pair
unfolding part_at
part_is p pair =
    let e : pair.offset * 8 + pair.length * 8 - pair.offset * 8 ≡ pair.length * 8 = omega arith in
    rw e

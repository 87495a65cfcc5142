-- A part of a sheet that is right is right where its cells stand elsewhere.
use Prim.Native.Nat.{ℕ, zero, suc, ◌+◌, ◌*◌, ◌≤◌, ◌<◌}
use mathlib.Core.Path.{◌≡◌, refl, ap, ◌∙◌}
use mathlib.Core.Bool.{Bool, true, false, cond}
use mathlib.Core.List.{List}
use native.Mathlib.Omega.{arith}
use borrow.Author.Tests.{lt-ltb, le-ltb}
use lib.Dec.{ltb, eqb, lit≤}
use Rattle.cells.specs.Cells.{cells, cell_at, largest, read_cell, read_within, bind_cell, cells_from}
use Rattle.cells.specs.declared.Cursor.{Cursor}
use Rattle.std.specs.Prelude.{Ok, Err}
use Rattle.cells.specs.declared.refusals.Refusal.{Refusal}
use Rattle.ir.specs.Types.{no_array, offset_behind}
use Rattle.ir.specs.Function.{type_at}
use Rattle.layout.specs.Limits.{most_arguments, most_count}
use Rattle.layout.specs.Layout.{Checked, Limited, refuse, bind_limited, cursor, limited, count_check, zeros_check, fields_check, type_check, return_check, call_check, types_check}
use Rattle.layout.proofs.Passed.{Held, never, checked_passed, cell_passed, within_passed, limited_passed}
use Rattle.layout.proofs.Laws.{type_right, types_more}
use Rattle.cells.proofs.Lists.{Holds}

-- a cursor that is told in another way
pub behind_is : {m n : ℕ} → m ≡ n → ◌≡◌ {A = Checked} (Ok (cursor m)) (Ok (cursor n))
behind_is e = ap (λ (k : ℕ). Ok (cursor k)) e

-- ---- cells

module _ (s t : List ℕ) where
  pub held_moves : {k j low high : ℕ} → Held s k low high → j < cells t → cell_at t j ≡ cell_at s k → Held t j low high
  held_moves h l e = record { there = l; least = rw e h.least; most = rw e h.most }

-- what follows a cell that is within its bounds
pub within_goes : {R : Type 0} (refuse : ℕ → R) (s : List ℕ) (k low high : ℕ) (f : ℕ → Cursor → R) → Held s k low high →
    bind_cell refuse (read_within s (cursor k) low high) f ≡ f (cell_at s k) (cursor (k + 1))
unfolding read_within read_cell
within_goes refuse s k low high f h = simp (lt-ltb k (cells s) h.there, le-ltb (cell_at s k) low h.least, le-ltb high (cell_at s k) h.most)

-- what follows a count that is within its limit
pub limited_goes : (s : List ℕ) (k most : ℕ) (f : ℕ → Cursor → Limited) → Held s k 0 most → most ≤ largest →
    bind_limited Err (limited s (cursor k) most) f ≡ f (cell_at s k) (cursor (k + 1))
unfolding limited read_within read_cell
limited_goes s k most f h l =
    let a : cell_at s k ≤ largest = omega (arith, h.most) in
    simp (lt-ltb k (cells s) h.there, le-ltb (cell_at s k) 0 h.least, le-ltb largest (cell_at s k) a, le-ltb most (cell_at s k) h.most)

-- ---- parts

module _ (s t : List ℕ) where
  count_moves : (k j : ℕ) {d : Cursor} → count_check s (cursor k) ≡ Ok d → j < cells t → cell_at t j ≡ cell_at s k →
      count_check t (cursor j) ≡ Ok (cursor (j + 1))
  unfolding count_check read_cell
  count_moves k j {d} e l f =
      simp (lt-ltb j (cells t) l)
      (rw f (go (eqb (cell_at s k) no_array) (ltb largest (cell_at s k)) (ltb most_count (cell_at s k)) (cell_passed Refusal.TornSheet s (cursor k) _ e).1))
    where
      go : (a b c : Bool) →
          cond a (Ok (cursor (k + 1))) (cond b (refuse Refusal.TornSheet k) (cond c (refuse Refusal.Oversize k) (Ok (cursor (k + 1))))) ≡ Ok d →
          cond a (Ok (cursor (j + 1))) (cond b (refuse Refusal.TornSheet j) (cond c (refuse Refusal.Oversize j) (Ok (cursor (j + 1)))))
          ≡ Ok (cursor (j + 1))
      go true b c e = refl
      go false true c e = never e
      go false false true e = never e
      go false false false e = refl

  pub type_moves : (k j : ℕ) {d : Cursor} → type_check s (cursor k) ≡ Ok d → Holds t j (cells_from s k 2) → type_check t (cursor j) ≡ Ok (cursor (j + 2))
  unfolding type_check cells_from
  type_moves k j e h =
      let p = within_passed Refusal.TornSheet s (cursor k) 1 12 _ e in
      let two : j + 1 + 1 ≡ j + 2 = omega arith in
      within_goes (refuse Refusal.TornSheet) t j 1 12 (λ code next. count_check t next) (held_moves s t p.0 h.0 h.1)
      ∙ count_moves (k + 1) (j + 1) p.1 h.2.0 h.2.1 ∙ behind_is two

  pub return_moves : (k j : ℕ) {d : Cursor} → return_check s (cursor k) ≡ Ok d → Holds t j (cells_from s k 2) →
      return_check t (cursor j) ≡ Ok (cursor (j + 2))
  unfolding return_check cells_from
  return_moves k j {d} e h =
      let p = within_passed Refusal.TornSheet s (cursor k) 0 12 _ e in
      let two : j + 1 + 1 ≡ j + 2 = omega arith in
      within_goes (refuse Refusal.TornSheet) t j 0 12 _ (held_moves s t p.0 h.0 h.1) ∙ rw h.1 (go (eqb (cell_at s k) 0) p.1) ∙ behind_is two
    where
      go : (b : Bool) →
          cond b (bind_cell (refuse Refusal.TornSheet) (read_within s (cursor (k + 1)) no_array no_array) (λ count c2. Ok c2)) (count_check s (cursor (k + 1)))
          ≡ Ok d →
          cond b (bind_cell (refuse Refusal.TornSheet) (read_within t (cursor (j + 1)) no_array no_array) (λ count c2. Ok c2)) (count_check t (cursor (j + 1)))
          ≡ Ok (cursor (j + 1 + 1))
      go true e =
          let p = within_passed Refusal.TornSheet s (cursor (k + 1)) no_array no_array _ e in
          within_goes (refuse Refusal.TornSheet) t (j + 1) no_array no_array (λ count c2. Ok c2) (held_moves s t p.0 h.2.0 h.2.1)
      go false e = count_moves (k + 1) (j + 1) e h.2.0 h.2.1

  pub zeros_moves : (n k j : ℕ) {d : Cursor} → zeros_check s n (cursor k) ≡ Ok d → Holds t j (cells_from s k n) →
      zeros_check t n (cursor j) ≡ Ok (cursor (j + n))
  unfolding zeros_check cells_from
  zeros_moves zero k j e h = behind_is (let z : j ≡ j + 0 = omega arith in z)
  zeros_moves (suc n) k j e h =
      let p = within_passed Refusal.TornSheet s (cursor k) 0 0 _ e in
      let l : j + 1 + n ≡ j + suc n = omega arith in
      within_goes (refuse Refusal.TornSheet) t j 0 0 (λ v next. zeros_check t n next) (held_moves s t p.0 h.0 h.1) ∙ zeros_moves n (k + 1) (j + 1) p.1 h.2 ∙ behind_is l

  pub fields_moves : (k j x y z : ℕ) {d : Cursor} → fields_check s (cursor k) x y z ≡ Ok d → Holds t j (cells_from s k 3) →
      fields_check t (cursor j) x y z ≡ Ok (cursor (j + 3))
  unfolding fields_check cells_from
  fields_moves k j x y z e h =
      let p = within_passed Refusal.TornSheet s (cursor k) 0 x _ e in
      let q = within_passed Refusal.TornSheet s (cursor (k + 1)) 0 y _ p.1 in
      let r = within_passed Refusal.TornSheet s (cursor (k + 1 + 1)) 0 z _ q.1 in
      let l : j + 1 + 1 + 1 ≡ j + 3 = omega arith in
      within_goes (refuse Refusal.TornSheet) t j 0 x _ (held_moves s t p.0 h.0 h.1)
      ∙ within_goes (refuse Refusal.TornSheet) t (j + 1) 0 y _ (held_moves s t q.0 h.2.0 h.2.1)
      ∙ within_goes (refuse Refusal.TornSheet) t (j + 1 + 1) 0 z _ (held_moves s t r.0 h.2.2.0 h.2.2.1) ∙ behind_is l

  -- a call's own cells: symbol, count, and six that are not used
  pub call_moves : (k j : ℕ) {n : ℕ} {d : Cursor} → call_check s (cursor k) ≡ Ok (n, d) → Holds t j (cells_from s k 8) →
      call_check t (cursor j) ≡ Ok ((cell_at s (k + 1)), (cursor (j + 8)))
  unfolding call_check cells_from
  call_moves k j e h =
      let p = within_passed Refusal.TornSheet s (cursor k) 0 largest _ e in
      let q = limited_passed s (cursor (k + 1)) most_arguments _ p.1 in
      let r = checked_passed (zeros_check s 6 (cursor (k + 1 + 1))) _ q.1 in
      let z = zeros_moves 6 (k + 1 + 1) (j + 1 + 1) r.1 h.2.2 in
      let l : j + 1 + 1 + 6 ≡ j + 8 = omega arith in
      within_goes (refuse Refusal.TornSheet) t j 0 largest _ (held_moves s t p.0 h.0 h.1)
      ∙ limited_goes t (j + 1) most_arguments _ (held_moves s t q.0 h.2.0 h.2.1) (lit≤ tt)
      ∙ rw (z, h.2.1, l) refl

-- ---- the variable types

-- one type, and those behind it
types_first : (s : List ℕ) (n end k : ℕ) {d : Cursor} → types_check s (suc n) end (cursor k) ≡ Ok d →
    (type_check s (cursor k) ≡ Ok (cursor (k + 2)))
    × (offset_behind end (type_at s k) ≤ most_count)
    × (types_check s n (offset_behind end (type_at s k)) (cursor (k + 2)) ≡ Ok d)
types_first s n end k e =
    let p = types_more s n end (cursor k) e in
    let m : p.0 ≡ cursor (k + 2) = ap cursor (type_right s (cursor k) p.1).0 in
    (p.1 ∙ ap Ok m, p.2, rw m at p.3)

-- each of them is right
pub types_each : (s : List ℕ) (n end k : ℕ) {d : Cursor} → types_check s n end (cursor k) ≡ Ok d → (i : ℕ) → i < n →
    type_check s (cursor (k + 2 * i)) ≡ Ok (cursor (k + 2 * i + 2))
types_each s zero end k e i l = absurd (omega arith)
types_each s (suc n) end k e zero l = let z : k + 2 * 0 ≡ k = omega arith in rw z (types_first s n end k e).0
types_each s (suc n) end k e (suc i) l =
    let z : k + 2 * suc i ≡ k + 2 + 2 * i = omega arith in
    rw z (types_each s n (offset_behind end (type_at s k)) (k + 2) (types_first s n end k e).2 i (omega arith))

-- and all are where the same cells are
module _ (s t : List ℕ) where
  pub types_move : (n end k : ℕ) {d : Cursor} → types_check s n end (cursor k) ≡ Ok d → k + 2 * n ≤ cells t →
      ((i : ℕ) → i < k + 2 * n → cell_at t i ≡ cell_at s i) → types_check t n end (cursor k) ≡ Ok (cursor (k + 2 * n))
  unfolding types_check cells_from
  types_move zero end k e room same = behind_is (let z : k ≡ k + 2 * 0 = omega arith in z)
  types_move (suc n) end k e room same =
      let p = types_first s n end k e in
      let a : cell_at t k ≡ cell_at s k = same k (omega arith) in
      let b : cell_at t (k + 1) ≡ cell_at s (k + 1) = same (k + 1) (omega arith) in
      let h : Holds t k (cells_from s k 2) = (omega arith, a, (omega arith, b, omega arith)) in
      let z : k + 2 + 2 * n ≡ k + 2 * suc n = omega arith in
      let r = types_move n (offset_behind end (type_at s k)) (k + 2) p.2 (omega arith) (λ i l. same i (omega arith)) in
      simp (type_moves s t k k p.0 h, a, b, le-ltb most_count _ p.1) (r ∙ behind_is z)

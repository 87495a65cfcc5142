-- The pairs of a good pack, one by one: what its check has read.
use Prim.Native.Nat.{ℕ, zero, suc, ◌+◌, ◌*◌, ◌≤◌, ◌<◌}
use mathlib.Core.Path.{◌≡◌, refl, sym, ap, ◌∙◌, subst}
use mathlib.Core.List.{List}
use native.Mathlib.Omega.{arith}
use borrow.Author.Tests.{ltb-false, lt-ltb, le-ltb}
use lib.Dec.{ltb}
use lib.ListN.{length}
use Rattle.cells.specs.Cells.{cells, cell_at, largest, read_cell, read_within}
use Rattle.cells.specs.declared.Cursor.{Cursor}
use Rattle.layout.specs.Limits.{most_sheets}
use Rattle.std.specs.Prelude.{Ok}
use Rattle.cells.specs.declared.refusals.Refusal.{Refusal}
use Rattle.layout.specs.Layout.{cursor, end_check}
use Rattle.layout.proofs.Passed.{kept, word_passed, within_passed, at_end}
use Rattle.pack.specs.Pack.{pair_check, pairs_check, sheets_from, pack_check, sheet_count, offset_at, length_at}

-- n pairs, the first of them of number k, whose sheets stand from cell `from` on
pub data Pairs (p : List ℕ) : ℕ → ℕ → ℕ → Type 0 where
  ends : {from k : ℕ} → from * 8 ≡ length p → Pairs p 0 from k
  pair : {n from k : ℕ} → 2 + 2 * k < cells p → offset_at p k ≡ from → length_at p k ≤ largest → from + length_at p k ≤ cells p
      → Pairs p n (from + length_at p k) (suc k) → Pairs p (suc n) from k

-- ---- from the check to the pairs

pub pairs_right : (p : List ℕ) (n from k : ℕ) (c : Cursor) {d : Cursor} → c.at ≡ 1 + 2 * k → (n ≡ 0 → from ≤ cells p) →
    pairs_check p n from c ≡ Ok d → Pairs p n from k
unfolding pairs_check pair_check
pairs_right p zero from k c a l e = let z = (at_end Refusal.BadPack p (cursor from) e).1 in let y = l refl in let w : from * 8 ≡ length p = omega arith in ends w
pairs_right p (suc n) from k c {d} a l e =
    let w = word_passed (pair_check p from c) _ e in
    let f = within_passed Refusal.BadPack p c from from _ w.2 in
    let g = within_passed Refusal.BadPack p (cursor (c.at + 1)) 0 largest _ f.1 in
    let v : ℕ = cell_at p (c.at + 1) in
    let t = kept (ltb (cells p) (from + v)) Refusal.BadPack (c.at + 1) (Ok (from + v, cursor (c.at + 1 + 1))) g.1 in
    let y : (w.0, w.1) ≡ (from + v, cursor (c.at + 1 + 1)) = let z = t.1 in cc in
    let rest : pairs_check p n (from + v) (cursor (c.at + 1 + 1)) ≡ Ok d = subst (λ (x : ℕ × Cursor). pairs_check p n x.0 x.1 ≡ Ok d) y w.3 in
    let i : c.at + 1 ≡ 2 + 2 * k = omega arith in
    let o : offset_at p k ≡ from = ap (cell_at p) (sym a) ∙ omega (arith, f.0.least, f.0.most) in
    let m : cell_at p (c.at + 1) ≡ length_at p k = ap (cell_at p) i in
    let s : from + length_at p k ≤ cells p = rw m at (ltb-false (cells p) (from + v) t.0) in
    pair (rw i at g.0.there) o (rw m at g.0.most) s
    (pairs_right p n (from + length_at p k) (suc k) (cursor (c.at + 1 + 1)) (omega arith) (λ z. s) (rw m at rest))

pub pack_right : (p : List ℕ) {d : Cursor} → pack_check p ≡ Ok d →
    (1 ≤ sheet_count p) × (sheet_count p ≤ most_sheets) × Pairs p (sheet_count p) (sheets_from (sheet_count p)) 0
unfolding pack_check
pack_right p e =
    let f = within_passed Refusal.BadPack p (cursor 0) 1 most_sheets _ e in
    (f.0.least, f.0.most, pairs_right p (sheet_count p) (sheets_from (sheet_count p)) 0 (cursor 1) refl (λ z. absurd (omega (arith, f.0.least))) f.1)

-- ---- and back

read_held : (p : List ℕ) (c : Cursor) (low high : ℕ) → c.at < cells p → low ≤ cell_at p c.at → cell_at p c.at ≤ high →
    read_within p c low high ≡ Ok (cell_at p c.at, cursor (c.at + 1))
unfolding read_within read_cell
read_held p c low high t l m = rw (lt-ltb _ _ t, le-ltb (cell_at p c.at) low l, le-ltb high (cell_at p c.at) m)

pub pairs_accepted : (p : List ℕ) {n from k : ℕ} → Pairs p n from k → (c : Cursor) → c.at ≡ 1 + 2 * k → pairs_check p n from c ≡ Ok (cursor (cells p))
unfolding pairs_check pair_check end_check
pairs_accepted p {from = from} (ends w) c a =
    let e : from ≡ cells p = omega arith in
    rw (le-ltb (from * 8) (length p) (omega arith), e)
pairs_accepted p {from = from} {k} (pair {n} t o l s more) c a =
    let i : c.at + 1 ≡ 2 + 2 * k = omega arith in
    let f : cell_at p c.at ≡ from = ap (cell_at p) a ∙ o in
    let v : cell_at p (c.at + 1) ≡ length_at p k = ap (cell_at p) i in
    rw (read_held p c from from (omega arith) (omega arith) (omega arith))
    (rw (read_held p (cursor (c.at + 1)) 0 largest (omega arith) (omega arith) (omega arith), v, le-ltb (cells p) (from + length_at p k) s)
    (pairs_accepted p more (cursor (c.at + 1 + 1)) (omega arith)))

pub pack_accepted : (p : List ℕ) → 1 ≤ sheet_count p → sheet_count p ≤ most_sheets → Pairs p (sheet_count p) (sheets_from (sheet_count p)) 0 → 0 < cells p
    → pack_check p ≡ Ok (cursor (cells p))
unfolding pack_check
pack_accepted p l m h t = rw (read_held p (cursor 0) 1 most_sheets t l m) (pairs_accepted p h (cursor 1) refl)

-- Other bytes in the place of one sheet, as many as it has, leave every other sheet and its list as they were.
use Prim.Native.Nat.{ℕ, zero, suc, ◌+◌, ◌*◌, ◌-◌, ◌≤◌, ◌<◌}
use mathlib.Core.Path.{◌≡◌, refl, sym, ap, ◌∙◌}
use mathlib.Core.Bool.{Bool, true, false, cond}
use mathlib.Core.List.{List, ◌++◌, append_assoc}
use mathlib.Core.Logic.{⊎_elim}
use native.Mathlib.Omega.{arith}
use native.Mathlib.Nat.{eq-or-lt_of_le}
use borrow.Author.Tests.{ltb-true, ltb-false, lt-ltb}
use lib.Dec.{ltb}
use lib.ListN.{length, get_or, take, drop, take-append-drop, length-drop, length-append, get_or-append}
use lib.Seq.{take-append-le, drop-append-le, drop-drop, drop_at, take_at, get_or-take, length-take-le}
use Rattle.cells.specs.Cells.{cells, half, word, cell_at, largest, read_cell, read_within, keep_within, bind_cell, write}
use Rattle.cells.specs.declared.Cursor.{Cursor}
use Rattle.cells.specs.Cells.{Cell, wrong}
use Rattle.cells.specs.Refusals.{no_entry}
use Rattle.cells.proofs.Bytes.{write_length}
use Rattle.layout.specs.Limits.{most_sheets}
use Rattle.std.specs.Prelude.{Ok}
use Rattle.cells.specs.declared.refusals.Refusal.{Refusal}
use Rattle.layout.specs.Layout.{Checked, refuse}
use Rattle.layout.specs.Layout.{cursor, end_check}
use Rattle.codegen.specs.Generation.{accepted, refused}
use Rattle.pack.proofs.Turns.{turn}
use Rattle.pack.specs.Pack.{pairs_check, sheets_from, pack_check, sheet_count, offset_at, length_at, part_at, sheet_at, packed, look_up, lowered_in}
use Rattle.pack.specs.Changes.{changed, OthersStay}
use Rattle.pack.proofs.LookUps.{looked_up}
use Rattle.pack.proofs.Tiles.{Stands, sheet_stands, tiles}

-- ---- parts of a list in which a piece is written

part_front : (a n : ℕ) (x y : List ℕ) → a + n ≤ length x → take n (drop a (x ++ y)) ≡ take n (drop a x)
part_front a n x y l =
    rw (drop-append-le a x y (omega arith)) (take-append-le n (drop a x) y (simp length-drop (omega arith)))

module _ (s bs : List ℕ) (at : ℕ) (fits : at + length bs ≤ length s) where
  before_length : length (take at s) ≡ at
  before_length = length-take-le at s (omega arith)

  three : write s at bs ≡ take at s ++ (bs ++ drop (at + length bs) s)
  unfolding write
  three = append_assoc (take at s) bs (drop (at + length bs) s)

  pub part_before : (a n : ℕ) → a + n ≤ at → take n (drop a (write s at bs)) ≡ take n (drop a s)
  part_before a n l =
      let b = before_length in
      ap (λ (x : List ℕ). take n (drop a x)) three ∙ part_front a n (take at s) (bs ++ drop (at + length bs) s) (omega arith)
      ∙ sym (part_front a n (take at s) (drop at s) (omega arith)) ∙ ap (λ (x : List ℕ). take n (drop a x)) (take-append-drop at s)

  pub part_behind : (a n : ℕ) → at + length bs ≤ a → take n (drop a (write s at bs)) ≡ take n (drop a s)
  unfolding write
  part_behind a n l =
      let e : at + length bs + (a - (at + length bs)) ≡ a = omega arith in
      let f : length (take at s ++ bs) ≡ at + length bs = length-append (take at s) bs ∙ ap (λ (k : ℕ). k + length bs) before_length in
      let g : drop a (take at s ++ bs ++ drop (at + length bs) s) ≡ drop a s =
      rw (← e, ← drop-drop (a - (at + length bs)) (at + length bs) ((take at s ++ bs) ++ drop (at + length bs) s), drop_at (take at s ++ bs) (drop (at + length bs) s) (at + length bs) f)
      (drop-drop (a - (at + length bs)) (at + length bs) s) in
      ap (take n) g

  pub part_itself : take (length bs) (drop at (write s at bs)) ≡ bs
  part_itself = rw (three, drop_at (take at s) (bs ++ drop (at + length bs) s) at before_length) (take_at bs (drop (at + length bs) s) (length bs) refl)

  byte_before : (i : ℕ) → i < at → get_or (write s at bs) i 0 ≡ get_or s i 0
  byte_before i l =
      let b = before_length in
      ap (λ (x : List ℕ). get_or x i 0) three ∙ get_or-append (take at s) (bs ++ drop (at + length bs) s) 0 i (omega arith) ∙ get_or-take at s i 0 l

  half_before : (k : ℕ) → k + 4 ≤ at → half (write s at bs) k ≡ half s k
  unfolding half
  half_before k l =
      rw (byte_before k (omega arith), byte_before (k + 1) (omega arith), byte_before (k + 2) (omega arith), byte_before (k + 3) (omega arith))

  pub cell_before : (k : ℕ) → (k + 1) * 8 ≤ at → cell_at (write s at bs) k ≡ cell_at s k
  unfolding word
  cell_before k l = rw (half_before (k * 8) (omega arith), half_before (k * 8 + 4) (omega arith))

-- ---- two packs with the same count and pairs

-- what follows a cell, where two ways agree on it
bind_same : (p : List ℕ) (c : Cursor) (low high : ℕ) (f g : ℕ → Cursor → Checked) → f (cell_at p c.at) (cursor (c.at + 1)) ≡ g (cell_at p c.at) (cursor (c.at + 1)) →
    bind_cell (refuse Refusal.BadPack) (read_within p c low high) f ≡ bind_cell (refuse Refusal.BadPack) (read_within p c low high) g
unfolding read_within read_cell
bind_same p c low high f g h = go (ltb c.at (cells p)) (ltb (cell_at p c.at) low) (ltb high (cell_at p c.at)) refl refl
  where
    read : Bool → Cell
    read a = keep_within c.at low high (cond a (Ok (cell_at p c.at, cursor (c.at + 1))) (wrong c.at))

    go : (a b e : Bool) → ltb (cell_at p c.at) low ≡ b → ltb high (cell_at p c.at) ≡ e → bind_cell (refuse Refusal.BadPack) (read a) f ≡ bind_cell (refuse Refusal.BadPack) (read a) g
    go false b e q r = refl
    go true true e q r = rw q refl
    go true false true q r = rw (q, r) refl
    go true false false q r = rw (q, r) h

module _ (p q : List ℕ) (most : ℕ) (long : length q ≡ length p) (same : (k : ℕ) → k < most → cell_at q k ≡ cell_at p k) where
  read_same : (c : Cursor) (low high : ℕ) → c.at < most → read_within q c low high ≡ read_within p c low high
  unfolding read_within read_cell
  read_same c low high l = rw (long, same c.at l)

  pairs_same : (n from : ℕ) (c : Cursor) → c.at + 2 * n ≤ most → pairs_check q n from c ≡ pairs_check p n from c
  unfolding pairs_check end_check
  pairs_same zero from c l = rw long
  pairs_same (suc n) from c l =
      rw (turn q n from c, turn p n from c) (rw (read_same c from from (omega arith)) (bind_same p c from from _ _
      (rw (read_same (cursor (c.at + 1)) 0 largest (omega arith)) (bind_same p (cursor (c.at + 1)) 0 largest _ _
      (rw (long, pairs_same n (from + cell_at p (c.at + 1)) (cursor (c.at + 1 + 1)) (omega arith)))))))

  pub pack_same : sheets_from (sheet_count p) ≤ most → pack_check q ≡ pack_check p
  unfolding pack_check
  pack_same l =
      rw (read_same (cursor 0) 1 most_sheets (omega arith)) (bind_same p (cursor 0) 1 most_sheets _ _ (pairs_same (sheet_count p) (sheets_from (sheet_count p)) (cursor 1) (omega arith)))

-- ---- a good pack with other bytes in the place of sheet i

later : {k i : ℕ} → i ≤ k → (k ≡ i → ⊥) → i < k
later {k} {i} l other = ⊎_elim (λ (e : i ≡ k). absurd (other (sym e))) (λ (g : i < k). g) (eq-or-lt_of_le l)

module _ (p : List ℕ) {d : Cursor} (good : pack_check p ≡ Ok d) (i : ℕ) (here : i < sheet_count p) (bytes : List ℕ) (long : length bytes ≡ length_at p i * 8) where
  stands : Stands p (sheets_from (sheet_count p)) i
  stands = sheet_stands p good i here

  fits : offset_at p i * 8 + length bytes ≤ length p
  fits = omega (arith, stands.within)

  -- count and pairs are as they were
  cells_stay : (k : ℕ) → k < sheets_from (sheet_count p) → cell_at (changed p i bytes) k ≡ cell_at p k
  cells_stay k l = cell_before p bytes (offset_at p i * 8) fits k (omega (arith, stands.behind))

  layout_stays : pack_check (changed p i bytes) ≡ pack_check p
  layout_stays =
      pack_same p (changed p i bytes) (sheets_from (sheet_count p)) (write_length p bytes (offset_at p i * 8) fits) cells_stay (omega arith)

  count_stays : sheet_count (changed p i bytes) ≡ sheet_count p
  count_stays = cells_stay 0 (omega arith)

  part_stays : (k : ℕ) → k < sheet_count p → sheet_at (changed p i bytes) k ≡ take (length_at p k * 8) (drop (offset_at p k * 8) (changed p i bytes))
  unfolding part_at
  part_stays k l = rw (cells_stay (1 + 2 * k) (omega arith), cells_stay (2 + 2 * k) (omega arith))

  sheet_stays : (k : ℕ) → k < sheet_count p → (k ≡ i → ⊥) → sheet_at (changed p i bytes) k ≡ sheet_at p k
  unfolding part_at
  sheet_stays k l other = part_stays k l ∙ go (ltb k i) refl
    where
      go : (b : Bool) → ltb k i ≡ b → take (length_at p k * 8) (drop (offset_at p k * 8) (changed p i bytes)) ≡ take (length_at p k * 8) (drop (offset_at p k * 8) p)
      go true e =
          let a = (tiles p good).apart k i (ltb-true k i e) here in
          part_before p bytes (offset_at p i * 8) fits (offset_at p k * 8) (length_at p k * 8) (omega arith)
      go false e =
          let a = (tiles p good).apart i k (later (ltb-false k i e) other) l in
          part_behind p bytes (offset_at p i * 8) fits (offset_at p k * 8) (length_at p k * 8) (omega arith)

  -- every other look-up answers as it did
  others_look : (k : ℕ) → (k ≡ i → ⊥) → look_up (changed p i bytes) k ≡ look_up p k
  others_look k other =
      looked_up (changed p i bytes) k ∙ rw (layout_stays, count_stays) (go (ltb k (sheet_count p)) refl) ∙ sym (looked_up p k)
    where
      go : (b : Bool) → ltb k (sheet_count p) ≡ b → packed p (cond b (accepted (sheet_at (changed p i bytes) k)) (refused no_entry 0)) ≡ packed p (cond b (accepted (sheet_at p k)) (refused no_entry 0))
      go true e = rw (sheet_stays k (ltb-true k (sheet_count p) e) other)
      go false e = refl

  -- .. and so its list is as it was, with any tables and any room
  lists_stay : (k : ℕ) → (k ≡ i → ⊥) → (tables : List ℕ) (m : ℕ) → lowered_in tables (changed p i bytes) k m ≡ lowered_in tables p k m
  unfolding lowered_in
  lists_stay k other tables m = rw (others_look k other)

  -- and sheet i is what was written
  sheet_changes : look_up (changed p i bytes) i ≡ accepted bytes
  unfolding part_at
  sheet_changes =
      let b : length_at p i * 8 ≡ length bytes = sym long in
      looked_up (changed p i bytes) i ∙ rw (layout_stays, good, count_stays, lt-ltb i (sheet_count p) here)
      (ap accepted (part_stays i here ∙ rw b (part_itself p bytes (offset_at p i * 8) fits)))

pub others_stay : OthersStay
others_stay p g i l bytes e =
    record {
      good = record { end = g.end; is = layout_stays p g.is i l bytes e ∙ g.is };
      itself = sheet_changes p g.is i l bytes e;
      others = others_look p g.is i l bytes e;
      lists = lists_stay p g.is i l bytes e;
    }

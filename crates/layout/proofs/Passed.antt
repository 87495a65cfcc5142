-- An answer that is no refusal: what was read, and what it went on with.
use Prim.Native.Nat.{ℕ, ◌+◌, ◌*◌, ◌≤◌, ◌<◌}
use mathlib.Core.Path.{◌≡◌, refl, sym, ap}
use mathlib.Core.Bool.{Bool, true, false, cond}
use mathlib.Core.List.{List}
use native.Mathlib.Omega.{arith}
use borrow.Author.Tests.{ltb-true, ltb-false}
use lib.ListN.{length}
use lib.Dec.{ltb}
use Rattle.std.specs.Prelude.{Result, Ok, Err}
use Rattle.cells.specs.Cells.{Cell, wrong, cells, cell_at, largest, read_cell, read_within, keep_within, bind_cell}
use Rattle.cells.specs.declared.Cursor.{Cursor}
use Rattle.cells.specs.declared.refusals.Refusal.{Refusal}
use Rattle.cells.specs.declared.refusals.Refused.{Refused}
use Rattle.layout.specs.Layout.{Checked, Limited, refuse, bind_limited, bind_checked, cursor, end_check, limited}

pub apart : {A : Type 0} → true ≡ false → A
apart e = let z : ◌≡◌ {A = ℕ} 0 1 = cc in absurd (omega arith)

pub never : {A B : Type 0} {r : Refused} {b : B} → Err r ≡ Ok b → A
never e = let z : ◌≡◌ {A = ℕ} 0 1 = cc in absurd (omega arith)

-- two answers that are one
same_ok : {A : Type 0} {a b : A} → ◌≡◌ {A = Result A Refused} (Ok a) (Ok b) → a ≡ b
same_ok e = cc

pub place : {c d : Cursor} → ◌≡◌ {A = Checked} (Ok c) (Ok d) → d.at ≡ c.at
place e = sym (ap (λ (x : Cursor). x.at) (same_ok e))

pub same_word : {v w : ℕ} {c d : Cursor} → ◌≡◌ {A = Limited} (Ok (v, c)) (Ok (w, d)) → (w ≡ v) × (d.at ≡ c.at)
same_word e =
    let b = same_ok e in
    (sym (ap (λ (x : ℕ × Cursor). x.0) b), sym (ap (λ (x : ℕ × Cursor). x.1.at) b))

-- cell k is there, and its number is from low to high
pub record Held (s : List ℕ) (k low high : ℕ) : Type 0 where
  pub there : k < cells s
  pub least : low ≤ cell_at s k
  pub most : cell_at s k ≤ high

data Reading (s : List ℕ) (k low high : ℕ) : Cell → Type 0 where
  held : Held s k low high → Reading s k low high (Ok (cell_at s k, cursor (k + 1)))
  bad : (m : ℕ) → Reading s k low high (wrong m)

reading : (s : List ℕ) (c : Cursor) (low high : ℕ) → Reading s c.at low high (read_within s c low high)
unfolding read_within read_cell
reading s c low high =
    go (ltb c.at (cells s)) (ltb (cell_at s c.at) low) (ltb high (cell_at s c.at)) refl refl refl
  where
    go : (a b e : Bool) → ltb c.at (cells s) ≡ a → ltb (cell_at s c.at) low ≡ b → ltb high (cell_at s c.at) ≡ e →
        Reading s c.at low high (keep_within c.at low high (cond a (Ok (cell_at s c.at, cursor (c.at + 1))) (wrong c.at)))
    go false b e p q r = bad c.at
    go true true e p q r = rw q (bad c.at)
    go true false true p q r = rw (q, r) (bad c.at)
    go true false false p q r =
        rw (q, r)
        (held (record { there = ltb-true _ _ p; least = ltb-false _ _ q; most = ltb-false _ _ r }))

module _ {A : Type 0} {a : A} where
  -- a test that refuses was not met
  pub kept : (b : Bool) (n : Refusal) (k : ℕ) (x : Result A Refused) → cond b (refuse n k) x ≡ Ok a → (b ≡ false) × (x ≡ Ok a)
  kept true n k x e = never e
  kept false n k x e = (refl, e)

  -- what follows a part that is right
  pub checked_passed : (x : Checked) (f : Cursor → Result A Refused) → bind_checked Err x f ≡ Ok a → (m : Cursor) × (x ≡ Ok m) × (f m ≡ Ok a)
  checked_passed (Ok m) f e = (m, refl, e)
  checked_passed (Err r) f e = never e

  -- the same where the part's end is known
  pub passed_at : (x : Checked) (f : Cursor → Result A Refused) (k : ℕ) → ((m : Cursor) → x ≡ Ok m → m.at ≡ k) → bind_checked Err x f ≡ Ok a →
      (x ≡ Ok (cursor k)) × (f (cursor k) ≡ Ok a)
  passed_at (Ok m) f k l e =
      let p : m ≡ cursor k = ap cursor (l m refl) in
      (ap (λ (c : Cursor). Ok c) p, rw p at e)
  passed_at (Err r) f k l e = never e

  -- what follows a number and a cursor
  pub word_passed : (x : Limited) (f : ℕ → Cursor → Result A Refused) → bind_limited Err x f ≡ Ok a → (v : ℕ) × (c : Cursor) × (x ≡ Ok (v, c)) × (f v c ≡ Ok a)
  word_passed (Ok x) f e = (x.0, x.1, refl, e)
  word_passed (Err r) f e = never e

  -- what follows a cell that was read
  pub cell_passed : (n : Refusal) (s : List ℕ) (c : Cursor) (f : ℕ → Cursor → Result A Refused) → bind_cell (refuse n) (read_cell s c) f ≡ Ok a →
      (c.at < cells s) × (f (cell_at s c.at) (cursor (c.at + 1)) ≡ Ok a)
  unfolding read_cell
  cell_passed n s c f = go (ltb c.at (cells s)) refl
    where
      go : (b : Bool) → ltb c.at (cells s) ≡ b →
          bind_cell (refuse n) (cond b (Ok (cell_at s c.at, cursor (c.at + 1))) (wrong c.at)) f ≡ Ok a →
          (c.at < cells s) × (f (cell_at s c.at) (cursor (c.at + 1)) ≡ Ok a)
      go false p e = never e
      go true p e = (ltb-true _ _ p, e)

  -- what follows a cell within its bounds
  pub within_passed : (n : Refusal) (s : List ℕ) (c : Cursor) (low high : ℕ) (f : ℕ → Cursor → Result A Refused) → bind_cell (refuse n) (read_within s c low high) f ≡ Ok a →
      Held s c.at low high × (f (cell_at s c.at) (cursor (c.at + 1)) ≡ Ok a)
  within_passed n s c low high f = go (reading s c low high)
    where
      go : {x : Cell} → Reading s c.at low high x → bind_cell (refuse n) x f ≡ Ok a →
          Held s c.at low high × (f (cell_at s c.at) (cursor (c.at + 1)) ≡ Ok a)
      go (held y) e = (y, e)
      go (bad k) e = never e

  -- what follows a count within its limit
  pub limited_passed : (s : List ℕ) (c : Cursor) (most : ℕ) (f : ℕ → Cursor → Result A Refused) → bind_limited Err (limited s c most) f ≡ Ok a →
      Held s c.at 0 most × (f (cell_at s c.at) (cursor (c.at + 1)) ≡ Ok a)
  unfolding limited
  limited_passed s c most f = go (reading s c 0 largest) (ltb most (cell_at s c.at)) refl
    where
      go : {x : Cell} → Reading s c.at 0 largest x → (b : Bool) → ltb most (cell_at s c.at) ≡ b →
          bind_limited Err (bind_cell (refuse Refusal.TornSheet) x (λ v next. cond (ltb most v) (refuse Refusal.Oversize c.at) (Ok (v, next)))) f ≡ Ok a →
          Held s c.at 0 most × (f (cell_at s c.at) (cursor (c.at + 1)) ≡ Ok a)
      go (bad k) b p e = never e
      go (held y) true p e = never (rw p at e)
      go (held y) false p e = (record { there = y.there; least = y.least; most = ltb-false _ _ p }, rw p at e)

-- nothing is left
pub at_end : (n : Refusal) (s : List ℕ) (c : Cursor) {d : Cursor} → end_check n s c ≡ Ok d → (d.at ≡ c.at) × (length s ≤ c.at * 8)
unfolding end_check
at_end n s c e =
    let p = kept _ n c.at (Ok c) e in
    (place p.1, ltb-false _ _ p.0)

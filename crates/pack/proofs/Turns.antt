-- A turn over the pairs of a pack.
use Prim.Native.Nat.{ℕ, suc, ◌+◌, ◌≤◌}
use mathlib.Core.Path.{◌≡◌, refl, ap}
use mathlib.Core.Bool.{Bool, true, false, cond}
use mathlib.Core.List.{List}
use native.Mathlib.Omega.{arith}
use borrow.Author.Tests.{ltb-false}
use lib.Dec.{ltb}
use Rattle.cells.specs.Cells.{cells, cell_at, largest, read_cell, read_within, keep_within, bind_cell}
use Rattle.cells.specs.declared.Cursor.{Cursor}
use Rattle.cells.specs.declared.WrongCell.{WrongCell}
use Rattle.cells.specs.Cells.{Cell, wrong}
use Rattle.std.specs.Prelude.{Result}
use mathlib.Core.Path.{Path}
use Rattle.std.specs.Prelude.{Ok, Err}
use Rattle.cells.specs.declared.refusals.Refusal.{Refusal}
use Rattle.layout.specs.Layout.{Checked, bind_limited, refuse}
use Rattle.layout.specs.Layout.{cursor}
use Rattle.pack.specs.Pack.{pair_check, pairs_check}

-- the state of the loop: where the next sheet must stand, and the cursor
abbrev pub pairs_from : List ℕ → ℕ → (ℕ × Cursor) → Checked
pairs_from p n (from, c) = pairs_check p n from c

never : {A : Type 0} {k v : ℕ} {d : Cursor} → Ok (v, d) ≡ wrong k → A
never e = let z : ◌≡◌ {A = ℕ} 0 1 = cc in absurd (omega arith)

-- a cell that was read within its bounds
pub read_most : (p : List ℕ) (c : Cursor) (low high : ℕ) {v : ℕ} {d : Cursor} → Ok (v, d) ≡ read_within p c low high → v ≤ high
unfolding read_within read_cell
read_most p c low high {v} {d} = go (ltb c.at (cells p)) (ltb (cell_at p c.at) low) (ltb high (cell_at p c.at)) refl refl
  where
    go : (a b e : Bool) → ltb (cell_at p c.at) low ≡ b → ltb high (cell_at p c.at) ≡ e →
        Ok (v, d) ≡ keep_within c.at low high (cond a (Ok (cell_at p c.at, cursor (c.at + 1))) (wrong c.at)) → v ≤ high
    go false b e q r h = never h
    go true true e q r h = never (rw q at h)
    go true false true q r h = never (rw (q, r) at h)
    go true false false q r h = let z : Path (Result (ℕ × Cursor) WrongCell) (Ok (v, d)) (Ok (cell_at p c.at, cursor (c.at + 1))) = rw (q, r) at h in let y : (v, d) ≡ (cell_at p c.at, cursor (c.at + 1)) = cc in let w : v ≡ cell_at p c.at = ap (λ (x : ℕ × Cursor). x.0) y in omega (arith, ltb-false high (cell_at p c.at) r)

-- a turn over the pairs, with what follows a pair inside its two cells
module _ (p : List ℕ) (n from : ℕ) (c : Cursor) where
  abbrev rest : ℕ → Cursor → Checked
  rest behind next = pairs_check p n behind next

  ended : (b : Bool) (k v : ℕ) (d : Cursor) → bind_limited Err (cond b (refuse Refusal.BadPack k) (Ok (v, d))) rest ≡ cond b (refuse Refusal.BadPack k) (rest v d)
  ended true k v d = refl
  ended false k v d = refl

  pub turn : pairs_check p (suc n) from c
      ≡ bind_cell (refuse Refusal.BadPack) (read_within p c from from) (λ offset c1.
      bind_cell (refuse Refusal.BadPack) (read_within p c1 0 largest) (λ size c2.
      cond (ltb (cells p) (from + size)) (refuse Refusal.BadPack c1.at) (pairs_check p n (from + size) c2)))
  unfolding pairs_check pair_check
  turn = go (read_within p c from from)
    where
      inner : (second : Cursor) (y : Cell) →
          bind_limited Err (bind_cell (refuse Refusal.BadPack) y (λ size c2. cond (ltb (cells p) (from + size)) (refuse Refusal.BadPack second.at) (Ok (from + size, c2)))) rest
          ≡ bind_cell (refuse Refusal.BadPack) y (λ size c2. cond (ltb (cells p) (from + size)) (refuse Refusal.BadPack second.at) (rest (from + size) c2))
      inner second (Err w) = refl
      inner second (Ok y) = ended (ltb (cells p) (from + y.0)) second.at (from + y.0) y.1

      go : (x : Cell) →
          bind_limited Err (bind_cell (refuse Refusal.BadPack) x (λ offset c1. bind_cell (refuse Refusal.BadPack) (read_within p c1 0 largest) (λ size c2.
          cond (ltb (cells p) (from + size)) (refuse Refusal.BadPack c1.at) (Ok (from + size, c2))))) rest
          ≡ bind_cell (refuse Refusal.BadPack) x (λ offset c1. bind_cell (refuse Refusal.BadPack) (read_within p c1 0 largest) (λ size c2.
          cond (ltb (cells p) (from + size)) (refuse Refusal.BadPack c1.at) (rest (from + size) c2)))
      go (Err w) = refl
      go (Ok x) = inner x.1 (read_within p x.1 0 largest)

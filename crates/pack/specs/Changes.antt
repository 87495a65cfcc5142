-- Believed: what docs/FORMAT.md, "Packs", says of a pack's layout, of a pack in which a sheet is changed, and of tables that are exchanged, as claims. They are proved in
-- proofs/Tiles (`good_laid`, `laid_good`, `tiles`), proofs/Changes (`others_stay`) and proofs/Tables (`tables_exchanged`).
use Rattle.std.specs.Prelude.{ℕ, suc, ◌+◌, ◌*◌, ◌≤◌, ◌<◌, ◌≡◌, false, length, take}
use mathlib.Core.List.{List, ◌++◌, flatten}
use Rattle.cells.specs.Cells.{largest, write}
use Rattle.cells.specs.declared.Cursor.{Cursor}
use Rattle.layout.specs.Limits.{most_sheets}
use Rattle.std.specs.Prelude.{Ok}
use Rattle.layout.specs.Layout.{tables_check}
use Rattle.codegen.specs.Generation.{accepted, lowered}
use Rattle.pack.specs.Pack.{sheets_from, Checks, sheet_count, offset_at, length_at, sheet_at, sheets_of, look_up, lowered_in}
use Rattle.pack.specs.Names.{names_any}

-- the layout of a pack in words; `pack_check` accepts exactly these (proofs/Tiles: `good_laid`, `laid_good`)
pub record Good (p : List ℕ) : Type 0 where
  pub some : 1 ≤ sheet_count p
  pub few : sheet_count p ≤ most_sheets
  pub first : offset_at p 0 ≡ sheets_from (sheet_count p)
  pub next : (k : ℕ) → suc k < sheet_count p → offset_at p (suc k) ≡ offset_at p k + length_at p k
  pub last : (k : ℕ) → suc k ≡ sheet_count p → (offset_at p k + length_at p k) * 8 ≡ length p
  pub counts : (k : ℕ) → k < sheet_count p → length_at p k ≤ largest

-- the sheets of a pack tile it: no two of them share a cell, they stand in the order of their numbers, and with count and pairs they are the whole file
pub record Tiles (p : List ℕ) : Type 0 where
  pub inside : (k : ℕ) → k < sheet_count p → (sheets_from (sheet_count p) ≤ offset_at p k) × ((offset_at p k + length_at p k) * 8 ≤ length p)
  pub apart : (j k : ℕ) → j < k → k < sheet_count p → offset_at p j + length_at p j ≤ offset_at p k
  pub whole : p ≡ take (sheets_from (sheet_count p) * 8) p ++ flatten (sheets_of p)

-- the pack with other bytes in the place of sheet i
abbrev pub changed : List ℕ → ℕ → List ℕ → List ℕ
changed p i bytes = write p (offset_at p i * 8) bytes

-- what it comes to: a good pack, in which sheet i is what was written, and every other look-up and every other list are as they were
pub record Changed (p : List ℕ) (i : ℕ) (bytes : List ℕ) : Type 0 where
  pub good : Checks (changed p i bytes)
  pub itself : look_up (changed p i bytes) i ≡ accepted bytes
  pub others : (k : ℕ) → (k ≡ i → ⊥) → look_up (changed p i bytes) k ≡ look_up p k
  pub lists : (k : ℕ) → (k ≡ i → ⊥) → (tables : List ℕ) (m : ℕ) → lowered_in tables (changed p i bytes) k m ≡ lowered_in tables p k m

-- "Changing one sheet, its length kept, leaves every other sheet's list as it was"
abbrev pub OthersStay : Type 0
OthersStay = (p : List ℕ) → Checks p → (i : ℕ) → i < sheet_count p → (bytes : List ℕ) → length bytes ≡ length_at p i * 8 → Changed p i bytes

-- "exchanging good tables for other good ones leaves the list of every sheet that names no string or float": of a sheet by itself, and of one in a pack
abbrev pub TablesExchanged : Type 0
TablesExchanged =
    (t t' : List ℕ) (end end' : Cursor) → tables_check t ≡ Ok end → tables_check t' ≡ Ok end' →
    ((s : List ℕ) (m : ℕ) → names_any s ≡ false → lowered t s m ≡ lowered t' s m)
    × ((p : List ℕ) (k m : ℕ) → names_any (sheet_at p k) ≡ false → lowered_in t p k m ≡ lowered_in t' p k m)

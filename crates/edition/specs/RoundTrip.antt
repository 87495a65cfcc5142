-- Believed: the claim of a conversion: going out and back returns the first bytes, from either edition (docs/FORMAT.md, "Edition 2"; M-109).
use Rattle.std.specs.Prelude.{ℕ, ◌*◌, ◌≤◌, ◌≡◌, List, ◌++◌, length, take, drop}
use Rattle.cells.specs.Cells.{cell_bytes, Bytes}
use Rattle.cells.specs.Outcomes.{accepted}
use Rattle.layout.specs.declared.Edition.{Edition}
use Rattle.layout.specs.Layout.{LaidIn}
use Rattle.edition.specs.Editions.{other, converted, output_after}

-- a sheet s of edition e has these cells in the other edition
pub record Returns (e : Edition) (s xs : List ℕ) : Type 0 where
  -- the layout of the result is right
  pub laid : LaidIn (other e) (cell_bytes xs)
  -- converted back, with room for it, it is accepted, and its bytes are the first ones
  pub first : List ℕ
  pub bytes : cell_bytes first ≡ s
  pub back : (room : ℕ) → length s ≤ room → converted (other e) (cell_bytes xs) room ≡ accepted first

abbrev pub RoundTrip : Type 0
RoundTrip = (e : Edition) (s : List ℕ) (room : ℕ) (xs : List ℕ) → Bytes s → converted e s room ≡ accepted xs → Returns e s xs

-- the same of the output of an accepted call, which wrote n cells
pub record Kept (e : Edition) (s out : List ℕ) (n : ℕ) : Type 0 where
  -- the layout of the result is right
  pub laid : LaidIn (other e) (take (8 * n) out)
  -- converted back into bytes that have room for it, it is the sheet's own bytes, and behind them is what was there
  pub back : (old : List ℕ) → length s ≤ length old → output_after (converted (other e) (take (8 * n) out) (length old)) old ≡ s ++ drop (length s) old

-- Auxiliary: codegen's `var_offsets` and `total` on the types of a sheet, by `generated` and `not_generated` (generation/proofs/Lowering.antt), and the numbers
-- that hold the offsets.
use Rattle.std.specs.Prelude.{ℕ, List, ◌++◌, Bool, true, false, drop}
use Rattle.cells.specs.Refusals.{no_width}
use Rattle.ir.specs.Types.{Result, ok, refused, last_offset}
use Rattle.ir.specs.Function.{types_at}
use Rattle.codegen.specs.Frame.{have_widths, offsets_from}

-- the last offset, or refusal 4 where a variable has no width
abbrev pub total_of : Bool → ℕ → Result ℕ
total_of true end = ok end
total_of false end = refused no_width

-- of n variables from cell k on
abbrev pub sizes_at : List ℕ → ℕ → ℕ → Result ℕ
sizes_at s n k = total_of (have_widths (types_at s n k)) (last_offset 0 (types_at s n k))

-- the numbers afterwards: the offsets of these, and behind them the old numbers
abbrev pub offsets_after : List ℕ → ℕ → ℕ → List ℕ → List ℕ
offsets_after s n k old = offsets_from 0 (types_at s n k) ++ drop n old

-- Totals of a pack with a sheet that lowers, an empty one and one more that lowers, by computation; with good tables and with bad ones.
use Prim.Native.Nat.{ℕ}
use mathlib.Core.Path.{◌≡◌, refl}
use mathlib.Core.List.{List, [], ◌∷◌, ◌++◌}
use Rattle.cells.specs.Cells.{bytes_of, word, half, minus, read_cell, read_within}
use Rattle.cells.specs.Refusals.{bad_pack}
use Rattle.ir.specs.Types.{last_offset, is_float}
use Rattle.ir.specs.Function.{tables_of, types_at, vars_at, lines_at, function_of}
use Rattle.layout.specs.Layout.{end_check, floats_check, tables_check, limited, count_check, return_check, types_check, params_in, instrs_in, rest_in, head_in, sheet_in}
use Rattle.codegen.specs.Instructions.{excess}
use Rattle.codegen.specs.Frame.{offsets_from, have_widths, var_offsets, store_params, copy_params, func_prologue}
use Rattle.codegen.specs.Generation.{Outcome, accepted, refused, generate_body, ends_in_ret, with_epilogue, generate, compiled}
use Rattle.pack.specs.Pack.{pair_check, pairs_check, pack_check, part_at, sheets_at}
use Rattle.totals.specs.declared.Totals.{Totals}
use Rattle.totals.specs.Totals.{totals, taken, pack_totals}

from_cells : List ℕ → List ℕ
from_cells [] = []
from_cells (c ∷ cs) = bytes_of c ++ from_cells cs

-- no variables and no instructions: six records
empty : List ℕ
empty = 0 ∷ 0 ∷ 0 ∷ 0 ∷ minus 1 ∷ 0 ∷ []

three : List ℕ
three = from_cells (3 ∷ 7 ∷ 6 ∷ 13 ∷ 0 ∷ 13 ∷ 6 ∷ (empty ++ empty))

answers : List (Outcome Totals)
answers = pack_totals (from_cells (0 ∷ [])) three ∷ pack_totals [] three ∷ pack_totals [] [] ∷ []

totals_right : answers ≡ accepted (totals 12 1) ∷ accepted (totals 0 3) ∷ refused bad_pack 0 ∷ []
unfolding bytes_of word half read_cell read_within last_offset is_float tables_of types_at vars_at lines_at function_of end_check floats_check tables_check limited count_check return_check types_check params_in instrs_in rest_in head_in sheet_in excess offsets_from have_widths var_offsets store_params copy_params func_prologue generate_body ends_in_ret with_epilogue generate compiled pair_check pairs_check pack_check part_at sheets_at taken pack_totals from_cells empty three answers
totals_right = refl

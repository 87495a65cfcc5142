-- The premises of the demands can be met, all at once: the listing example is accepted and plain, its parameter's store meets no other, and there is
-- an entry by the ABI.
use Prim.Native.Nat.{ℕ, zero, suc}
use mathlib.Core.Path.{◌≡◌, refl}
use mathlib.Core.Bool.{false, cond}
use mathlib.Core.List.{List, [], ◌∷◌, ◌++◌}
use lib.Dec.{eqb, lit<}
use lib.ListN.{length, replicate}
use Rattle.cells.specs.Cells.{bytes_of, minus, word, half, read_cell, read_within}
use Rattle.ir.specs.Types.{bytes, offset_behind, last_offset, type_size, is_float, is_unsigned, element_width, elf_size, operand_size}
use Rattle.ir.specs.Function.{tables_of, operand_at, instr_at, arguments_at, behind, types_at, vars_at, operands_at, lines_at, function_of}
use Rattle.layout.specs.Layout.{end_check, floats_check, tables_check, limited, count_check, zeros_check, fields_check, type_check, return_check, var_in, operand_in, operands_in, dest_in, side_in, call_check, body_in, instr_in, types_check, param_in, params_in, instrs_in, rest_in, head_in, sheet_in}
use Rattle.x86.specs.declared.enums.Instruction.{Instruction}
use Rattle.codegen.specs.Context.{displacement}
use Rattle.codegen.specs.Utils.{size_from, var_size, convert_var, convert_operand, own_size, load_from, load_value, load_operand}
use Rattle.codegen.specs.Instructions.{generate_return, excess}
use Rattle.codegen.specs.Frame.{offsets_from, have_widths, var_offsets, store_params, copy_params, func_prologue}
use Rattle.codegen.specs.Generation.{Outcome, accepted, refused, generate_instr, generate_body, ends_in_ret, with_epilogue, generate, compiled, lowered, records_after}
use Rattle.machine.specs.Machine as x86
use Rattle.machine.specs.Machine.{State, Choice}
use Rattle.machine.specs.Plain.{Plain, every, are_distinct, is_plain_head, is_plain_instr, is_plain_at, is_fault}
use Rattle.machine.specs.Simulation.{Entry, Simulates, Demand3}
use Rattle.machine.specs.Calls.{Apart}
use Rattle.machine.proofs.Demand3.{demand3}

-- ---- the example (docs/FORMAT.md, "The listing program")

abbrev from_cells : List ℕ → List ℕ
from_cells [] = []
from_cells (c ∷ cs) = bytes_of c ++ from_cells cs

abbrev pub tables : List ℕ
tables = from_cells (0 ∷ [])

abbrev pub sheet : List ℕ
sheet =
    from_cells (1 ∷ 1 ∷ 0 ∷ 3 ∷ minus 1 ∷ 1 ∷ 3 ∷ minus 1 ∷ 0 ∷ 3 ∷ minus 1 ∷ 9 ∷ 0 ∷ 0 ∷ 0 ∷ 0 ∷ 0 ∷ 0 ∷ 3 ∷ minus 1 ∷ 0 ∷ 0 ∷ 0 ∷ 0 ∷ [])

-- room for its eight records
abbrev pub room : List ℕ
room = replicate 512 0

-- RSP is 8 less than a multiple of 16; everything else is 0
abbrev pub entry : State
entry =
    record {
      regs = λ r. cond (eqb r 4) 65544 0;
      mem = λ a. 0;
      flags = record { zf = false; sf = false; cf = false; pf = false; ov = false; df = false };
      links = λ b k. 0;
      pos = 0;
      status = x86.running;
    }

abbrev list_of : Outcome (List Instruction) → List Instruction
list_of (accepted is) = is
list_of (refused n place) = []

abbrev pub list : List Instruction
list = list_of (lowered tables sheet 512)

-- ---- what they meet

pub record Premises : Type 0 where
  pub accepts : lowered tables sheet (length room) ≡ accepted list
  pub plain : Plain tables sheet
  pub apart : Apart (function_of sheet).vars (function_of sheet).params
  pub enters : Entry entry

pub premises : Premises
unfolding bytes_of word half read_cell read_within bytes offset_behind last_offset type_size is_float is_unsigned element_width elf_size operand_size tables_of operand_at instr_at arguments_at behind types_at vars_at operands_at lines_at function_of end_check floats_check tables_check limited count_check zeros_check fields_check type_check return_check var_in operand_in operands_in dest_in side_in call_check body_in instr_in types_check param_in params_in instrs_in rest_in head_in sheet_in displacement size_from var_size convert_var convert_operand own_size load_from load_value load_operand generate_return offsets_from have_widths var_offsets excess store_params copy_params func_prologue generate_instr generate_body ends_in_ret with_epilogue generate compiled lowered every are_distinct is_plain_head is_plain_instr is_plain_at is_fault
premises =
    record {
      accepts = refl;
      plain = record { faultless = go };
      apart = (lit< tt, refl, tt, tt);
      enters = record { going = refl; first = refl; aligned = refl; upward = refl };
    }
  where
    go : (k : ℕ) → is_fault tables sheet k ≡ false
    go zero = refl
    go (suc zero) = refl
    go (suc (suc k)) = refl

-- ---- so the demands say something of this list and its run

pub demanded : Demand3 tables sheet (records_after (lowered tables sheet (length room)) room) (length list)
demanded = demand3 tables sheet room list premises.accepts premises.plain

pub simulated : (o : ℕ → Choice) → Simulates (tables_of tables) (function_of sheet) demanded.list o entry
simulated o = demanded.simulates o entry premises.enters

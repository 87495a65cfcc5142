-- The cases, by computation.
use Prim.Native.Nat.{ℕ}
use mathlib.Core.Path.{refl, sym, ap₂, ◌∙◌}
use mathlib.Core.List.{List, ◌++◌, map-append}
use Rattle.cells.specs.Cells.{bytes_of, word, half, read_cell, read_within}
use Rattle.ir.specs.Types.{bytes, offset_behind, last_offset, type_size, is_float, is_unsigned, element_width, elf_size, operand_size}
use Rattle.layout.specs.Layout.{end_check, floats_check, tables_check, limited, count_check, zeros_check, fields_check, type_check, return_check, var_in, operand_in, operands_in, dest_in, side_in, call_check, body_in, instr_in, types_check, param_in, params_in, instrs_in, rest_in, head_in, sheet_in}
use Rattle.ir.specs.Function.{binary_op, tables_of, operand_at, unary_op, instr_at, arguments_at, behind, types_at, vars_at, operands_at, lines_at, function_of}
use Rattle.x86.specs.Records.{record_of, record_bytes, list_bytes}
use Rattle.codegen.specs.Context.{displacement, string_at, float_at, float_short, label_at}
use Rattle.codegen.specs.Utils.{size_from, var_size, convert_var, convert_operand, own_size, load_from, load_string, load_value, load_operand}
use Rattle.codegen.specs.Instructions.{generate_return, operand_kind, generate_copy, cast_operand, cast_between, zero_extended, generate_cast, generate_zero, excess, load_arguments, push_arguments, store_result, generate_call, generate_jmp_if_not, generate_label, generate_jump}
use Rattle.codegen.specs.Arithmetic.{simple_operation, float_operation, two_loads, division, multiplication, shift, unsigned_code, compared, float_comparison, comparison, generate_binary, generate_unary}
use Rattle.codegen.specs.Frame.{offsets_from, have_widths, var_offsets, store_params, copy_params, func_prologue}
use Rattle.codegen.specs.Generation.{generate_instr, generate_body, ends_in_ret, with_epilogue, generate, compiled, lowered, records_after}
use Rattle.machine.specs.Word.{number, bitwise}
use Rattle.machine.specs.Encodings.{known}
use Rattle.machine.specs.Machine as x86
use Rattle.machine.specs.Steps as steps
use Rattle.machine.specs.Plain.{every, are_distinct, is_plain_head, is_plain_binary, label_count, is_plain_instr, is_plain_at, is_fault, first_among, first_fault}
use Rattle.machine.specs.Frames.{offset_from, behind as frame_behind}
use Rattle.cases.specs.Cases.{Case, lists, answers, runs, quotients, HoldIn, Hold}
use Rattle.cases.specs.Faults.{FaultsHold}

join : (a b : List Case) → HoldIn a → HoldIn b → HoldIn (a ++ b)
join a b p q =
    map-append (λ (c : Case). c.given) a b ∙ ap₂ (λ (x y : List (List ℕ)). x ++ y) p q ∙ sym (map-append (λ (c : Case). c.expected) a b)

-- what the cases compute with: to unfold this is to unfold all of it
opened : Type 0
unfolding bytes_of word half read_cell read_within bytes type_size is_float is_unsigned element_width elf_size operand_size end_check floats_check tables_check limited count_check zeros_check fields_check type_check return_check var_in operand_in operands_in dest_in side_in call_check body_in instr_in types_check param_in params_in instrs_in rest_in head_in sheet_in binary_op tables_of operand_at unary_op instr_at arguments_at behind types_at vars_at operands_at lines_at function_of record_of record_bytes list_bytes displacement string_at float_at float_short label_at size_from var_size convert_var convert_operand own_size load_from load_string load_value load_operand generate_return operand_kind generate_copy cast_operand cast_between zero_extended generate_cast generate_zero excess load_arguments push_arguments store_result generate_call generate_jmp_if_not generate_label generate_jump simple_operation float_operation two_loads division multiplication shift unsigned_code compared float_comparison comparison generate_binary generate_unary offsets_from offset_behind last_offset have_widths var_offsets store_params copy_params func_prologue generate_instr generate_body ends_in_ret with_epilogue generate compiled lowered records_after number bitwise known x86.merge x86.find x86.exec x86.run steps.width steps.binary steps.unary steps.cast steps.find steps.exec steps.run offset_from frame_behind
opened = Unit {0}

lists_hold : HoldIn lists
unfolding opened
lists_hold = refl

answers_hold : HoldIn answers
unfolding opened
answers_hold = refl

runs_hold : HoldIn runs
unfolding opened
runs_hold = refl

quotients_hold : HoldIn quotients
unfolding opened
quotients_hold = refl

pub twelve : Hold
twelve =
    record {
      table = join lists (answers ++ (runs ++ quotients)) lists_hold (join answers (runs ++ quotients) answers_hold (join runs quotients runs_hold quotients_hold));
      entered = record { going = refl; first = refl; aligned = refl; upward = refl };
    }

-- ---- the plain test

pub first_faults : FaultsHold
unfolding opened every are_distinct is_plain_head is_plain_binary label_count is_plain_instr is_plain_at is_fault first_among first_fault
first_faults = refl

-- Auxiliary: the records of an instruction and of a body, codegen's `generate_instr` and `generate_body` on the sheet's cells, by `by_kind` (proofs/Lines)
-- and `in_turn` (proofs/Running); and what a survey of a body says.
use Rattle.std.specs.Prelude.{ℕ, List, length}
use Rattle.cells.specs.Cells.{cell_at}
use Rattle.ir.specs.declared.«Type».{«Type» as IrType}
use Rattle.ir.specs.Types as types
use Rattle.ir.specs.Types.{Result, ok}
use Rattle.ir.specs.Function.{type_at, line_at, lines_at, body_from}
use Rattle.std.specs.Prelude.{Bool, Ok, Err}
use Rattle.std.specs.Prelude as std
use Rattle.cells.specs.declared.Cursor.{Cursor}
use Rattle.cells.specs.declared.refusals.Refused.{Refused as Refusing}
use Rattle.cells.specs.Refusals.{number_of_refusal}
use Rattle.layout.specs.Layout.{Checked}
use Rattle.codegen.specs.Context.{Context}
use Rattle.x86.specs.declared.enums.Instruction.{Instruction}
use Rattle.codegen.specs.Generation.{Outcome, accepted, refused, generate_instruction, generate_body, ends_in_ret}
use Rattle.body.specs.declared.Survey.{Survey}
use Rattle.body.specs.declared.Made.{Made as Counted}

-- ---- the records

-- These are the records of the instruction at cell k, in a function of so many labels and a return type.
abbrev pub line_made : Context → List ℕ → ℕ → ℕ → IrType → Result (List Instruction)
line_made ctx s k labels ret = generate_instruction ctx labels ret (line_at s k)

-- These are the records of the body.
unfoldable pub body_of : Context → List ℕ → Outcome (List Instruction)
body_of ctx s = generate_body ctx (cell_at s 2) (type_at s 3) 1 (lines_at s (cell_at s 5) (body_from s))

-- This is an outcome without the place of its refusal.
abbrev pub without_place : {A : Type 0} → Outcome A → Result A
without_place (accepted a) = ok a
without_place (refused n place) = types.refused n

-- ---- what a survey says

-- Of a body it says how many records there are, and whether the last of them is Ret; or a refusal with its instruction's number.
pub data Passed : Type 0 where
  Made : ℕ → Bool → Passed
  Refused : ℕ → ℕ → Passed

-- Of a sheet it says this of its body, where the layout is right, and the cursor behind it; or the layout's refusal with its cell.
pub data Surveyed : Type 0 where
  Laid : Passed → Cursor → Surveyed
  Wrong : ℕ → ℕ → Surveyed

abbrev pub passed_of : Outcome (List Instruction) → Passed
passed_of (accepted is) = Passed.Made (length is) (ends_in_ret is)
passed_of (refused n i) = Passed.Refused n i

-- A wrong layout comes first.
abbrev pub survey_of : Checked → Passed → Surveyed
survey_of (Ok c) p = Surveyed.Laid p c
survey_of (Err r) p = Surveyed.Wrong (number_of_refusal r.refusal) r.place

-- It has counted so many records.
abbrev pub made_by : Passed → ℕ
made_by (Passed.Made n ret) = n
made_by (Passed.Refused n i) = 0

abbrev pub made_in : Surveyed → ℕ
made_in (Surveyed.Laid p c) = made_by p
made_in (Surveyed.Wrong n k) = 0

-- ---- the code's answers

abbrev pub passed_says : std.Result Counted Refusing → Passed
passed_says (Ok m) = Passed.Made m.records m.ret
passed_says (Err r) = Passed.Refused (number_of_refusal r.refusal) r.place

abbrev pub survey_says : std.Result Survey Refusing → Surveyed
survey_says (Ok s) = Surveyed.Laid (passed_says s.body) s.end
survey_says (Err r) = Surveyed.Wrong (number_of_refusal r.refusal) r.place

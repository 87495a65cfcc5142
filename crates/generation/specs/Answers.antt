-- Believed: the contracts of `count` and `generate` are said with it. A public answer says a number of records, or a refusal with its place
-- (docs/FORMAT.md, "Refusals").
use Rattle.std.specs.Prelude.{ℕ, List, length}
use Rattle.x86.specs.declared.enums.Instruction.{Instruction}
use Rattle.cells.specs.Outcomes.{Outcome, amount}

-- This is the number of records of a list.
abbrev pub counted_outcome : Outcome (List Instruction) → Outcome ℕ
counted_outcome o = amount length o

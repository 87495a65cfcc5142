-- Auxiliary: the context that the code holds, and what its answers say, in the words of the definitions.
use Rattle.std.specs.Prelude.{ℕ, List, length}
use Rattle.ir.specs.Types.{Result, ok, refused}
use Rattle.ir.specs.Function.{tables_of}
use Rattle.x86.specs.declared.enums.Instruction.{Instruction}
use Rattle.codegen.specs.Context.{Context, context_of}
use Rattle.utils.specs.declared.context.Context.{Context as Held}

-- the context of the tables and offsets that are lent
abbrev pub lent : List ℕ → List ℕ → Context
lent tables offsets = context_of (tables_of tables) offsets

-- the context that the code holds
abbrev pub held : Held → Context
held h = lent h.tables.now h.offsets.now

-- the number of records that were made
abbrev pub counted : Result (List Instruction) → Result ℕ
counted (ok is) = ok (length is)
counted (refused n) = refused n

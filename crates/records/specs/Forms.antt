-- Auxiliary: an instruction's form is the first cell of its record.
use Rattle.std.specs.Prelude.{ℕ, cond, List, eqb}
use Rattle.cells.specs.Cells.{write}
use Rattle.x86.specs.declared.enums.Instruction.{Instruction}
use Rattle.x86.specs.Records.{record_of, record_bytes}

abbrev pub form_of : Instruction → ℕ
form_of i = (record_of i).form

-- the bytes after the writer of form k: the record of an instruction of that form from `at` on, and nothing of any other
abbrev pub put_of : ℕ → Instruction → List ℕ → ℕ → List ℕ
put_of k i bytes at = cond (eqb (form_of i) k) (write bytes at (record_bytes (record_of i))) bytes

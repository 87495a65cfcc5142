-- Auxiliary: how many records there can be; that there are no more is `instr_part` and `prologue_few` (proofs/Shapes).
use Rattle.std.specs.Prelude.{ℕ, ◌+◌, ◌*◌}
use Rattle.layout.specs.Limits.{most_instructions, most_arguments}

-- of an instruction with n arguments
abbrev pub most_records : ℕ → ℕ
most_records n = 7 + 2 * n

-- of a body: 552,960
abbrev pub most_in_body : ℕ
most_in_body = most_instructions * most_records most_arguments

-- of the prologue with n parameters: 529 for the 256 parameters that a sheet can have
abbrev pub most_in_prologue : ℕ → ℕ
most_in_prologue n = 17 + 2 * n

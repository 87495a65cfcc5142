-- Believed: refusals 1, 3 and 13 rest on it. The limits of tables, sheet and pack (docs/FORMAT.md, "Limits").
use Rattle.std.specs.Prelude.{ℕ}

abbrev pub most_strings : ℕ
most_strings = 256

abbrev pub most_floats : ℕ
most_floats = 256

abbrev pub most_variables : ℕ
most_variables = 256

abbrev pub most_parameters : ℕ
most_parameters = 256

abbrev pub most_labels : ℕ
most_labels = 256

abbrev pub most_instructions : ℕ
most_instructions = 4096

-- the arguments of one call
abbrev pub most_arguments : ℕ
most_arguments = 64

-- the count of an array, and the offset of a variable
abbrev pub most_count : ℕ
most_count = 1048576

-- the sheets of a pack
abbrev pub most_sheets : ℕ
most_sheets = 256

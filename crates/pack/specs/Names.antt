-- Believed: which sheets name a string or a float of the tables (docs/FORMAT.md, "Packs"): those with a DataAddress or a Float
-- among their operands, a call's arguments included.
use Rattle.std.specs.Prelude.{ℕ, List, [], ◌∷◌, ◌++◌, Bool, true, false, ◌||◌}
use Rattle.ir.specs.declared.Operand.{Operand}
use Rattle.ir.specs.declared.Instr.{Instr}
use Rattle.ir.specs.Function.{Line, function_of}

abbrev pub is_named : Operand → Bool
is_named (Operand.Var v) = false
is_named (Operand.Int n short unsigned) = false
is_named (Operand.Float k) = true
is_named (Operand.Bool b) = false
is_named (Operand.Address v) = false
is_named (Operand.DataAddress k) = true
is_named Operand.Null = false

-- the operands that an instruction holds
abbrev pub operands_of : Instr → List Operand
operands_of (Instr.Copy dest src) = src ∷ []
operands_of (Instr.Unary dest op src) = src ∷ []
operands_of (Instr.Binary dest op left right) = left ∷ right ∷ []
operands_of (Instr.Cast dest src) = src ∷ []
operands_of (Instr.Zero dest) = []
operands_of (Instr.Call dest symbol count) = []
operands_of (Instr.Label l) = []
operands_of (Instr.Jump l) = []
operands_of (Instr.JumpIfNot condition target) = condition ∷ []
operands_of (Instr.Return op) = op ∷ []
operands_of Instr.Comment = []

unfoldable pub any_named : List Operand → Bool
any_named [] = false
any_named (x ∷ xs) = is_named x || any_named xs

unfoldable pub lines_name : List Line → Bool
lines_name [] = false
lines_name (line ∷ lines) = any_named (operands_of line.instr ++ line.args) || lines_name lines

-- whether a sheet names a string or a float
abbrev pub names_any : List ℕ → Bool
names_any s = lines_name (function_of s).body

-- Believed: what the cells of tables and sheet mean, where their layout is right (docs/FORMAT.md, "Tables" to "Instructions"; Krc's
-- converter/ir/structs.rs).
use Rattle.std.specs.Prelude.{ℕ, zero, suc, ◌+◌, ◌*◌, ◌-◌, List, [], ◌∷◌, Bool, cond, get_or, eqb, ltb, Option, Some, None}
use Rattle.cells.specs.Cells.{cells, cell_at}
use Rattle.ir.specs.declared.«Type».{«Type» as IrType}
use Rattle.ir.specs.declared.VarId.{VarId}
use Rattle.ir.specs.declared.Operand.{Operand}
use Rattle.ir.specs.declared.UnaryOp.{UnaryOp}
use Rattle.ir.specs.declared.BinaryOp.{BinaryOp}
use Rattle.ir.specs.declared.Instr.{Instr}

-- an operation by its position, from 0 to 17
unfoldable pub binary_op : ℕ → BinaryOp
binary_op k =
    get_or (BinaryOp.Or ∷ BinaryOp.And ∷ BinaryOp.BitOr ∷ BinaryOp.BitXor ∷ BinaryOp.BitAnd ∷ BinaryOp.Eq ∷ BinaryOp.NotEq ∷ BinaryOp.Lt ∷ BinaryOp.Le
    ∷ BinaryOp.Gt ∷ BinaryOp.Ge ∷ BinaryOp.Shl ∷ BinaryOp.Shr ∷ BinaryOp.Add ∷ BinaryOp.Sub ∷ BinaryOp.Mul ∷ BinaryOp.Div ∷ BinaryOp.Rem ∷ []) k BinaryOp.Rem

-- ---- tables

-- how many strings and how many float constants there are, and whether float constant k is short
pub record Tables : Type 0 where
  pub strings : ℕ
  pub floats : ℕ
  pub short : ℕ → Bool

-- the first cell has the string count, each other a float
unfoldable pub tables_of : List ℕ → Tables
tables_of t = record { strings = cond (ltb 0 (cells t)) (cell_at t 0) 0; floats = cells t - 1; short = λ k. eqb (cell_at t (k + 1)) 1 }

-- ---- the parts of a sheet, each by the number of its first cell

abbrev pub type_at : List ℕ → ℕ → IrType
type_at s k = record { code = cell_at s k; count = cell_at s (k + 1) }

abbrev pub var_at : List ℕ → ℕ → VarId
var_at s k = record { id = cell_at s k; ty = type_at s (k + 1) }

-- an operand's fields, by its kind
abbrev pub var_operand : List ℕ → ℕ → Operand
var_operand s k = Operand.Var (var_at s (k + 1))

abbrev pub int_operand : List ℕ → ℕ → Operand
int_operand s k = Operand.Int (cell_at s (k + 1)) (eqb (cell_at s (k + 2)) 1) (eqb (cell_at s (k + 3)) 1)

abbrev pub float_operand : List ℕ → ℕ → Operand
float_operand s k = Operand.Float (cell_at s (k + 1))

abbrev pub bool_operand : List ℕ → ℕ → Operand
bool_operand s k = Operand.Bool (eqb (cell_at s (k + 1)) 1)

abbrev pub address_operand : List ℕ → ℕ → Operand
address_operand s k = Operand.Address (var_at s (k + 1))

abbrev pub data_operand : List ℕ → ℕ → Operand
data_operand s k = Operand.DataAddress (cell_at s (k + 1))

-- an operand, by its position in `Operand`; the last is Null
unfoldable pub operand_at : List ℕ → ℕ → Operand
operand_at s k =
    get_or (var_operand ∷ int_operand ∷ float_operand ∷ bool_operand ∷ address_operand ∷ data_operand ∷ []) (cell_at s k) (λ s k. Operand.Null) s k

-- by the position in `UnaryOp`
unfoldable pub unary_op : ℕ → UnaryOp
unary_op k = get_or (UnaryOp.Neg ∷ UnaryOp.BitNot ∷ []) k UnaryOp.Not

-- 1 or 0 for a call with or without dest
abbrev pub dest_at : List ℕ → ℕ → Option VarId
dest_at s k = cond (eqb (cell_at s (k + 1)) 1) (Some (var_at s (k + 2))) None

-- an instruction's fields, by its kind: the operation is cell 1 of its 13, dest begins at 2, left at 5, right at 9
abbrev pub copy_at : List ℕ → ℕ → Instr
copy_at s k = Instr.Copy (var_at s (k + 2)) (operand_at s (k + 5))

abbrev pub unary_at : List ℕ → ℕ → Instr
unary_at s k = Instr.Unary (var_at s (k + 2)) (unary_op (cell_at s (k + 1))) (operand_at s (k + 5))

abbrev pub binary_at : List ℕ → ℕ → Instr
binary_at s k = Instr.Binary (var_at s (k + 2)) (binary_op (cell_at s (k + 1))) (operand_at s (k + 5)) (operand_at s (k + 9))

abbrev pub cast_at : List ℕ → ℕ → Instr
cast_at s k = Instr.Cast (var_at s (k + 2)) (operand_at s (k + 5))

abbrev pub zero_at : List ℕ → ℕ → Instr
zero_at s k = Instr.Zero (var_at s (k + 2))

abbrev pub call_at : List ℕ → ℕ → Instr
call_at s k = Instr.Call (dest_at s k) (cell_at s (k + 5)) (cell_at s (k + 6))

abbrev pub label_at : List ℕ → ℕ → Instr
label_at s k = Instr.Label (cell_at s (k + 1))

abbrev pub jump_at : List ℕ → ℕ → Instr
jump_at s k = Instr.Jump (cell_at s (k + 1))

abbrev pub jump_if_not_at : List ℕ → ℕ → Instr
jump_if_not_at s k = Instr.JumpIfNot (operand_at s (k + 5)) (cell_at s (k + 1))

abbrev pub return_at : List ℕ → ℕ → Instr
return_at s k = Instr.Return (operand_at s (k + 5))

-- an instruction, by its position in `Instr`; the last is Comment
unfoldable pub instr_at : List ℕ → ℕ → Instr
instr_at s k =
    get_or (copy_at ∷ unary_at ∷ binary_at ∷ cast_at ∷ zero_at ∷ call_at ∷ label_at ∷ jump_at ∷ jump_if_not_at ∷ return_at ∷ []) (cell_at s k) (λ s k. Instr.Comment) s k

-- the number of arguments that follow the 13 cells
unfoldable pub arguments_at : List ℕ → ℕ → ℕ
arguments_at s k = cond (eqb (cell_at s k) 5) (cell_at s (k + 6)) 0

-- the cell behind an instruction and its arguments
unfoldable pub behind : List ℕ → ℕ → ℕ
behind s k = k + 13 + 4 * arguments_at s k

-- the type of a variable, where its id has an entry among the variable types, which begin at cell 6
abbrev pub entry_at : List ℕ → ℕ → Option IrType
entry_at s id = cond (ltb id (cell_at s 0)) (Some (type_at s (6 + 2 * id))) None

-- ---- the function

-- an instruction, and a call's arguments
pub record Line : Type 0 where
  pub instr : Instr
  pub args : List Operand

-- Krc's `Function`; a return type of code 0 is none
pub record Function : Type 0 where
  pub vars : List IrType
  pub params : List VarId
  pub labels : ℕ
  pub ret : IrType
  pub body : List Line

unfoldable pub types_at : List ℕ → ℕ → ℕ → List IrType
types_at s zero k = []
types_at s (suc n) k = type_at s k ∷ types_at s n (k + 2)

unfoldable pub vars_at : List ℕ → ℕ → ℕ → List VarId
vars_at s zero k = []
vars_at s (suc n) k = var_at s k ∷ vars_at s n (k + 3)

unfoldable pub operands_at : List ℕ → ℕ → ℕ → List Operand
operands_at s zero k = []
operands_at s (suc n) k = operand_at s k ∷ operands_at s n (k + 4)

abbrev pub line_at : List ℕ → ℕ → Line
line_at s k = record { instr = instr_at s k; args = operands_at s (arguments_at s k) (k + 13) }

unfoldable pub lines_at : List ℕ → ℕ → ℕ → List Line
lines_at s zero k = []
lines_at s (suc n) k = line_at s k ∷ lines_at s n (behind s k)

-- the header has six cells; then the variable types, two cells each, the parameters, three each, and the instructions
abbrev pub params_from : List ℕ → ℕ
params_from s = 6 + 2 * cell_at s 0

abbrev pub body_from : List ℕ → ℕ
body_from s = params_from s + 3 * cell_at s 1

unfoldable pub function_of : List ℕ → Function
function_of s =
    record {
      vars = types_at s (cell_at s 0) 6;
      params = vars_at s (cell_at s 1) (params_from s);
      labels = cell_at s 2;
      ret = type_at s 3;
      body = lines_at s (cell_at s 5) (body_from s);
    }

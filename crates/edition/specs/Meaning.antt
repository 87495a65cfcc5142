-- Believed: the function that a sheet of either edition holds, and that a conversion keeps it (docs/FORMAT.md, "Edition 2"; M-109). Of edition 1 it is ir's
-- `function_of`, which the lowering reads; in edition 2 the type of a variable is its entry's.
use Rattle.std.specs.Prelude.{ℕ, zero, suc, ◌+◌, ◌*◌, ◌≡◌, List, [], ◌∷◌, map, take, Option, Some, None}
use Rattle.cells.specs.Cells.{cell_at, cell_bytes, Bytes}
use Rattle.cells.specs.Outcomes.{accepted}
use Rattle.ir.specs.declared.VarId.{VarId}
use Rattle.ir.specs.declared.Operand.{Operand}
use Rattle.ir.specs.declared.Instr.{Instr}
use Rattle.ir.specs.Function.{Line, Function, type_at, types_at, lines_at, params_from, function_of}
use Rattle.layout.specs.declared.Edition.{Edition}
use Rattle.layout.specs.Layout.{body_start}
use Rattle.edition.specs.Editions.{other, entry_at, converted}

-- ---- what was read, with the type of each variable from its entry

-- the variable of an id
abbrev pub var_of : List ℕ → ℕ → VarId
var_of s id = record { id = id; ty = type_at s (entry_at id) }

abbrev pub typed_var : List ℕ → VarId → VarId
typed_var s v = var_of s v.id

abbrev pub typed_operand : List ℕ → Operand → Operand
typed_operand s (Operand.Var v) = Operand.Var (typed_var s v)
typed_operand s (Operand.Int n short unsigned) = Operand.Int n short unsigned
typed_operand s (Operand.Float k) = Operand.Float k
typed_operand s (Operand.Bool b) = Operand.Bool b
typed_operand s (Operand.Address v) = Operand.Address (typed_var s v)
typed_operand s (Operand.DataAddress k) = Operand.DataAddress k
typed_operand s Operand.Null = Operand.Null

abbrev pub typed_dest : List ℕ → Option VarId → Option VarId
typed_dest s None = None
typed_dest s (Some v) = Some (typed_var s v)

abbrev pub typed_instr : List ℕ → Instr → Instr
typed_instr s (Instr.Copy dest src) = Instr.Copy (typed_var s dest) (typed_operand s src)
typed_instr s (Instr.Unary dest op src) = Instr.Unary (typed_var s dest) op (typed_operand s src)
typed_instr s (Instr.Binary dest op left right) = Instr.Binary (typed_var s dest) op (typed_operand s left) (typed_operand s right)
typed_instr s (Instr.Cast dest src) = Instr.Cast (typed_var s dest) (typed_operand s src)
typed_instr s (Instr.Zero dest) = Instr.Zero (typed_var s dest)
typed_instr s (Instr.Call dest symbol count) = Instr.Call (typed_dest s dest) symbol count
typed_instr s (Instr.Label l) = Instr.Label l
typed_instr s (Instr.Jump l) = Instr.Jump l
typed_instr s (Instr.JumpIfNot condition target) = Instr.JumpIfNot (typed_operand s condition) target
typed_instr s (Instr.Return op) = Instr.Return (typed_operand s op)
typed_instr s Instr.Comment = Instr.Comment

abbrev pub typed_line : List ℕ → Line → Line
typed_line s line = record { instr = typed_instr s line.instr; args = map (typed_operand s) line.args }

-- n parameters, an id each, from cell k on
unfoldable pub params_at : List ℕ → ℕ → ℕ → List VarId
params_at s zero k = []
params_at s (suc n) k = var_of s (cell_at s k) ∷ params_at s n (k + 1)

-- ---- the function

unfoldable pub function_in : Edition → List ℕ → Function
function_in Edition.First s = function_of s
function_in Edition.Second s =
    record {
      vars = types_at s (cell_at s 0) 6;
      params = params_at s (cell_at s 1) (params_from s);
      labels = cell_at s 2;
      ret = type_at s 3;
      body = map (typed_line s) (lines_at s (cell_at s 5) (body_start Edition.Second s));
    }

-- the result of a conversion holds the same function
abbrev pub SameFunction : Type 0
SameFunction =
    (e : Edition) (s : List ℕ) (room : ℕ) (xs : List ℕ) → Bytes s → converted e s room ≡ accepted xs → function_in (other e) (cell_bytes xs) ≡ function_in e s

-- the same of the output of an accepted call, which wrote n cells
abbrev pub Means : Edition → List ℕ → List ℕ → ℕ → Type 0
Means e s out n = function_in (other e) (take (8 * n) out) ≡ function_in e s

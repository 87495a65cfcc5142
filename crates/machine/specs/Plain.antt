-- Believed: demand 3 and the plain test rest on it. Which functions are plain (docs/FORMAT.md, "Plain functions"): for each number whether it is at
-- fault, 0 for variables, parameters, the return type and refusals 1 to 3, else the instruction's number from 1.
use Rattle.std.specs.Prelude.{ℕ, zero, suc, ◌+◌, ◌%◌, ◌^◌, ◌≡◌, Bool, true, false, cond, not, ◌&&◌, ◌||◌, List, [], ◌∷◌, ltb, leb, eqb, length, get_or}
use Rattle.std.proofs.Math.Option.{Option, none, some}
use Rattle.ir.specs.declared.«Type».{«Type» as IrType}
use Rattle.ir.specs.declared.VarId.{VarId}
use Rattle.ir.specs.declared.Operand.{Operand}
use Rattle.ir.specs.declared.Instr.{Instr}
use Rattle.std.specs.Prelude.{Ok, Err}
use Rattle.layout.specs.Layout.{Checked}
use Rattle.ir.specs.Types.{is_scalar, bytes}
use Rattle.ir.specs.Function.{Function, Line, tables_of, function_of}
use Rattle.layout.specs.Layout.{tables_check, sheet_check}
use Rattle.codegen.specs.Generation.{Outcome, accepted, refused, generate}
use Rattle.machine.specs.Word.{W}
use Rattle.machine.specs.Steps.{width, is_label}
use Rattle.ir.specs.declared.BinaryOp.{BinaryOp}

-- every element of a list passes a test
unfoldable pub every : {A : Type 0} → (A → Bool) → List A → Bool
every f [] = true
every f (x ∷ xs) = f x && every f xs

-- ---- types and variables

-- an integer, Bool, Char, Byte or Address: all widths 1, 4 or 8, no float codes, Custom and Null nowhere
abbrev pub is_plain_code : ℕ → Bool
is_plain_code code = leb 1 code && (leb code 4 || (leb 7 code && leb code 10))

-- none, or no array of a plain code or Null
abbrev pub is_plain_return : IrType → Bool
is_plain_return ty = is_scalar ty && (eqb ty.code 0 || (is_plain_code ty.code || eqb ty.code 12))

abbrev pub same_type : IrType → IrType → Bool
same_type a b = eqb a.code b.code && eqb a.count b.count

abbrev pub no_type : IrType
no_type = record { code = 0; count = 0 }

-- a variable's own type equals its entry
abbrev pub is_entry : Function → VarId → Bool
is_entry F v = ltb v.id (length F.vars) && (same_type v.ty (get_or F.vars v.id no_type) && is_plain_code v.ty.code)

-- .. and is no array
abbrev pub is_scalar_var : Function → VarId → Bool
is_scalar_var F v = is_entry F v && is_scalar v.ty

-- no parameter of ps has the id x
abbrev pub is_absent : ℕ → List VarId → Bool
is_absent x [] = true
is_absent x (p ∷ ps) = not (eqb p.id x) && is_absent x ps

unfoldable pub are_distinct : List VarId → Bool
are_distinct [] = true
are_distinct (p ∷ ps) = is_absent p.id ps && are_distinct ps

-- variables, parameters, return type: ids distinct, none an array; of parameters any number (M-112)
unfoldable pub is_plain_head : Function → Bool
is_plain_head F =
    every (λ t. is_plain_code t.code) F.vars
    && (is_plain_return F.ret && (are_distinct F.params && every (is_scalar_var F) F.params))

-- ---- operands

-- the pattern of a number from -2^31 to 2^32 - 1
abbrev pub is_short : ℕ → Bool
is_short v = ltb ((v + 2 ^ 31) % W) (2 ^ 32 + 2 ^ 31)

-- the pattern of a number from -2^31 to 2^31 - 1
abbrev pub is_small : ℕ → Bool
is_small v = ltb ((v + 2 ^ 31) % W) (2 ^ 32)

-- no float constant, string address or Address; short constants lie in -2^31 to 2^32 - 1
abbrev pub is_plain_operand : Function → Operand → Bool
is_plain_operand F (Operand.Var v) = is_scalar_var F v
is_plain_operand F (Operand.Int v short unsigned) = not short || is_short v
is_plain_operand F (Operand.Float k) = false
is_plain_operand F (Operand.Bool b) = true
is_plain_operand F (Operand.Address v) = false
is_plain_operand F (Operand.DataAddress k) = false
is_plain_operand F Operand.Null = true

-- of a long constant: whether it passes the test; every other operand does
abbrev pub long_constant : (ℕ → Bool) → Operand → Bool
long_constant f (Operand.Var v) = true
long_constant f (Operand.Int v short unsigned) = short || f v
long_constant f (Operand.Float k) = true
long_constant f (Operand.Bool b) = true
long_constant f (Operand.Address v) = true
long_constant f (Operand.DataAddress k) = true
long_constant f Operand.Null = true

abbrev pub is_bool_type : IrType → Bool
is_bool_type ty = eqb ty.code 7 && is_scalar ty

abbrev pub is_bool : Operand → Bool
is_bool (Operand.Var v) = is_bool_type v.ty
is_bool (Operand.Int v short unsigned) = false
is_bool (Operand.Float k) = false
is_bool (Operand.Bool b) = true
is_bool (Operand.Address v) = false
is_bool (Operand.DataAddress k) = false
is_bool Operand.Null = false

-- ---- instructions

abbrev pub is_one_byte : VarId → Bool
is_one_byte d = eqb (bytes d.ty) 1

-- the width of left and right against dest, and what else an operation asks of dest and right; Div and Rem have a dest of either sign (M-106)
unfoldable pub is_plain_binary : BinaryOp → VarId → Operand → Operand → Bool
is_plain_binary BinaryOp.Or d x y = false
is_plain_binary BinaryOp.And d x y = false
is_plain_binary BinaryOp.BitOr d x y = eqb (width x) (bytes d.ty) && long_constant is_small y
is_plain_binary BinaryOp.BitXor d x y = eqb (width x) (bytes d.ty) && long_constant is_small y
is_plain_binary BinaryOp.BitAnd d x y = eqb (width x) (bytes d.ty) && long_constant is_small y
is_plain_binary BinaryOp.Eq d x y = is_bool_type d.ty
is_plain_binary BinaryOp.NotEq d x y = is_bool_type d.ty
is_plain_binary BinaryOp.Lt d x y = is_bool_type d.ty
is_plain_binary BinaryOp.Le d x y = is_bool_type d.ty
is_plain_binary BinaryOp.Gt d x y = is_bool_type d.ty
is_plain_binary BinaryOp.Ge d x y = is_bool_type d.ty
is_plain_binary BinaryOp.Shl d x y = eqb (width x) (bytes d.ty)
is_plain_binary BinaryOp.Shr d x y = eqb (width x) (bytes d.ty)
is_plain_binary BinaryOp.Add d x y = eqb (width x) (bytes d.ty) && long_constant is_small y
is_plain_binary BinaryOp.Sub d x y = eqb (width x) (bytes d.ty) && long_constant is_small y
is_plain_binary BinaryOp.Mul d x y = eqb (width x) (bytes d.ty) && not (is_one_byte d)
is_plain_binary BinaryOp.Div d x y = eqb (width x) (bytes d.ty)
is_plain_binary BinaryOp.Rem d x y = eqb (width x) (bytes d.ty) && not (is_one_byte d)

-- from four bytes to eight only for a dest of code 1 or 2; a long constant to a narrower dest lies in -2^31 to 2^32 - 1
abbrev pub is_plain_cast : VarId → Operand → Bool
is_plain_cast d x =
    (not (eqb (width x) 4 && eqb (bytes d.ty) 8) || (eqb d.ty.code 1 || eqb d.ty.code 2))
    && (leb 8 (bytes d.ty) || long_constant is_short x)

-- how often a label stands among lines
unfoldable pub label_count : ℕ → List Line → ℕ
label_count l [] = 0
label_count l (i ∷ is) = cond (is_label l i.instr) (suc (label_count l is)) (label_count l is)

-- behind the lines `before`: arrays only under Zero; no calls; a label has not stood before, and one that is jumped to stands in the body
unfoldable pub is_plain_instr : Function → List Line → Instr → Bool
is_plain_instr F before (Instr.Copy d x) = is_scalar_var F d && (is_plain_operand F x && eqb (width x) (bytes d.ty))
is_plain_instr F before (Instr.Unary d op x) = is_scalar_var F d && (is_plain_operand F x && eqb (width x) (bytes d.ty))
is_plain_instr F before (Instr.Binary d op x y) =
    is_scalar_var F d && (is_plain_operand F x && (is_plain_operand F y && (eqb (width x) (width y) && is_plain_binary op d x y)))
is_plain_instr F before (Instr.Cast d x) = is_scalar_var F d && (is_plain_operand F x && is_plain_cast d x)
is_plain_instr F before (Instr.Zero d) = is_entry F d
is_plain_instr F before (Instr.Call d symbol count) = false
is_plain_instr F before (Instr.Label l) = eqb (label_count l before) 0
is_plain_instr F before (Instr.Jump l) = leb 1 (label_count l F.body)
is_plain_instr F before (Instr.JumpIfNot x l) = is_plain_operand F x && (is_bool x && leb 1 (label_count l F.body))
is_plain_instr F before (Instr.Return x) = is_plain_operand F x
is_plain_instr F before Instr.Comment = true

-- ---- faults

-- line k of a list, from 0, behind the lines `before`, the nearest of them first
abbrev pub is_plain_line : Function → List Line → List Line → ℕ → Bool
is_plain_line F before [] k = true
is_plain_line F before (i ∷ is) zero = is_plain_instr F before i.instr
is_plain_line F before (i ∷ is) (suc k) = is_plain_line F (i ∷ before) is k

-- whether a function meets every condition at a number
unfoldable pub is_plain_at : Function → ℕ → Bool
is_plain_at F zero = is_plain_head F
is_plain_at F (suc k) = is_plain_line F [] F.body k

-- a refusal counts as a fault at its place
abbrev pub is_refused_at : {A : Type 0} → Outcome A → ℕ → Bool
is_refused_at (accepted a) k = false
is_refused_at (refused n place) k = eqb place k

-- what follows a layout that is right; refusals 1 to 3 give 0
abbrev pub after_layout : Checked → ℕ → (Unit {0} → Bool) → Bool
after_layout (Ok c) k rest = rest tt
after_layout (Err r) k rest = eqb k 0

-- whether a number is at fault
unfoldable pub is_fault : List ℕ → List ℕ → ℕ → Bool
is_fault tables sheet k =
    after_layout (tables_check tables) k (λ u. after_layout (sheet_check sheet) k (λ v.
    not (is_plain_at (function_of sheet) k) || is_refused_at (generate (tables_of tables) (function_of sheet)) k))

-- no number is at fault
pub record Plain (tables sheet : List ℕ) : Type 0 where
  pub faultless : (k : ℕ) → is_fault tables sheet k ≡ false

-- ---- the first fault

-- the first number at fault from k on, as many numbers as there are lines
unfoldable pub first_among : (ℕ → Bool) → ℕ → List Line → Option ℕ
first_among f k [] = none
first_among f k (i ∷ is) = let later = first_among f (suc k) is in cond (f k) (some k) later

-- what the plain test answers: no number, or the least that is at fault, 0 before every instruction
unfoldable pub first_fault : List ℕ → List ℕ → Option ℕ
first_fault tables sheet =
    let later = first_among (is_fault tables sheet) 1 (function_of sheet).body in
    cond (is_fault tables sheet 0) (some 0) later

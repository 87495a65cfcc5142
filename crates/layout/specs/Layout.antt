-- Believed: refusals 1 to 3 rest on it. The layout of tables and sheet: which cell is the first wrong one, in reading order
-- (docs/FORMAT.md, "Tables", "Sheet", "Edition 2", "Limits", "Refusals"). One check reads both editions of a sheet: they differ in `own_in` and `param_in` alone.
use Rattle.std.specs.Prelude.{ℕ, zero, suc, ◌+◌, ◌*◌, ◌-◌, ◌^◌, ◌≡◌, List, Bool, cond, ◌&&◌, ◌||◌, length, ltb, leb, eqb, Result, Ok, Err}
use Rattle.cells.specs.Cells.{cell_at, largest, read_cell, read_within, bind_cell}
use Rattle.cells.specs.declared.Cursor.{Cursor}
use Rattle.cells.specs.declared.refusals.Refusal.{Refusal}
use Rattle.cells.specs.declared.refusals.Refused.{Refused}
use Rattle.layout.specs.declared.Edition.{Edition}
use Rattle.layout.specs.Limits.{most_strings, most_floats, most_variables, most_parameters, most_labels, most_instructions, most_arguments, most_count}
use Rattle.ir.specs.Types.{no_array, offset_behind}
use Rattle.ir.specs.Function.{params_from}

-- ---- answers

-- the cursor behind a part that is right, or the refusal with its cell
abbrev pub Checked : Type 0
Checked = Result Cursor Refused

-- a number that was read and the cursor behind it, or the refusal with its cell
abbrev pub Limited : Type 0
Limited = Result (ℕ × Cursor) Refused

-- a refusal at cell k
abbrev pub refused_at : Refusal → ℕ → Refused
refused_at r k = record { refusal = r; place = k }

-- the answer that refuses so
abbrev pub refuse : {A : Type 0} → Refusal → ℕ → Result A Refused
refuse r k = Err (refused_at r k)

-- what follows a number and a cursor; a refusal stands
abbrev pub bind_limited : {R : Type 0} → (Refused → R) → Limited → (ℕ → Cursor → R) → R
bind_limited stop (Ok x) rest = rest x.0 x.1
bind_limited stop (Err r) rest = stop r

-- what follows a part that is right; a refusal stands
abbrev pub bind_checked : {R : Type 0} → (Refused → R) → Checked → (Cursor → R) → R
bind_checked stop (Ok c) rest = rest c
bind_checked stop (Err r) rest = stop r

-- the cursor at cell k
abbrev pub cursor : ℕ → Cursor
cursor k = record { at = k }

-- nothing is left behind the cursor, not even a torn cell; else refusal r at the first left cell
unfoldable pub end_check : Refusal → List ℕ → Cursor → Checked
end_check r s c = cond (ltb (c.at * 8) (length s)) (refuse r c.at) (Ok c)

-- ---- tables: a string count, then a cell a float, 1 short or 0 long; refusal 1

-- at most n floats from the cursor on
unfoldable pub floats_check : List ℕ → ℕ → Cursor → Checked
floats_check t zero c = end_check Refusal.BadTable t c
floats_check t (suc n) c =
    cond (ltb (c.at * 8) (length t)) (bind_cell (refuse Refusal.BadTable) (read_within t c 0 1) (λ v next. floats_check t n next)) (Ok c)

unfoldable pub tables_check : List ℕ → Checked
tables_check t = bind_cell (refuse Refusal.BadTable) (read_within t (cursor 0) 0 most_strings) (λ strings next. floats_check t most_floats next)

-- ---- single cells of a sheet

-- a count: negative is off the layout, above its limit oversize
unfoldable pub limited : List ℕ → Cursor → ℕ → Limited
limited s c most =
    bind_cell (refuse Refusal.TornSheet) (read_within s c 0 largest) (λ v next. cond (ltb most v) (refuse Refusal.Oversize c.at) (Ok (v, next)))

-- the count of a type: -1 for no array, or from 0 to its limit
unfoldable pub count_check : List ℕ → Cursor → Checked
count_check s c =
    bind_cell (refuse Refusal.TornSheet) (read_cell s c) (λ count next.
    cond (eqb count no_array) (Ok next)
    (cond (ltb largest count) (refuse Refusal.TornSheet c.at)
    (cond (ltb most_count count) (refuse Refusal.Oversize c.at) (Ok next))))

-- n unused cells
unfoldable pub zeros_check : List ℕ → ℕ → Cursor → Checked
zeros_check s zero c = Ok c
zeros_check s (suc n) c = bind_cell (refuse Refusal.TornSheet) (read_within s c 0 0) (λ v next. zeros_check s n next)

-- three cells, each from 0 to its own bound
unfoldable pub fields_check : List ℕ → Cursor → ℕ → ℕ → ℕ → Checked
fields_check s c x y z =
    bind_cell (refuse Refusal.TornSheet) (read_within s c 0 x) (λ v c1.
    bind_cell (refuse Refusal.TornSheet) (read_within s c1 0 y) (λ v c2.
    bind_cell (refuse Refusal.TornSheet) (read_within s c2 0 z) (λ v c3. Ok c3)))

-- ---- types, variables, operands

-- a type is a code and a count
unfoldable pub type_check : List ℕ → Cursor → Checked
type_check s c = bind_cell (refuse Refusal.TornSheet) (read_within s c 1 12) (λ code next. count_check s next)

-- a return type may be 0, -1 for none
unfoldable pub return_check : List ℕ → Cursor → Checked
return_check s c =
    bind_cell (refuse Refusal.TornSheet) (read_within s c 0 12) (λ code next.
    cond (eqb code 0) (bind_cell (refuse Refusal.TornSheet) (read_within s next no_array no_array) (λ count c2. Ok c2)) (count_check s next))

-- the two cells behind a variable's id: its own type, and 0 in edition 2 (M-109)
abbrev pub own_in : Edition → List ℕ → Cursor → Checked
own_in Edition.First s c = type_check s c
own_in Edition.Second s c = zeros_check s 2 c

-- a variable is an id and its own type
unfoldable pub var_in : Edition → List ℕ → Cursor → Checked
var_in e s c = bind_cell (refuse Refusal.TornSheet) (read_within s c 0 largest) (λ id next. own_in e s next)

-- a parameter is a variable, and in edition 2 its id alone (M-109)
unfoldable pub param_in : Edition → List ℕ → Cursor → Checked
param_in Edition.First s c = var_in Edition.First s c
param_in Edition.Second s c = bind_cell (refuse Refusal.TornSheet) (read_within s c 0 largest) (λ id next. Ok next)

-- how many cells that is
abbrev pub param_width : Edition → ℕ
param_width Edition.First = 3
param_width Edition.Second = 1

-- the bounds of an operand's fields, by its position in Krc's `Operand`: 1 Int has any number and two flags, 2 Float and 5 DataAddress a
-- number, 3 Bool a flag, 6 Null nothing
abbrev pub first_field : ℕ → ℕ
first_field kind = cond (eqb kind 1) (2 ^ 64 - 1) (cond (eqb kind 3) 1 (cond (eqb kind 6) 0 largest))

abbrev pub flag_field : ℕ → ℕ
flag_field kind = cond (eqb kind 1) 1 0

-- 0 Var and 4 Address hold a variable
abbrev pub holds_var : ℕ → Bool
holds_var kind = eqb kind 0 || eqb kind 4

-- an operand is four cells
unfoldable pub operand_in : Edition → List ℕ → Cursor → Checked
operand_in e s c =
    bind_cell (refuse Refusal.TornSheet) (read_within s c 0 6) (λ kind next.
    cond (holds_var kind) (var_in e s next) (fields_check s next (first_field kind) (flag_field kind) (flag_field kind)))

unfoldable pub operands_in : Edition → List ℕ → ℕ → Cursor → Checked
operands_in e s zero c = Ok c
operands_in e s (suc n) c = bind_checked Err (operand_in e s c) (λ next. operands_in e s n next)

-- ---- instructions: position in Krc's `Instr`, operation, dest (3), left (4), right (4); a call's arguments follow
-- 0 Copy, 1 Unary, 2 Binary, 3 Cast, 4 Zero, 5 Call, 6 Label, 7 Jump, 8 JumpIfNot, 9 Return, 10 Comment

-- the largest operation: the position in `UnaryOp` or `BinaryOp`, a call's flag for a dest, a label's number; unused otherwise
abbrev pub operation_most : ℕ → ℕ
operation_most kind =
    cond (eqb kind 1) 2 (cond (eqb kind 2) 17 (cond (eqb kind 5) 1 (cond (leb 6 kind && leb kind 8) largest 0)))

-- the first five kinds have a dest, and a call whose operation is 1
abbrev pub has_dest : ℕ → ℕ → Bool
has_dest kind operation = ltb kind 5 || (eqb kind 5 && eqb operation 1)

-- one-operand kinds use left, and a Binary
abbrev pub has_left : ℕ → Bool
has_left kind = ltb kind 4 || (eqb kind 8 || eqb kind 9)

unfoldable pub dest_in : Edition → List ℕ → Bool → Cursor → Checked
dest_in e s has c = cond has (var_in e s c) (zeros_check s 3 c)

unfoldable pub side_in : Edition → List ℕ → Bool → Cursor → Checked
side_in e s has c = cond has (operand_in e s c) (zeros_check s 4 c)

-- a call has symbol number and argument count in left's first two cells; the count, and the cursor of the first argument
unfoldable pub call_check : List ℕ → Cursor → Limited
call_check s c =
    bind_cell (refuse Refusal.TornSheet) (read_within s c 0 largest) (λ symbol c1.
    bind_limited Err (limited s c1 most_arguments) (λ count c2.
    bind_checked Err (zeros_check s 6 c2) (λ c3. Ok (count, c3))))

-- a call's own cells and its arguments; left and right of any other kind
unfoldable pub body_in : Edition → List ℕ → ℕ → Cursor → Checked
body_in e s kind c =
    cond (eqb kind 5) (bind_limited Err (call_check s c) (λ count c1. operands_in e s count c1))
    (bind_checked Err (side_in e s (has_left kind) c) (λ c1. side_in e s (eqb kind 2) c1))

unfoldable pub instr_in : Edition → List ℕ → Cursor → Checked
instr_in e s c =
    bind_cell (refuse Refusal.TornSheet) (read_within s c 0 10) (λ kind c1.
    bind_cell (refuse Refusal.TornSheet) (read_within s c1 0 (operation_most kind)) (λ operation c2.
    bind_checked Err (dest_in e s (has_dest kind operation) c2) (λ c3. body_in e s kind c3)))

-- ---- the lists

-- n variable types; `end` is the last offset before them, and the count cell of the variable whose offset first passes the limit is refused (M-110)
unfoldable pub types_check : List ℕ → ℕ → ℕ → Cursor → Checked
types_check s zero end c = Ok c
types_check s (suc n) end c =
    bind_checked Err (type_check s c) (λ next.
    let offset : ℕ = offset_behind end (record { code = cell_at s c.at; count = cell_at s (c.at + 1) }) in
    cond (ltb most_count offset) (refuse Refusal.Oversize (c.at + 1)) (types_check s n offset next))

unfoldable pub params_in : Edition → List ℕ → ℕ → Cursor → Checked
params_in e s zero c = Ok c
params_in e s (suc n) c = bind_checked Err (param_in e s c) (λ next. params_in e s n next)

unfoldable pub instrs_in : Edition → List ℕ → ℕ → Cursor → Checked
instrs_in e s zero c = Ok c
instrs_in e s (suc n) c = bind_checked Err (instr_in e s c) (λ next. instrs_in e s n next)

-- ---- the sheet: variable count, parameter count, label count, return type, instruction count; then variable types, parameters, instructions

-- the cell of the first instruction, which of edition 1 is ir's `body_from`
abbrev pub body_start : Edition → List ℕ → ℕ
body_start e s = params_from s + param_width e * cell_at s 1

-- the head from the return type on, of so many variables and parameters; the number of instructions, and the cursor of the first
unfoldable pub rest_in : Edition → List ℕ → ℕ → ℕ → Cursor → Limited
rest_in e s vars params c =
    bind_checked Err (return_check s c) (λ c1.
    bind_limited Err (limited s c1 most_instructions) (λ instrs c2.
    bind_checked Err (types_check s vars 0 c2) (λ c3.
    bind_checked Err (params_in e s params c3) (λ c4. Ok (instrs, c4)))))

-- the head, which is all before the instructions
unfoldable pub head_in : Edition → List ℕ → Limited
head_in e s =
    bind_limited Err (limited s (cursor 0) most_variables) (λ vars c1.
    bind_limited Err (limited s c1 most_parameters) (λ params c2.
    bind_limited Err (limited s c2 most_labels) (λ labels c3. rest_in e s vars params c3)))

unfoldable pub sheet_in : Edition → List ℕ → Checked
sheet_in e s =
    bind_limited Err (head_in e s) (λ instrs c.
    bind_checked Err (instrs_in e s instrs c) (λ end. end_check Refusal.TornSheet s end))

-- the layout of a sheet is right
pub record LaidIn (e : Edition) (s : List ℕ) : Type 0 where
  pub end : Cursor
  pub is : sheet_in e s ≡ Ok end

-- ---- edition 1, which the lowering reads

abbrev pub instr_check : List ℕ → Cursor → Checked
instr_check = instr_in Edition.First

abbrev pub instrs_check : List ℕ → ℕ → Cursor → Checked
instrs_check = instrs_in Edition.First

abbrev pub head_check : List ℕ → Limited
head_check = head_in Edition.First

abbrev pub sheet_check : List ℕ → Checked
sheet_check = sheet_in Edition.First

abbrev pub Laid : List ℕ → Type 0
Laid = LaidIn Edition.First

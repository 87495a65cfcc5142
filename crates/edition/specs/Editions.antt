-- Believed: edition 2 of a sheet and the conversion both ways (docs/FORMAT.md, "Edition 2"; M-109). The layout of either edition, refusals 2 and 3, is
-- `sheet_in` of layout/specs/Layout.antt.
use Rattle.std.specs.Prelude.{ℕ, zero, suc, ◌+◌, ◌*◌, List, [], ◌∷◌, ◌++◌, Bool, true, cond, ◌&&◌, length, drop, ltb, eqb, Option, Some, None}
use Rattle.cells.specs.Cells.{cell_at, cells_from, cell_bytes}
use Rattle.cells.specs.Outcomes.{Outcome, accepted, refused, ◌>>=◌, outcome}
use Rattle.cells.specs.Refusals.{page_full, type_differs}
use Rattle.ir.specs.Function.{arguments_at, behind, params_from}
use Rattle.layout.specs.declared.Edition.{Edition}
use Rattle.layout.specs.Layout.{sheet_in, param_width, body_start, holds_var, has_dest, has_left}

-- the edition that a sheet is converted into
abbrev pub other : Edition → Edition
other Edition.First = Edition.Second
other Edition.Second = Edition.First

-- ---- the ids of a sheet, each by the number of its cell, in reading order; a dest or operand that is not used holds none

-- a cell that may hold an id
abbrev pub id_if : Bool → ℕ → List ℕ
id_if has k = cond has (k ∷ []) []

-- Var and Address hold one behind their kind
abbrev pub operand_id : List ℕ → ℕ → List ℕ
operand_id s k = id_if (holds_var (cell_at s k)) (k + 1)

-- left or right, where an instruction has it
abbrev pub side_id : List ℕ → Bool → ℕ → List ℕ
side_id s has k = cond has (operand_id s k) []

-- n arguments of a call
unfoldable pub operand_ids : List ℕ → ℕ → ℕ → List ℕ
operand_ids s zero k = []
operand_ids s (suc n) k = operand_id s k ++ operand_ids s n (k + 4)

-- dest, left, right, and a call's arguments
unfoldable pub instr_ids : List ℕ → ℕ → List ℕ
instr_ids s k =
    id_if (has_dest (cell_at s k) (cell_at s (k + 1))) (k + 2)
    ++ (side_id s (has_left (cell_at s k)) (k + 5) ++ (side_id s (eqb (cell_at s k) 2) (k + 9) ++ operand_ids s (arguments_at s k) (k + 13)))

-- n instructions from cell k on
unfoldable pub instrs_ids : List ℕ → ℕ → ℕ → List ℕ
instrs_ids s zero k = []
instrs_ids s (suc n) k = instr_ids s k ++ instrs_ids s n (behind s k)

-- n parameters, each of which starts with its id
unfoldable pub param_ids : Edition → List ℕ → ℕ → ℕ → List ℕ
param_ids e s zero k = []
param_ids e s (suc n) k = k ∷ param_ids e s n (k + param_width e)

-- parameters come before instructions
unfoldable pub ids : Edition → List ℕ → List ℕ
ids e s = param_ids e s (cell_at s 1) (params_from s) ++ instrs_ids s (cell_at s 5) (body_start e s)

-- ---- refusal 17: an id whose own type is not its entry's, or that has no entry

-- the cell where an id's entry starts
abbrev pub entry_at : ℕ → ℕ
entry_at id = 6 + 2 * id

-- the own type of the id in cell k is its entry's, code and count; edition 2 has no own types
abbrev pub own_agrees : Edition → List ℕ → ℕ → Bool
own_agrees Edition.First s k =
    eqb (cell_at s (k + 1)) (cell_at s (entry_at (cell_at s k))) && eqb (cell_at s (k + 2)) (cell_at s (entry_at (cell_at s k) + 1))
own_agrees Edition.Second s k = true

-- it has an entry, and its own type is that one's
unfoldable pub agrees : Edition → List ℕ → ℕ → Bool
agrees e s k = ltb (cell_at s k) (cell_at s 0) && own_agrees e s k

-- the first of these ids that does not agree with its entry
unfoldable pub stray_in : Edition → List ℕ → List ℕ → Option ℕ
stray_in e s [] = None
stray_in e s (k ∷ ks) = cond (agrees e s k) (stray_in e s ks) (Some k)

-- ---- the cells of a sheet s in edition f

-- the own type of an id: its entry's in edition 1, two zeros in edition 2
abbrev pub own_cells : Edition → List ℕ → ℕ → List ℕ
own_cells Edition.First s id = cell_at s (entry_at id) ∷ cell_at s (entry_at id + 1) ∷ []
own_cells Edition.Second s id = 0 ∷ 0 ∷ []

-- the variable whose id is in cell k
unfoldable pub var_cells : Edition → List ℕ → ℕ → List ℕ
var_cells f s k = cell_at s k ∷ own_cells f s (cell_at s k)

-- a parameter is a variable, in edition 2 its id alone
unfoldable pub param_cells : Edition → List ℕ → ℕ → List ℕ
param_cells Edition.First s k = var_cells Edition.First s k
param_cells Edition.Second s k = cell_at s k ∷ []

-- an operand is its kind and a variable, or its four cells as they are
unfoldable pub operand_cells : Edition → List ℕ → ℕ → List ℕ
operand_cells f s k = cell_at s k ∷ cond (holds_var (cell_at s k)) (var_cells f s (k + 1)) (cells_from s (k + 1) 3)

-- a dest is a variable, or three cells that are not used
abbrev pub dest_cells : Edition → List ℕ → Bool → ℕ → List ℕ
dest_cells f s has k = cond has (var_cells f s k) (cells_from s k 3)

-- left or right is an operand, or four cells that are not used or a call's own
abbrev pub side_cells : Edition → List ℕ → Bool → ℕ → List ℕ
side_cells f s has k = cond has (operand_cells f s k) (cells_from s k 4)

-- n arguments of a call
unfoldable pub operands_cells : Edition → List ℕ → ℕ → ℕ → List ℕ
operands_cells f s zero k = []
operands_cells f s (suc n) k = operand_cells f s k ++ operands_cells f s n (k + 4)

-- kind and operation, dest, left, right, and a call's arguments
unfoldable pub instr_cells : Edition → List ℕ → ℕ → List ℕ
instr_cells f s k =
    cells_from s k 2
    ++ (dest_cells f s (has_dest (cell_at s k) (cell_at s (k + 1))) (k + 2)
    ++ (side_cells f s (has_left (cell_at s k)) (k + 5) ++ (side_cells f s (eqb (cell_at s k) 2) (k + 9) ++ operands_cells f s (arguments_at s k) (k + 13))))

-- n instructions from cell k on
unfoldable pub instrs_cells : Edition → List ℕ → ℕ → ℕ → List ℕ
instrs_cells f s zero k = []
instrs_cells f s (suc n) k = instr_cells f s k ++ instrs_cells f s n (behind s k)

-- n parameters of edition e from cell k on
unfoldable pub params_cells : Edition → Edition → List ℕ → ℕ → ℕ → List ℕ
params_cells e f s zero k = []
params_cells e f s (suc n) k = param_cells f s k ++ params_cells e f s n (k + param_width e)

-- a sheet of edition e: head and variable types as they are, then parameters and instructions
unfoldable pub sheet_cells : Edition → Edition → List ℕ → List ℕ
sheet_cells e f s =
    cells_from s 0 (params_from s)
    ++ (params_cells e f s (cell_at s 1) (params_from s) ++ instrs_cells f s (cell_at s 5) (body_start e s))

-- ---- the answer, for a sheet of edition e and the length of the output in bytes

-- page full: refusal 9 with the cells needed, where the output has fewer
abbrev pub fitted : ℕ → List ℕ → Outcome (List ℕ)
fitted room xs = cond (ltb room (8 * length xs)) (refused page_full (length xs)) (accepted xs)

-- refused by this number at the place that was found, if one was
abbrev pub unless : ℕ → Option ℕ → Outcome (Unit {0})
unless n None = accepted tt
unless n (Some place) = refused n place

-- refusals 2 and 3, then 17, then 9; else the cells of the other edition
unfoldable pub converted : Edition → List ℕ → ℕ → Outcome (List ℕ)
converted e s room =
    outcome (sheet_in e s) >>= (λ end. unless type_differs (stray_in e s (ids e s)) >>= (λ u. fitted room (sheet_cells e (other e) s)))

-- the output afterwards: the result at its start and its old content behind it, or its old content
unfoldable pub output_after : Outcome (List ℕ) → List ℕ → List ℕ
output_after (accepted xs) old = cell_bytes xs ++ drop (8 * length xs) old
output_after (refused n place) old = old

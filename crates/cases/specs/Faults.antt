-- Believed: cases of the plain test (docs/FORMAT.md, "Plain functions"): sheets by their cells, each with the number of its first fault, or none.
-- No other claim rests on it.
use Rattle.std.specs.Prelude.{ℕ, ◌≡◌, List, [], ◌∷◌, ◌++◌, map, length}
use Rattle.std.proofs.Math.Option.{Option, none, some}
use Rattle.cells.specs.Cells.{minus}
use Rattle.machine.specs.Plain.{first_fault}
use Rattle.cases.specs.Cases.{from_cells, long, bool, long_array, var, int, nothing, instr, no_dest, empty}

-- ---- sheets

abbrev pub joined : List (List ℕ) → List ℕ
joined [] = []
joined (x ∷ xs) = x ++ joined xs

-- so many labels, a return type, variable types, parameters and instructions
abbrev pub sheet_of : ℕ → List ℕ → List (List ℕ) → List (List ℕ) → List (List ℕ) → List ℕ
sheet_of labels ret vars params instrs =
    from_cells (length vars ∷ length params ∷ labels ∷ ret ++ length instrs ∷ joined vars ++ joined params ++ joined instrs)

-- no parameters, and no return type
abbrev pub body_of : ℕ → List (List ℕ) → List (List ℕ) → List ℕ
body_of labels vars instrs = sheet_of labels (0 ∷ minus 1 ∷ []) vars [] instrs

-- a type that is no array, by its code: 5 a float, 9 Byte, 10 Address, 11 Custom, 12 Null
abbrev pub scalar : ℕ → List ℕ
scalar code = code ∷ minus 1 ∷ []

abbrev pub bool_array : ℕ → List ℕ
bool_array n = 7 ∷ n ∷ []

abbrev pub null : List ℕ
null = 6 ∷ 0 ∷ 0 ∷ 0 ∷ []

abbrev pub copy : ℕ → List ℕ → List ℕ → List ℕ
copy id ty src = instr 0 0 (id ∷ ty) src nothing

abbrev pub divide : ℕ → List ℕ → List ℕ → List ℕ → List ℕ
divide id ty left right = instr 2 16 (id ∷ ty) left right

abbrev pub zero : ℕ → List ℕ → List ℕ
zero id ty = instr 4 0 (id ∷ ty) nothing nothing

abbrev pub label : ℕ → List ℕ
label l = instr 6 l no_dest nothing nothing

abbrev pub jump : ℕ → List ℕ
jump l = instr 7 l no_dest nothing nothing

abbrev pub jump_if_not : List ℕ → ℕ → List ℕ
jump_if_not condition l = instr 8 l no_dest condition nothing

abbrev pub return : List ℕ → List ℕ
return x = instr 9 0 no_dest x nothing

abbrev pub comment : List ℕ
comment = instr 10 0 no_dest nothing nothing

-- a short constant into a long: no width that agrees
abbrev pub narrow : List ℕ
narrow = copy 0 long (int 1 1)

-- ---- the table

pub record FaultCase : Type 0 where
  pub given : List ℕ
  pub expected : Option ℕ

abbrev pub gives : List ℕ → Option ℕ → FaultCase
gives s k = record { given = s; expected = k }

abbrev pub fault_cases : List FaultCase
fault_cases =
    -- Null as the return type is plain, and Custom is not
    gives (sheet_of 0 (scalar 12) [] [] (return null ∷ [])) none
    ∷ gives (sheet_of 0 (scalar 11) [] [] (return null ∷ [])) (some 0)
    -- a variable of type Address is eight bytes wide
    ∷ gives (body_of 0 (scalar 10 ∷ []) (copy 0 (scalar 10) null ∷ [])) none
    -- an array stands under Zero, and under nothing else
    ∷ gives (body_of 0 (long_array 3 ∷ []) (zero 0 (long_array 3) ∷ [])) none
    ∷ gives (body_of 0 (long_array 3 ∷ []) (return (var 0 (long_array 3)) ∷ [])) (some 1)
    -- a float among the variables, though no instruction names it
    ∷ gives (body_of 0 (scalar 5 ∷ []) []) (some 0)
    -- seven parameters (M-112)
    ∷ gives
    (sheet_of 0 (0 ∷ minus 1 ∷ []) (long ∷ long ∷ long ∷ long ∷ long ∷ long ∷ long ∷ [])
    ((0 ∷ long) ∷ (1 ∷ long) ∷ (2 ∷ long) ∷ (3 ∷ long) ∷ (4 ∷ long) ∷ (5 ∷ long) ∷ (6 ∷ long) ∷ []) [])
    none
    -- a parameter twice
    ∷ gives (sheet_of 0 (0 ∷ minus 1 ∷ []) (long ∷ []) ((0 ∷ long) ∷ (0 ∷ long) ∷ []) []) (some 0)
    -- a signed Div (M-106)
    ∷ gives (body_of 0 (long ∷ []) (divide 0 long (var 0 long) (int 2 0) ∷ [])) none
    -- a label placed twice is charged to its second place, and a jump to one that is not placed to the jump (M-104)
    ∷ gives (body_of 1 [] (jump 0 ∷ label 0 ∷ label 0 ∷ [])) (some 3)
    ∷ gives (body_of 2 [] (label 0 ∷ jump 1 ∷ [])) (some 2)
    -- refusal 5, of a label beyond the count, before a broken condition and behind one (M-104)
    ∷ gives (body_of 0 (long ∷ []) (comment ∷ label 0 ∷ narrow ∷ [])) (some 2)
    ∷ gives (body_of 0 (long ∷ []) (comment ∷ narrow ∷ label 0 ∷ [])) (some 2)
    -- a condition is a Bool: no Byte, and no array of Bools
    ∷ gives (body_of 1 (bool ∷ []) (jump_if_not (var 0 bool) 0 ∷ label 0 ∷ [])) none
    ∷ gives (body_of 1 (scalar 9 ∷ []) (jump_if_not (var 0 (scalar 9)) 0 ∷ label 0 ∷ [])) (some 1)
    ∷ gives (body_of 1 (bool_array 4 ∷ []) (jump_if_not (var 0 (bool_array 4)) 0 ∷ label 0 ∷ [])) (some 1)
    -- a sheet of one cell is torn
    ∷ gives (from_cells (0 ∷ [])) (some 0) ∷ []

-- with the tables `0` the first fault is the number beside the sheet, in every case
abbrev pub FaultsHold : Type 0
FaultsHold = map (λ (c : FaultCase). first_fault empty c.given) fault_cases ≡ map (λ (c : FaultCase). c.expected) fault_cases

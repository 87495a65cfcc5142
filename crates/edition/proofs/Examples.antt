-- The definitions on small sheets, evaluated.
use Prim.Native.Nat.{ℕ}
use mathlib.Core.Path.{◌≡◌, refl}
use mathlib.Core.List.{List, [], ◌∷◌, ◌++◌}
use Rattle.cells.specs.Cells.{half, word, read_cell, read_within, bytes_of, minus, cells_from, cell_bytes}
use Rattle.ir.specs.Types.{bytes, element_width, offset_behind}
use Rattle.ir.specs.Function.{arguments_at, behind}
use Rattle.layout.specs.declared.Edition.{Edition}
use Rattle.layout.specs.Layout.{end_check, limited, count_check, zeros_check, fields_check, type_check, return_check, var_in, param_in, operand_in, operands_in, dest_in, side_in, call_check, body_in, instr_in, types_check, params_in, instrs_in, rest_in, head_in, sheet_in}
use Rattle.cells.specs.Outcomes.{Outcome, accepted, refused}
use Rattle.edition.specs.Editions.{operand_ids, instr_ids, instrs_ids, param_ids, ids, agrees, var_cells, param_cells, operand_cells, operands_cells, instr_cells, instrs_cells, params_cells, sheet_cells, stray_in, converted}

-- what the examples compute with: to unfold this is to unfold all of it
opened : Type 0
unfolding bytes element_width offset_behind half word read_cell read_within bytes_of arguments_at behind end_check limited count_check zeros_check fields_check type_check return_check var_in param_in operand_in operands_in dest_in side_in call_check body_in instr_in types_check params_in instrs_in rest_in head_in sheet_in operand_ids instr_ids instrs_ids param_ids ids agrees cells_from var_cells param_cells operand_cells operands_cells instr_cells instrs_cells params_cells sheet_cells stray_in converted cell_bytes
opened = Unit {0}

-- what the conversion of cells of an edition says, with an output of so many bytes
abbrev first : List ℕ → ℕ → Outcome (List ℕ)
first xs room = converted Edition.First (cell_bytes xs) room

abbrev second : List ℕ → ℕ → Outcome (List ℕ)
second xs room = converted Edition.Second (cell_bytes xs) room

-- ---- the listing example: a short parameter, which is returned

abbrev listing1 : List ℕ
listing1 = 1 ∷ 1 ∷ 0 ∷ 3 ∷ minus 1 ∷ 1 ∷ 3 ∷ minus 1 ∷ 0 ∷ 3 ∷ minus 1 ∷ 9 ∷ 0 ∷ 0 ∷ 0 ∷ 0 ∷ 0 ∷ 0 ∷ 3 ∷ minus 1 ∷ 0 ∷ 0 ∷ 0 ∷ 0 ∷ []

abbrev listing2 : List ℕ
listing2 = 1 ∷ 1 ∷ 0 ∷ 3 ∷ minus 1 ∷ 1 ∷ 3 ∷ minus 1 ∷ 0 ∷ 9 ∷ 0 ∷ 0 ∷ 0 ∷ 0 ∷ 0 ∷ 0 ∷ 0 ∷ 0 ∷ 0 ∷ 0 ∷ 0 ∷ 0 ∷ []

-- with just enough room, 22 cells and 24
listing_out : first listing1 176 ≡ accepted listing2
unfolding opened
listing_out = refl

listing_back : second listing2 192 ≡ accepted listing1
unfolding opened
listing_back = refl

-- one byte less is refused with the cells needed
listing_short : first listing1 175 ≡ refused 9 22
unfolding opened
listing_short = refl

listing_short_back : second listing2 191 ≡ refused 9 24
unfolding opened
listing_short_back = refl

-- edition 1 is no edition 2: behind the id of the parameter comes an instruction of kind 3, whose operation must be 0
listing_mixed : second listing1 1000 ≡ refused 2 10
unfolding opened
listing_mixed = refl

-- ---- calls: variable 0 is a long, variable 1 an array of seven bytes, and there is no parameter

-- a call with dest, and the arguments Var 0, Address 1, Int, Float; one without dest; a Zero of the array
abbrev head : List ℕ
head = 2 ∷ 0 ∷ 0 ∷ 0 ∷ minus 1 ∷ 3 ∷ 1 ∷ minus 1 ∷ 9 ∷ 7 ∷ []

abbrev calls1 : List ℕ
calls1 =
    head
    ++ (5 ∷ 1 ∷ 0 ∷ 1 ∷ minus 1 ∷ 77 ∷ 4 ∷ 0 ∷ 0 ∷ 0 ∷ 0 ∷ 0 ∷ 0 ∷ 0 ∷ 0 ∷ 1 ∷ minus 1 ∷ 4 ∷ 1 ∷ 9 ∷ 7 ∷ 1 ∷ minus 5 ∷ 1 ∷ 0 ∷ 2 ∷ 9 ∷ 0 ∷ 0 ∷ [])
    ++ (5 ∷ 0 ∷ 0 ∷ 0 ∷ 0 ∷ 0 ∷ 1 ∷ 0 ∷ 0 ∷ 0 ∷ 0 ∷ 0 ∷ 0 ∷ 0 ∷ 1 ∷ 9 ∷ 7 ∷ [])
    ++ (4 ∷ 0 ∷ 1 ∷ 9 ∷ 7 ∷ 0 ∷ 0 ∷ 0 ∷ 0 ∷ 0 ∷ 0 ∷ 0 ∷ 0 ∷ [])

abbrev calls2 : List ℕ
calls2 =
    head
    ++ (5 ∷ 1 ∷ 0 ∷ 0 ∷ 0 ∷ 77 ∷ 4 ∷ 0 ∷ 0 ∷ 0 ∷ 0 ∷ 0 ∷ 0 ∷ 0 ∷ 0 ∷ 0 ∷ 0 ∷ 4 ∷ 1 ∷ 0 ∷ 0 ∷ 1 ∷ minus 5 ∷ 1 ∷ 0 ∷ 2 ∷ 9 ∷ 0 ∷ 0 ∷ [])
    ++ (5 ∷ 0 ∷ 0 ∷ 0 ∷ 0 ∷ 0 ∷ 1 ∷ 0 ∷ 0 ∷ 0 ∷ 0 ∷ 0 ∷ 0 ∷ 0 ∷ 1 ∷ 0 ∷ 0 ∷ [])
    ++ (4 ∷ 0 ∷ 1 ∷ 0 ∷ 0 ∷ 0 ∷ 0 ∷ 0 ∷ 0 ∷ 0 ∷ 0 ∷ 0 ∷ 0 ∷ [])

calls_out : first calls1 1000 ≡ accepted calls2
unfolding opened
calls_out = refl

calls_back : second calls2 1000 ≡ accepted calls1
unfolding opened
calls_back = refl

-- ---- refusal 17

-- the parameter is said to be a long, and its entry is a short; the id is in cell 8
differs : first (1 ∷ 1 ∷ 0 ∷ 3 ∷ minus 1 ∷ 0 ∷ 3 ∷ minus 1 ∷ 0 ∷ 1 ∷ minus 1 ∷ []) 1000 ≡ refused 17 8
unfolding opened
differs = refl

-- it comes before 9, and behind a cell that is left
differs_short : first (1 ∷ 1 ∷ 0 ∷ 3 ∷ minus 1 ∷ 0 ∷ 3 ∷ minus 1 ∷ 0 ∷ 1 ∷ minus 1 ∷ []) 0 ≡ refused 17 8
unfolding opened
differs_short = refl

differs_left : first (1 ∷ 1 ∷ 0 ∷ 3 ∷ minus 1 ∷ 0 ∷ 3 ∷ minus 1 ∷ 0 ∷ 1 ∷ minus 1 ∷ 0 ∷ []) 1000 ≡ refused 2 11
unfolding opened
differs_left = refl

-- only the count differs, as the second argument of a call: its id is in cell 6 + 2 + 13 + 4 + 1
differs_count : first (1 ∷ 0 ∷ 0 ∷ 0 ∷ minus 1 ∷ 1 ∷ 9 ∷ 7 ∷ 5 ∷ 0 ∷ 0 ∷ 0 ∷ 0 ∷ 0 ∷ 2 ∷ 0 ∷ 0 ∷ 0 ∷ 0 ∷ 0 ∷ 0 ∷ 0 ∷ 0 ∷ 9 ∷ 7 ∷ 4 ∷ 0 ∷ 9 ∷ 8 ∷ []) 1000 ≡ refused 17 26
unfolding opened
differs_count = refl

-- an id with no entry, in either edition
no_entry_lem : first (1 ∷ 1 ∷ 0 ∷ 3 ∷ minus 1 ∷ 0 ∷ 3 ∷ minus 1 ∷ 1 ∷ 3 ∷ minus 1 ∷ []) 1000 ≡ refused 17 8
unfolding opened
no_entry_lem = refl

no_entry_back : second (1 ∷ 2 ∷ 0 ∷ 3 ∷ minus 1 ∷ 0 ∷ 3 ∷ minus 1 ∷ 0 ∷ 1 ∷ []) 1000 ≡ refused 17 9
unfolding opened
no_entry_back = refl

-- ---- refusals 2 and 3 of edition 2

-- a type cell that is 1, under a Zero
type_put : second (1 ∷ 0 ∷ 0 ∷ 0 ∷ minus 1 ∷ 1 ∷ 1 ∷ minus 1 ∷ 4 ∷ 0 ∷ 0 ∷ 1 ∷ minus 1 ∷ 0 ∷ 0 ∷ 0 ∷ 0 ∷ 0 ∷ 0 ∷ 0 ∷ 0 ∷ []) 1000 ≡ refused 2 11
unfolding opened
type_put = refl

-- the last offset passes its limit (M-110), in the cells of the second type
too_large : second (2 ∷ 0 ∷ 0 ∷ 0 ∷ minus 1 ∷ 0 ∷ 9 ∷ 1048576 ∷ 1 ∷ minus 1 ∷ []) 1000 ≡ refused 3 9
unfolding opened
too_large = refl

-- ---- unused dests are no ids, and what does not lower converts: no variables, a Jump and a Return of a float that is in no table

abbrev strays : List ℕ
strays = 0 ∷ 0 ∷ 0 ∷ 12 ∷ minus 1 ∷ 2 ∷ 7 ∷ 9 ∷ 0 ∷ 0 ∷ 0 ∷ 0 ∷ 0 ∷ 0 ∷ 0 ∷ 0 ∷ 0 ∷ 0 ∷ 0 ∷ 9 ∷ 0 ∷ 0 ∷ 0 ∷ 0 ∷ 2 ∷ 99 ∷ 0 ∷ 0 ∷ 0 ∷ 0 ∷ 0 ∷ 0 ∷ []

strays_out : first strays 256 ≡ accepted strays
unfolding opened
strays_out = refl

strays_back : second strays 256 ≡ accepted strays
unfolding opened
strays_back = refl

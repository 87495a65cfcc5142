-- Believed: the numbers of the refusals (docs/FORMAT.md, "Refusals"). 8, registers spent, is never answered: what is beyond the registers goes to the stack.
use Rattle.std.specs.Prelude.{ℕ}
use Rattle.cells.specs.declared.refusals.Refusal.{Refusal}

abbrev pub bad_table : ℕ
bad_table = 1

abbrev pub torn_sheet : ℕ
torn_sheet = 2

abbrev pub oversize : ℕ
oversize = 3

abbrev pub no_width : ℕ
no_width = 4

abbrev pub no_entry : ℕ
no_entry = 5

abbrev pub odd_width : ℕ
odd_width = 6

abbrev pub no_lowering : ℕ
no_lowering = 7

abbrev pub registers_spent : ℕ
registers_spent = 8

abbrev pub page_full : ℕ
page_full = 9

abbrev pub bad_pack : ℕ
bad_pack = 13

abbrev pub type_differs : ℕ
type_differs = 17

-- the number of a refusal that the code names
abbrev pub number_of_refusal : Refusal → ℕ
number_of_refusal Refusal.BadTable = bad_table
number_of_refusal Refusal.TornSheet = torn_sheet
number_of_refusal Refusal.Oversize = oversize
number_of_refusal Refusal.NoWidth = no_width
number_of_refusal Refusal.NoEntry = no_entry
number_of_refusal Refusal.OddWidth = odd_width
number_of_refusal Refusal.NoLowering = no_lowering
number_of_refusal Refusal.PageFull = page_full
number_of_refusal Refusal.BadPack = bad_pack
number_of_refusal Refusal.TypeDiffers = type_differs

-- Believed: the numbers that the C engine gets (docs/FORMAT.md, "Refusals": a refusal returns number and place, an accepted call the record count;
-- "Also added: the plain test").
use Rattle.std.specs.Prelude.{ℕ, ◌≤◌, ◌≡◌, ◌⊎◌}
use mathlib.Core.List.{[], ◌∷◌, Memᴰ}
use Rattle.std.proofs.Math.Option.{Option, none, some}
use Rattle.cells.specs.Refusals.{torn_sheet, oversize, no_entry, registers_spent, page_full, bad_pack, type_differs}

-- what it can be of the lowering: 0 to page full, but for registers spent, which is never answered (docs/FORMAT.md, "Refusals")
abbrev pub IsNumber : ℕ → Type 0
IsNumber n = (n ≤ page_full) × (n ≡ registers_spent → ⊥)

-- what the number of a look-up in a pack can be (docs/FORMAT.md, "Packs")
abbrev pub IsLookUpNumber : ℕ → Type 0
IsLookUpNumber n = (n ≡ 0) ⊎ ((n ≡ no_entry) ⊎ (n ≡ bad_pack))

-- and that of a lowering in a pack: one of the lowering's, or bad pack
abbrev pub IsPackNumber : ℕ → Type 0
IsPackNumber n = IsNumber n ⊎ (n ≡ bad_pack)

-- and that of a pack's totals
abbrev pub IsTotalsNumber : ℕ → Type 0
IsTotalsNumber n = (n ≡ 0) ⊎ (n ≡ bad_pack)

-- what it can be of a conversion between editions: 0, or one of four refusals (docs/FORMAT.md, "Edition 2")
abbrev pub IsConversion : ℕ → Type 0
IsConversion n = Memᴰ n (0 ∷ torn_sheet ∷ oversize ∷ page_full ∷ type_differs ∷ [])

-- of the plain test: 1 for yes, 0 for no
abbrev pub yes_of : Option ℕ → ℕ
yes_of none = 1
yes_of (some k) = 0

-- the first number at fault, and 0 behind a yes
abbrev pub fault_of : Option ℕ → ℕ
fault_of none = 0
fault_of (some k) = k

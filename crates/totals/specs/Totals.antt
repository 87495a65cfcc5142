-- Believed: the totals of a pack (docs/FORMAT.md, "Packs"): the records of its sheets that lower, and the number of those that are refused, by 1 to 7. Bad tables
-- refuse every sheet, and are no refusal of the whole; a bad pack is.
use Rattle.std.specs.Prelude.{ℕ, ◌+◌, ◌≡◌, List, [], ◌∷◌, reverse, length}
use Rattle.std.specs.Prelude.{Err}
use Rattle.cells.specs.declared.refusals.Refused.{Refused}
use Rattle.layout.specs.Layout.{tables_check}
use Rattle.x86.specs.declared.enums.Instruction.{Instruction}
use Rattle.codegen.specs.Generation.{Outcome, accepted, refused, compiled}
use Rattle.pack.specs.Pack.{sheet_count, sheets_of, packed}
use Rattle.totals.specs.declared.Totals.{Totals}

abbrev pub totals : ℕ → ℕ → Totals
totals n m = record { records = n; refused = m }

-- the totals with one sheet more: one that lowers adds its records, one that is refused adds none
abbrev pub with_sheet : Totals → Outcome (List Instruction) → Totals
with_sheet t (accepted is) = totals (t.records + length is) t.refused
with_sheet t (refused n place) = totals t.records (t.refused + 1)

-- the totals behind sheets that are taken one after the other
unfoldable pub taken : List ℕ → Totals → List (List ℕ) → Totals
taken tables t [] = t
taken tables t (s ∷ ss) = taken tables (with_sheet t (compiled tables s)) ss

-- the totals of a pack, its sheets taken from the first to the last; 13 refuses the whole
unfoldable pub pack_totals : List ℕ → List ℕ → Outcome Totals
pack_totals tables p = packed p (accepted (taken tables (totals 0 0) (sheets_of p)))

-- the number of records, and of sheets that are refused; none of a bad pack is counted
abbrev pub records_of : Outcome Totals → ℕ
records_of (accepted t) = t.records
records_of (refused n place) = 0

abbrev pub refused_of : Outcome Totals → ℕ
refused_of (accepted t) = t.refused
refused_of (refused n place) = 0

-- ---- what is said of them, as claims; they are proved in proofs/Orders (`newest_first`, `bad_tables`)

-- "The two totals equal those taken from the first to the last": from the last sheet to the first they are the same
abbrev pub NewestFirst : Type 0
NewestFirst = (tables p : List ℕ) → packed p (accepted (taken tables (totals 0 0) (reverse (sheets_of p)))) ≡ pack_totals tables p

-- "bad tables refuse every sheet"
abbrev pub BadTables : Type 0
BadTables = (tables p : List ℕ) (r : Refused) → tables_check tables ≡ Err r → pack_totals tables p ≡ packed p (accepted (totals 0 (sheet_count p)))

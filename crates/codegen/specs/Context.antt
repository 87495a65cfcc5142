-- Believed: what operands are looked up in: Krc's `Context` (codegen/generation.rs), but for the number of labels and the return type, which stand beside it.
use Rattle.std.specs.Prelude.{ℕ, List, Bool, cond, length, get_or, ltb}
use Rattle.cells.specs.Cells.{minus}
use Rattle.cells.specs.Refusals.{no_entry}
use Rattle.ir.specs.Types.{Result, ok, refused}
use Rattle.ir.specs.Function.{Tables}

-- the tables, and each variable's offset under RBP
pub record Context : Type 0 where
  pub tables : Tables
  pub offsets : List ℕ

abbrev pub context_of : Tables → List ℕ → Context
context_of tables offsets = record { tables = tables; offsets = offsets }

-- `-ctx.offsets[id]`: a variable's displacement from RBP, as a two's complement pattern
unfoldable pub displacement : Context → ℕ → Result ℕ
displacement ctx id = cond (ltb id (length ctx.offsets)) (ok (minus (get_or ctx.offsets id 0))) (refused no_entry)

-- `ctx.data_names[id]`: a string of the tables
unfoldable pub string_at : Context → ℕ → Result ℕ
string_at ctx id = cond (ltb id ctx.tables.strings) (ok id) (refused no_entry)

-- `ctx.float_names[id]`: a float constant of the tables
unfoldable pub float_at : Context → ℕ → Result ℕ
float_at ctx id = cond (ltb id ctx.tables.floats) (ok id) (refused no_entry)

-- `ctx.floats[id].1`: whether it is short
unfoldable pub float_short : Context → ℕ → Result Bool
float_short ctx id = cond (ltb id ctx.tables.floats) (ok (ctx.tables.short id)) (refused no_entry)

-- `ctx.labels[id]`, of so many labels
unfoldable pub label_at : ℕ → ℕ → Result ℕ
label_at labels id = cond (ltb id labels) (ok id) (refused no_entry)

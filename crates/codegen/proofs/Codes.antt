-- The tables of codes that stood here before M-103, and the formulas that stand in their place: the checker computes both, code by code.
use mathlib.Core.Path.{◌≡◌, refl}
use mathlib.Core.List.{[], ◌∷◌}
use lib.ListN.{get_or}
use Rattle.x86.specs.declared.enums.ConditionCode.{ConditionCode}
use Rattle.x86.specs.Records.{condition_code}
use Rattle.codegen.specs.Arithmetic.{unsigned_code, float_code}

-- the ten codes that Krc has for an unsigned, non-float left (arithmetic.rs)
pub table_of_ten : (cc : ConditionCode) → get_or (ConditionCode.E ∷ ConditionCode.NE ∷ ConditionCode.A ∷ ConditionCode.AE ∷ ConditionCode.B ∷ ConditionCode.BE ∷ ConditionCode.A ∷ ConditionCode.AE ∷ ConditionCode.B ∷ ConditionCode.BE ∷ []) (condition_code cc) cc ≡ unsigned_code cc
unfolding unsigned_code
table_of_ten ConditionCode.E = refl
table_of_ten ConditionCode.NE = refl
table_of_ten ConditionCode.G = refl
table_of_ten ConditionCode.GE = refl
table_of_ten ConditionCode.L = refl
table_of_ten ConditionCode.LE = refl
table_of_ten ConditionCode.A = refl
table_of_ten ConditionCode.AE = refl
table_of_ten ConditionCode.B = refl
table_of_ten ConditionCode.BE = refl
table_of_ten ConditionCode.P = refl
table_of_ten ConditionCode.NP = refl

-- the six codes for a float left
pub table_of_six : (cc : ConditionCode) → get_or (ConditionCode.E ∷ ConditionCode.NE ∷ ConditionCode.A ∷ ConditionCode.AE ∷ ConditionCode.A ∷ ConditionCode.AE ∷ []) (condition_code cc) cc ≡ float_code cc
unfolding float_code unsigned_code
table_of_six ConditionCode.E = refl
table_of_six ConditionCode.NE = refl
table_of_six ConditionCode.G = refl
table_of_six ConditionCode.GE = refl
table_of_six ConditionCode.L = refl
table_of_six ConditionCode.LE = refl
table_of_six ConditionCode.A = refl
table_of_six ConditionCode.AE = refl
table_of_six ConditionCode.B = refl
table_of_six ConditionCode.BE = refl
table_of_six ConditionCode.P = refl
table_of_six ConditionCode.NP = refl

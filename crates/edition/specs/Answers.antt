-- Auxiliary: what the code answers where it looks ids up.
use Rattle.std.specs.Prelude.{ℕ, List, Option, Some, None, Result, Ok}
use Rattle.cells.specs.declared.refusals.Refusal.{Refusal}
use Rattle.cells.specs.declared.refusals.Refused.{Refused}
use Rattle.layout.specs.declared.Edition.{Edition}
use Rattle.layout.specs.Layout.{refuse}
use Rattle.edition.specs.Editions.{stray_in}

-- a stray id that was found is refused at its cell
abbrev pub refused_if : Option ℕ → Result (Unit {0}) Refused
refused_if None = Ok tt
refused_if (Some k) = refuse Refusal.TypeDiffers k

-- the first stray one of these ids
abbrev pub looked_up : Edition → List ℕ → List ℕ → Result (Unit {0}) Refused
looked_up e s ks = refused_if (stray_in e s ks)

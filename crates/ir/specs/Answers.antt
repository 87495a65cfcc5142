-- Auxiliary: what the code's answers say, a value or the number of a refusal, in the words of the definitions.
use Rattle.std.specs.Prelude.{Ok, Err}
use Rattle.std.specs.Prelude as std
use Rattle.cells.specs.declared.refusals.Refusal.{Refusal}
use Rattle.cells.specs.Refusals.{number_of_refusal}
use Rattle.ir.specs.Types.{Result, ok, refused}

abbrev pub says : {A : Type 0} → std.Result A Refusal → Result A
says (Ok a) = ok a
says (Err r) = refused (number_of_refusal r)

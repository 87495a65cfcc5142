use mathlib.Core.Path.{sym}
use native.Mathlib.Omega.{arith}
use Rattle.layout.proofs.Passed.{apart}
use Rattle.utils.proofs.Made.{counting}
use Rattle.body.proofs.survey_body.Goals as goal

pub walk_body-requires : goal.walk_body-requires
walk_body-requires c = record { head = c.requires; laid = λ w. apart (sym w); first_bound = omega arith; ready = counting }

use mathlib.Core.Path.{sym, ap, ◌∙◌}
use Rattle.cells.specs.Outcomes.{outcome}
use Rattle.pack.proofs.LookUps.{pair_inside, handed_back, handed_none}
use Rattle.pack.proofs.sheet.Goals as goal

pub part-requires : goal.part-requires
part-requires c = pair_inside _ _ (sym (ap outcome c.in-Ok.is) ∙ c.find.ensures)

pub returns-in-Ok : goal.returns-in-Ok
returns-in-Ok c =
    let h = handed_back _ _ _ (sym (ap outcome c.in-Ok.is) ∙ c.find.ensures) c.part.ensures.part c.part.ensures.own in
    record { part = h.0; own = h.1.0; refusal = h.1.1.0; place = h.1.1.1 }

pub returns-in-Err : goal.returns-in-Err
returns-in-Err c =
    let h = handed_none _ _ _ (sym (ap outcome c.in-Err.is) ∙ c.find.ensures) in
    record { part = h.0; own = h.1.0; refusal = c.from.ensures ∙ h.1.1.0; place = h.1.1.1 }

use mathlib.Core.Path.{sym, ap, ◌∙◌}
use Rattle.cells.specs.Outcomes.{outcome}
use Rattle.engine.proofs.Totals.{totals_are, no_totals}
use Rattle.engine.proofs.pack_totals.gilthoren_pack_totals.Goals as goal

pub returns-in-Ok : goal.returns-in-Ok
returns-in-Ok c = let h' = totals_are _ _ (sym (ap outcome c.in-Ok.is) ∙ c.pack_totals.ensures) in
    record { number = h'.0; known = h'.1.0; place = h'.1.1.0; records = h'.1.1.1.0; refused = h'.1.1.1.1.0; lent = h'.1.1.1.1.1 }

pub returns-in-Err : goal.returns-in-Err
returns-in-Err c = let h' = no_totals _ _ (sym (ap outcome c.in-Err.is) ∙ c.pack_totals.ensures) in
    record { number = c.from.ensures ∙ h'.0; known = rw c.from.ensures h'.1.0; place = h'.1.1.0; records = h'.1.1.1.0; refused = h'.1.1.1.1.0; lent = h'.1.1.1.1.1 }

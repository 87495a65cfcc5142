use mathlib.Core.Path.{sym, ap, ◌∙◌}
use native.Mathlib.Omega.{arith}
use Rattle.cells.specs.Outcomes.{outcome}
use Rattle.pack.proofs.LookUps.{pair_inside}
use Rattle.engine.proofs.Sheets.{sheet_found, sheet_refused}
use Rattle.engine.proofs.pack_sheet.gilthoren_pack_sheet.Goals as goal

pub overflow_mul-from : goal.overflow_mul-from
overflow_mul-from c =
    record { fits = omega (arith, pair_inside _ _ (sym (ap outcome c.in-Ok.is) ∙ c.find.ensures)) }

pub overflow_mul-length : goal.overflow_mul-length
overflow_mul-length c =
    record { fits = omega (arith, pair_inside _ _ (sym (ap outcome c.in-Ok.is) ∙ c.find.ensures)) }

pub returns-in-Ok : goal.returns-in-Ok
returns-in-Ok c =
    let h' = sheet_found _ _ (sym (ap outcome c.in-Ok.is) ∙ c.find.ensures) in
    record { number = h'.0; known = h'.1.0; place = h'.1.1.0; from = h'.1.1.1.0; length = h'.1.1.1.1.0; part = h'.1.1.1.1.1.0; lent = h'.1.1.1.1.1.1 }

pub returns-in-Err : goal.returns-in-Err
returns-in-Err c = let h' = sheet_refused _ _ (sym (ap outcome c.in-Err.is) ∙ c.find.ensures) in
    record { number = c.from.ensures ∙ h'.0; known = rw c.from.ensures h'.1.0; place = h'.1.1.0; from = h'.1.1.1.0; length = h'.1.1.1.1.0; part = λ z. h'.1.1.1.1.1.0 (sym c.from.ensures ∙ z); lent = h'.1.1.1.1.1.1 }

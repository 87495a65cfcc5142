use mathlib.Core.Path.{refl, sym, ◌∙◌}
use Rattle.ir.proofs.Rest.{no_width_lem, rounded_one, offset_on, offset_kept}
use Rattle.ir.proofs.types.offset_behind.Goals as goal

pub returns-in-1 : goal.returns-in-1
returns-in-1 c = rw c.bytes-size.ensures.0 (rounded_one _ ∙ offset_on _ _ (sym c.element_width-width.ensures.0 ∙ c.in-1.is) refl)

pub returns-in-4 : goal.returns-in-4
returns-in-4 c = rw c.bytes-size.ensures.0 (offset_on _ _ (sym c.element_width-width.ensures.0 ∙ c.in-4.is) refl)

pub returns-in-8 : goal.returns-in-8
returns-in-8 c = rw c.bytes-size.ensures.0 (offset_on _ _ (sym c.element_width-width.ensures.0 ∙ c.in-8.is) refl)

pub returns-in_default : goal.returns-in_default
returns-in_default c =
    let e = c.element_width-width.ensures.0 in
    offset_kept _ _ (no_width_lem _ (rw (e) at c.in_default.in_default-own.rest.0.0.1) (rw (e) at c.in_default.in_default-own.rest.0.1) (rw (e) at c.in_default.in_default-own.rest.1))

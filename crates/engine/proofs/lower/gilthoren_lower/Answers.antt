use mathlib.Core.Path.{refl, sym, ap, ◌∙◌}
use native.Mathlib.Omega.{arith}
use lib.ListN.{length}
use Rattle.codegen.specs.Generation.{lowered}
use Rattle.cells.specs.Outcomes.{outcome}
use Rattle.codegen.proofs.Refusals.{lowered_answers}
use Rattle.cells.proofs.Outcomes.{accepted_numbers, refused_numbers, refused_is}
use Rattle.engine.proofs.lower.gilthoren_lower.Goals as goal

pub returns-in-Ok : goal.returns-in-Ok
returns-in-Ok c =
    let a = c.args in
    let o = lowered a.tables.now a.sheet.now (length a.records.now) in
    let g = c.in-Ok.is in
    let e = sym (ap outcome g) ∙ c.generate.ensures.answer in
    let v = accepted_numbers length o e in
    record { number = v.0; known = (omega arith, λ z. omega arith); place = v.1; bytes = c.generate.ensures.bytes; lent = (refl, refl); demand2 = λ z. c.generate.ensures.demand2 _ g; demand3 = λ z p. c.generate.ensures.demand3 _ g p }

pub returns-in-Err : goal.returns-in-Err
returns-in-Err c =
    let a = c.args in
    let o = lowered a.tables.now a.sheet.now (length a.records.now) in
    let g = c.in-Err.is in
    let e = sym (ap outcome g) ∙ c.generate.ensures.answer in
    let v = refused_numbers length o e in
    let k = (lowered_answers a.tables.now a.sheet.now (length a.records.now)).of _ _ (refused_is length o e) in
    record { number = c.from.ensures ∙ v.0; known = rw c.from.ensures (k.1, k.2); place = v.1; bytes = c.generate.ensures.bytes; lent = (refl, refl); demand2 = λ z. absurd (omega (arith, k.0, c.from.ensures, z)); demand3 = λ z p. absurd (omega (arith, k.0, c.from.ensures, z)) }

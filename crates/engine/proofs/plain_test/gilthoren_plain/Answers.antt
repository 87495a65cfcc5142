use mathlib.Core.Path.{refl, sym, ap, ◌∙◌}
use Rattle.plain.specs.Answers.{plain_says}
use Rattle.engine.specs.Numbers.{yes_of, fault_of}
use Rattle.engine.proofs.Numbers.{plain_yes, plain_no}
use Rattle.engine.proofs.plain_test.gilthoren_plain.Goals as goal

pub returns-in-None : goal.returns-in-None
returns-in-None c =
    let e = sym (ap plain_says c.in-None.is) ∙ c.plainness.ensures in
    record { answer = ap yes_of e; place = ap fault_of e; lent = (refl, refl); plain = plain_yes e }

pub returns-in-Some : goal.returns-in-Some
returns-in-Some c =
    let e = sym (ap plain_says c.in-Some.is) ∙ c.plainness.ensures in
    record { answer = ap yes_of e; place = ap fault_of e; lent = (refl, refl); plain = plain_no e }

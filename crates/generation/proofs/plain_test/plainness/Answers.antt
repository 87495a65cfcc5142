use mathlib.Core.Path.{sym, ap, ◌∙◌}
use lib.ListN.{length}
use Rattle.codegen.specs.Generation.{compiled}
use Rattle.cells.specs.Outcomes.{outcome}
use Rattle.cells.proofs.Outcomes.{accepted_is, refused_is}
use Rattle.generation.proofs.plain_test.plainness.Goals as goal

pub plain_accepted-requires : goal.plain_accepted-requires
plain_accepted-requires c =
    let a = c.args in
    let l = accepted_is length (compiled a.tables.now a.sheet.now) (sym (ap outcome c.in-Ok.is) ∙ c.count.ensures) in
    record { tables = a.tables.now; list = l.0; is = l.1 }

pub plain_refused-requires : goal.plain_refused-requires
plain_refused-requires c =
    let a = c.args in
    let l = refused_is length (compiled a.tables.now a.sheet.now) (sym (ap outcome c.in-Err.is) ∙ c.count.ensures) in
    record { tables = a.tables.now; is = l }

pub returns-in-Ok : goal.returns-in-Ok
returns-in-Ok c =
    let a = c.args in
    let l = accepted_is length (compiled a.tables.now a.sheet.now) (sym (ap outcome c.in-Ok.is) ∙ c.count.ensures) in
    c.plain_accepted.ensures a.tables.now l.0 l.1

pub returns-in-Err : goal.returns-in-Err
returns-in-Err c =
    let a = c.args in
    c.plain_refused.ensures a.tables.now
    (refused_is length (compiled a.tables.now a.sheet.now) (sym (ap outcome c.in-Err.is) ∙ c.count.ensures))

use mathlib.Core.Path.{ap}
use Rattle.std.proofs.lemmas.Result.{err_from_is_err_and}
use Rattle.body.specs.Body.{survey_says}
use Rattle.generation.proofs.Lowering as whole
use Rattle.generation.proofs.Lowering.{instrs_say, end_says}
use Rattle.generation.proofs.pass.survey.Goals as goal

pub survey_body-requires : goal.survey_body-requires
survey_body-requires c = c.requires.head

pub returns-in_err-found-clause-value : goal.returns-in_err-found-clause-value
returns-in_err-found-clause-value c =
    let p = err_from_is_err_and c.from_residual.result c.from_residual.ensures.1 in
    rw (p.1, p.2) (instrs_say _ _ _ c.requires c.survey_body.ensures.value (ap survey_says c.in_err-found.was)).0

pub returns-in_err-end_check-clause-value : goal.returns-in_err-end_check-clause-value
returns-in_err-end_check-clause-value c =
    let q = c.from_residual-in_err-end_check in
    let p = err_from_is_err_and q.result q.ensures.1 in
    rw (p.1, p.2)
    (end_says _ _ _ c.requires c.survey_body.ensures.value (ap survey_says c.in_ok-found.was) c.end_check.ensures c.in_err-end_check.was).0

pub returns-clause-value : goal.returns-clause-value
returns-clause-value c =
    (whole.survey_says _ _ _ c.requires c.survey_body.ensures.value (ap survey_says c.in_ok-found.was) c.end_check.ensures c.in_ok-end_check.was
    c.count_list.ensures).0

pub returns-clause-lends : goal.returns-clause-lends
returns-clause-lends c =
    (whole.survey_says _ _ _ c.requires c.survey_body.ensures.value (ap survey_says c.in_ok-found.was) c.end_check.ensures c.in_ok-end_check.was
    c.count_list.ensures).1

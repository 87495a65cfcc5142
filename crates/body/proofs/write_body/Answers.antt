use mathlib.Core.Path.{sym, ap, ◌∙◌}
use Rattle.std.specs.Prelude.{Ok}
use Rattle.cells.specs.Cells.{cell_at}
use Rattle.layout.specs.Layout.{cursor}
use Rattle.layout.proofs.Laws.{head_laid}
use Rattle.layout.proofs.Walk.{has_params}
use Rattle.body.specs.Body.{survey_says}
use Rattle.body.proofs.Running.{never_wrong}
use Rattle.body.proofs.write_body.Goals as goal

pub body_from-requires : goal.body_from-requires
body_from-requires c = has_params c.requires.laid

pub walk_body-requires : goal.walk_body-requires
walk_body-requires c =
    let s = c.args.sheet.now in
    record {
      head = head_laid c.requires.laid ∙ ap (λ k. Ok (cell_at s 5, cursor k)) (sym c.body_from.ensures);
      laid = λ w. c.requires.laid;
      first_bound = c.requires.first_bound;
      ready = c.requires.ready;
    }

pub returns-in-Err : goal.returns-in-Err
returns-in-Err c =
    let s = c.args.sheet.now in
    never_wrong _ _ _ c.walk_body.ensures.value (ap survey_says c.in-Err.is)
    (head_laid c.requires.laid ∙ ap (λ k. Ok (cell_at s 5, cursor k)) (sym c.body_from.ensures)) c.requires.laid

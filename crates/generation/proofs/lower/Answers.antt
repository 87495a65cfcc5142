use mathlib.Core.Path.{refl, sym, ap, ◌∙◌}
use Rattle.std.proofs.lemmas.Result.{err_from_is_err_and}
use Rattle.codegen.specs.Generation.{compiled}
use Rattle.generation.specs.Survey.{frame_says, counted_says}
use Rattle.generation.proofs.Lowering.{paged_refused, paged_full, paged_made, left_lowered}
use Rattle.generation.proofs.lower.Goals as goal

pub returns-in_err-frame-clause-answer : goal.returns-in_err-frame-clause-answer
returns-in_err-frame-clause-answer c =
    let t = c.args.context.now.tables.now in
    let s = c.args.sheet.now in
    let o = c.args.out.now in
    let p = err_from_is_err_and c.from_residual.result c.from_residual.ensures.1 in
    let k = sym (ap (λ r. counted_says (frame_says r)) c.in_err-frame.was) ∙ c.survey.ensures.value in
    rw (p.1, p.2) (left_lowered t s o o _ refl (paged_refused (compiled t s) o k)).0

pub returns-in_err-frame-clause-bytes : goal.returns-in_err-frame-clause-bytes
returns-in_err-frame-clause-bytes c =
    let t = c.args.context.now.tables.now in
    let s = c.args.sheet.now in
    let o = c.args.out.now in
    let k = sym (ap (λ r. counted_says (frame_says r)) c.in_err-frame.was) ∙ c.survey.ensures.value in
    (left_lowered t s o o _ refl (paged_refused (compiled t s) o k)).1

pub returns-then-out-needed-clause-answer : goal.returns-then-out-needed-clause-answer
returns-then-out-needed-clause-answer c =
    let t = c.args.context.now.tables.now in
    let s = c.args.sheet.now in
    let o = c.args.out.now in
    let k = sym (ap (λ r. counted_says (frame_says r)) c.in_ok-frame.was) ∙ c.survey.ensures.value in
    (left_lowered t s o o _ refl (paged_full (compiled t s) o k c.if-out-needed.true)).0

pub returns-then-out-needed-clause-bytes : goal.returns-then-out-needed-clause-bytes
returns-then-out-needed-clause-bytes c =
    let t = c.args.context.now.tables.now in
    let s = c.args.sheet.now in
    let o = c.args.out.now in
    let k = sym (ap (λ r. counted_says (frame_says r)) c.in_ok-frame.was) ∙ c.survey.ensures.value in
    (left_lowered t s o o _ refl (paged_full (compiled t s) o k c.if-out-needed.true)).1

pub returns-clause-answer : goal.returns-clause-answer
returns-clause-answer c =
    let t = c.args.context.now.tables.now in
    let s = c.args.sheet.now in
    let o = c.args.out.now in
    let l = c.in_ok-frame.ensures.lends in
    (left_lowered t s o c.write_list.new.out _ refl (paged_made (compiled t s) o c.write_list.new.out (rw l.list c.write_list.ensures) c.if-out-needed.false)).0

pub returns-clause-bytes : goal.returns-clause-bytes
returns-clause-bytes c =
    let t = c.args.context.now.tables.now in
    let s = c.args.sheet.now in
    let o = c.args.out.now in
    let l = c.in_ok-frame.ensures.lends in
    (left_lowered t s o c.write_list.new.out _ refl (paged_made (compiled t s) o c.write_list.new.out (rw l.list c.write_list.ensures) c.if-out-needed.false)).1

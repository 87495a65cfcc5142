use Prim.Native.Nat.{◌+◌, ◌-◌, ◌<◌}
use mathlib.Core.Path.{◌≡◌, sym}
use native.Mathlib.Omega.{arith}
use Rattle.std.proofs.lemmas.Result.{err_from_is_err_and}
use Rattle.layout.proofs.Laws.{head_header}
use Rattle.utils.specs.Answers.{held}
use Rattle.body.proofs.Lines.{thirteen}
use Rattle.body.proofs.Running.{none_walked, laid_all, right_behind, right_few, walked_right, walked_ready, walked_few, walked_more, walked_refused, walked_unwritten, walked_wrong, wrong_unwritten, all_walked, all_written}
use Rattle.body.proofs.walk_body.Goals as goal

pub cell_at-labels-requires : goal.cell_at-labels-requires
cell_at-labels-requires c = omega (arith, head_header _ c.requires.head)

pub type_at-ret-requires : goal.type_at-ret-requires
type_at-ret-requires c = omega (arith, head_header _ c.requires.head)

pub cell_at-count-requires : goal.cell_at-count-requires
cell_at-count-requires c = omega (arith, head_header _ c.requires.head)

pub loop-i-init : goal.loop-i-init
loop-i-init c =
    none_walked (held c.args.context.now) _ c.requires.head _ _ _ c.cell_at-labels.ensures c.type_at-ret.ensures (omega (arith, c.cell_at-count.ensures))

pub next_line-requires : goal.next_line-requires
next_line-requires c =
    λ w. walked_right c.loop-i.invariant (omega (arith, c.loop-i-test.true)) (laid_all c.requires.head (c.requires.laid w))

pub returns-in_err-next-clause-value : goal.returns-in_err-next-clause-value
returns-in_err-next-clause-value c =
    let p = err_from_is_err_and c.from_residual.result c.from_residual.ensures.1 in
    rw (p.1, p.2) (walked_wrong c.loop-i.invariant (omega (arith, c.loop-i-test.true)) (sym c.in_err-next.ensures))

pub returns-in_err-next-clause-out_after : goal.returns-in_err-next-clause-out_after
returns-in_err-next-clause-out_after c =
    let g = c.loop-i.invariant in
    let h : 0 < c.cell_at-count.result - c.loop-i.i = omega (arith, c.loop-i-test.true) in
    wrong_unwritten g h (sym c.in_err-next.ensures) (λ w. walked_right g h (laid_all c.requires.head (c.requires.laid w)))

pub invariant_of-line : goal.invariant_of-line
invariant_of-line c = record { whole = thirteen _ _ (right_behind _ _ (sym c.in_ok-next.ensures)) }

pub generate_instruction-requires-clause-present : goal.generate_instruction-requires-clause-present
generate_instruction-requires-clause-present c = right_behind _ _ (sym c.in_ok-next.ensures)

pub generate_instruction-requires-clause-few : goal.generate_instruction-requires-clause-few
generate_instruction-requires-clause-few c = right_few _ _ (sym c.in_ok-next.ensures)

pub generate_instruction-requires-clause-ready : goal.generate_instruction-requires-clause-ready
generate_instruction-requires-clause-ready c =
    walked_ready c.loop-i.invariant (omega (arith, c.loop-i-test.true)) (sym c.in_ok-next.ensures) c.requires.ready (omega arith)

pub overflow_add-made : goal.overflow_add-made
overflow_add-made c =
    let g = c.loop-i.invariant in
    let h : 0 < c.cell_at-count.result - c.loop-i.i = omega (arith, c.loop-i-test.true) in
    let m = rw c.in-Ok.is at c.generate_instruction.ensures in
    omega (arith, g.few, walked_few g h (sym c.in_ok-next.ensures) c.requires.ready (omega arith) m)

pub returns-in-Err-clause-value : goal.returns-in-Err-clause-value
returns-in-Err-clause-value c =
    let m = rw c.in-Err.is at c.generate_instruction.ensures in
    let l : c.cell_at-count.result - (c.loop-i.i + 1) ≡ c.cell_at-count.result - c.loop-i.i - 1 = omega arith in
    walked_refused c.loop-i.invariant (omega (arith, c.loop-i-test.true)) (sym c.in_ok-next.ensures) c.requires.ready m (rw l at c.rest_laid.ensures.value)

pub returns-in-Err-clause-out_after : goal.returns-in-Err-clause-out_after
returns-in-Err-clause-out_after c =
    let m = rw c.in-Err.is at c.generate_instruction.ensures in
    walked_unwritten c.loop-i.invariant (omega (arith, c.loop-i-test.true)) (sym c.in_ok-next.ensures) c.requires.ready m

pub loop-i-preserved : goal.loop-i-preserved
loop-i-preserved c =
    let m = rw c.in-Ok.is at c.generate_instruction.ensures in
    let l : c.cell_at-count.result - c.loop-i.i - 1 ≡ c.cell_at-count.result - (c.loop-i.i + 1) = omega arith in
    rw c.ends.ensures
    (rw l at (walked_more c.loop-i.invariant (omega (arith, c.loop-i-test.true)) (sym c.in_ok-next.ensures) c.requires.ready (omega arith) m))

pub returns-clause-value : goal.returns-clause-value
returns-clause-value c = all_walked c.loop-i.invariant (omega (arith, c.loop-i-test.false))

pub returns-clause-out_after : goal.returns-clause-out_after
returns-clause-out_after c = all_written c.loop-i.invariant (omega (arith, c.loop-i-test.false)) c.requires.ready

use mathlib.Core.Path.{refl}
use Rattle.utils.proofs.Made.{exit_is}
use Rattle.utils.proofs.Rows.{none_made}
use Rattle.utils.proofs.Beyond.{none_passed, turn_ready, turn_made, turn_over, turn_refused, all_passed}
use Rattle.frame.proofs.Copies.{copying, none_copied}
use Rattle.frame.proofs.copy_params.Goals as goal
use Rattle.frame.proofs.copy_params.Goals.{then-is_beyond+in_ok-copy_one, else-is_beyond}

pub returns-then-parameters-le6 : goal.returns-then-parameters-le6
returns-then-parameters-le6 c = none_made (none_copied _ _ _ _ c.if-parameters-le6.true)

pub loop-i-init : goal.loop-i-init
loop-i-init c = none_passed (copying _ _) _ _ _ _ _

pub copy_one-requires-clause-ready : goal.copy_one-requires-clause-ready
copy_one-requires-clause-ready c = turn_ready (copying _ _) c.loop-i.invariant c.requires.ready c.loop-i-test.true c.at-p.ensures c.is_float-float.ensures c.is_beyond.ensures c.if-is_beyond.true refl

pub returns-in_err-copy_one : goal.returns-in_err-copy_one
returns-in_err-copy_one c =
    rw (exit_is c.from_residual.ensures.1)
    (turn_refused (copying _ _) c.loop-i.invariant c.requires.ready c.loop-i-test.true c.at-p.ensures c.is_float-float.ensures c.is_beyond.ensures c.if-is_beyond.true
    (rw c.in_err-copy_one.was at c.copy_one.ensures))

pub loop-i-preserved : goal.loop-i-preserved
loop-i-preserved c =
    elim c.if-is_beyond.branch [
      | then-is_beyond+in_ok-copy_one w ↦
          rw w.out-is (turn_made (copying _ _) c.loop-i.invariant c.requires.ready c.loop-i-test.true c.at-p.ensures c.is_float-float.ensures c.is_beyond.ensures w.if-is_beyond.true
          refl (rw w.in_ok-copy_one.was at w.copy_one.ensures) c.with-taken.ensures)
      | else-is_beyond w ↦
          rw w.out-is (turn_over (copying _ _) c.loop-i.invariant c.requires.ready c.loop-i-test.true c.at-p.ensures c.is_float-float.ensures c.is_beyond.ensures w.if-is_beyond.false
          c.with-taken.ensures)
    ]

pub returns : goal.returns
returns c = all_passed (copying _ _) c.loop-i.invariant c.requires.ready c.loop-i-test.false

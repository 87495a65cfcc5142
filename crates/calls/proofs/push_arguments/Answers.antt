use mathlib.Core.Path.{refl}
use Rattle.utils.proofs.Made.{exit_is}
use Rattle.utils.proofs.Beyond.{none_passed, turn_ready, turn_made, turn_over, turn_refused, all_passed}
use Rattle.calls.proofs.Pushes.{pushing}
use Rattle.calls.proofs.push_arguments.Goals as goal
use Rattle.calls.proofs.push_arguments.Goals.{then-is_beyond+in_ok-push_one, else-is_beyond}

pub loop-i-init : goal.loop-i-init
loop-i-init c = none_passed (pushing _ _) _ _ _ _ _

pub push_one-requires-clause-ready : goal.push_one-requires-clause-ready
push_one-requires-clause-ready c =
    turn_ready (pushing _ _) c.loop-i.invariant c.requires.ready c.loop-i-test.true c.at-op.ensures c.is_floating-float.ensures c.is_beyond.ensures c.if-is_beyond.true refl

pub returns-in_err-push_one : goal.returns-in_err-push_one
returns-in_err-push_one c =
    rw (exit_is c.from_residual.ensures.1)
    (turn_refused (pushing _ _) c.loop-i.invariant c.requires.ready c.loop-i-test.true c.at-op.ensures c.is_floating-float.ensures c.is_beyond.ensures c.if-is_beyond.true
    c.in_err-push_one.ensures)

pub loop-i-preserved : goal.loop-i-preserved
loop-i-preserved c =
    elim c.if-is_beyond.branch [
      | then-is_beyond+in_ok-push_one w ↦
          rw w.out-is (turn_made (pushing _ _) c.loop-i.invariant c.requires.ready c.loop-i-test.true c.at-op.ensures c.is_floating-float.ensures c.is_beyond.ensures
          w.if-is_beyond.true refl w.in_ok-push_one.ensures c.with-taken.ensures)
      | else-is_beyond w ↦
          rw w.out-is (turn_over (pushing _ _) c.loop-i.invariant c.requires.ready c.loop-i-test.true c.at-op.ensures c.is_floating-float.ensures c.is_beyond.ensures
          w.if-is_beyond.false c.with-taken.ensures)
    ]

pub returns : goal.returns
returns c = all_passed (pushing _ _) c.loop-i.invariant c.requires.ready c.loop-i-test.false

use mathlib.Core.Path.{refl}
use Rattle.utils.proofs.Made.{exit_is}
use Rattle.calls.proofs.Loads.{none_loaded, load_ready, load_made, load_over, load_refused, count_ready, all_loaded}
use Rattle.calls.proofs.load_arguments.Goals as goal
use Rattle.calls.proofs.load_arguments.Goals.{then-not-is_beyond+in_ok-load_operand, else-not-is_beyond}

pub loop-i-init : goal.loop-i-init
loop-i-init c = none_loaded _ _ _ _ _ _ _

pub load_operand-requires : goal.load_operand-requires
load_operand-requires c =
    rw c.register.ensures
    (load_ready c.loop-i.invariant c.requires.ready c.loop-i-test.true c.at-op.ensures c.is_floating-float.ensures c.is_beyond.ensures c.if-not-is_beyond.true refl)

pub returns-in_err-load_operand : goal.returns-in_err-load_operand
returns-in_err-load_operand c =
    rw (exit_is c.from_residual.ensures.1)
    (load_refused c.loop-i.invariant c.requires.ready c.loop-i-test.true c.at-op.ensures c.is_floating-float.ensures c.is_beyond.ensures c.if-not-is_beyond.true
    (rw c.register.ensures at c.in_err-load_operand.ensures))

pub loop-i-preserved : goal.loop-i-preserved
loop-i-preserved c =
    elim c.if-not-is_beyond.branch [
      | then-not-is_beyond+in_ok-load_operand w ↦
          rw w.out-is (load_made c.loop-i.invariant c.requires.ready c.loop-i-test.true c.at-op.ensures c.is_floating-float.ensures c.is_beyond.ensures
          w.if-not-is_beyond.true refl (rw w.register.ensures at w.in_ok-load_operand.ensures) c.with-taken.ensures)
      | else-not-is_beyond w ↦
          rw w.out-is (load_over c.loop-i.invariant c.requires.ready c.loop-i-test.true c.at-op.ensures c.is_floating-float.ensures c.is_beyond.ensures
          w.if-not-is_beyond.false c.with-taken.ensures)
    ]

pub one_record-requires : goal.one_record-requires
one_record-requires c = rw c.mov-counted.ensures (count_ready c.loop-i.invariant c.requires.ready c.loop-i-test.false refl)

pub returns : goal.returns
returns c = all_loaded c.loop-i.invariant c.requires.ready c.loop-i-test.false refl (rw c.mov-counted.ensures at c.one_record.ensures)

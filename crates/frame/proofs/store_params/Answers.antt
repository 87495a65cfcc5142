use native.Mathlib.Omega.{arith}
use Rattle.utils.proofs.Made.{exit_is}
use Rattle.frame.proofs.Stores.{registers_few, none_stored, store_ready, stored_more, store_refused, all_stored}
use Rattle.frame.proofs.store_params.Goals as goal

pub loop-i-init : goal.loop-i-init
loop-i-init c = none_stored _ _ _ _ _ _ _ _

pub store_param-requires : goal.store_param-requires
store_param-requires c = store_ready c.loop-i.invariant c.requires.ready c.loop-i-test.true c.at.ensures

pub returns-in_err-k : goal.returns-in_err-k
returns-in_err-k c =
    rw (exit_is c.from_residual.ensures.1)
    (store_refused c.loop-i.invariant c.requires.ready c.loop-i-test.true c.at.ensures (rw c.in_err-k.was at c.store_param.ensures))

pub overflow_add-k : goal.overflow_add-k
overflow_add-k c =
    let more = stored_more c.loop-i.invariant c.requires.ready c.loop-i-test.true c.at.ensures (rw c.in_ok-k.was at c.store_param.ensures) in
    omega (arith, registers_few c.args.float, more.free)

pub loop-i-preserved : goal.loop-i-preserved
loop-i-preserved c = stored_more c.loop-i.invariant c.requires.ready c.loop-i-test.true c.at.ensures (rw c.in_ok-k.was at c.store_param.ensures)

pub returns : goal.returns
returns c = all_stored c.loop-i.invariant c.requires.ready c.loop-i-test.false

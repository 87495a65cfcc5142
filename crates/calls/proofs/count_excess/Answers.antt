use Rattle.calls.proofs.Pushes.{few_counted, one_counted, all_counted}
use Rattle.calls.proofs.count_excess.Goals as goal

pub returns-then-arguments-le6 : goal.returns-then-arguments-le6
returns-then-arguments-le6 c = few_counted _ _ _ c.if-arguments-le6.true

pub loop-i-preserved : goal.loop-i-preserved
loop-i-preserved c = one_counted c.loop-i.invariant c.loop-i-test.true c.at.ensures (rw c.is_floating.ensures at c.with-taken.ensures)

pub returns : goal.returns
returns c = all_counted c.loop-i.invariant c.loop-i-test.false

use Rattle.std.proofs.Common.{rules, refl}
use Rattle.cells.proofs.Turns.{goes_on, stops, ends}
use Rattle.layout.specs.Layout.{zeros_check}
use Rattle.layout.proofs.parts.zeros_check.Goals as goal

pub returns-in_err-here : goal.returns-in_err-here
unfolding zeros_check
returns-in_err-here c = stops _ _ c.loop.invariant c.loop-test.true (search rules)

pub loop-preserved : goal.loop-preserved
unfolding zeros_check
loop-preserved c = goes_on _ _ c.loop.invariant _ c.loop-test.true (search rules)

pub returns : goal.returns
unfolding zeros_check
returns c = ends _ _ c.loop.invariant c.loop-test.false refl

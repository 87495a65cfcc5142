use Rattle.std.proofs.Common.{rules}
use Rattle.cells.proofs.Turns.{goes_on, stops, ends}
use Rattle.layout.specs.Layout.{end_check, floats_check}
use Rattle.layout.proofs.tables.floats_check.Goals as goal

pub returns-then-is_ok : goal.returns-then-is_ok
unfolding floats_check end_check
returns-then-is_ok c = stops _ _ c.loop.invariant c.loop-test.true (search rules)

pub returns-in_err-here : goal.returns-in_err-here
unfolding floats_check end_check
returns-in_err-here c = stops _ _ c.loop.invariant c.loop-test.true (search rules)

pub loop-preserved : goal.loop-preserved
unfolding floats_check end_check
loop-preserved c = goes_on _ _ c.loop.invariant _ c.loop-test.true (search rules)

pub returns : goal.returns
unfolding floats_check end_check
returns c = ends _ _ c.loop.invariant c.loop-test.false (search rules)

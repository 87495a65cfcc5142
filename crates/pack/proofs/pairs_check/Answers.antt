use Rattle.std.proofs.Common.{rules, arith}
use Rattle.cells.proofs.Turns.{goes_on, stops, ends}
use Rattle.layout.specs.Layout.{end_check}
use Rattle.pack.specs.Pack.{pairs_check}
use Rattle.pack.proofs.pairs_check.Goals as goal

pub loop-init : goal.loop-init
loop-init c = (record { is = search rules }, omega arith)

pub returns-in_err-start : goal.returns-in_err-start
unfolding pairs_check
returns-in_err-start c = stops _ _ c.loop.invariant.0 c.loop-test.true (search rules)

pub loop-preserved : goal.loop-preserved
unfolding pairs_check
loop-preserved c = (goes_on _ _ c.loop.invariant.0 _ c.loop-test.true (search rules), search rules)

pub returns : goal.returns
unfolding pairs_check end_check
returns c = ends _ _ c.loop.invariant.0 c.loop-test.false (search rules)

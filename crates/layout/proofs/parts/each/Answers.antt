use Rattle.std.proofs.Common.{rules, ◌∙◌}
use Rattle.cells.proofs.Turns.{goes_on, stops, ends}
use Rattle.layout.proofs.parts.each.Goals as goal

pub returns-in_err-here : goal.returns-in_err-here
returns-in_err-here g c =
    λ rep r.
    stops _ _ (c.loop.invariant rep r) c.loop-test.true (r.more _ _ _ (c.in_err-here.ensures) ∙ search rules)

pub loop-preserved : goal.loop-preserved
loop-preserved g c =
    λ rep r.
    goes_on _ _ (c.loop.invariant rep r) _ c.loop-test.true (r.more _ _ _ (c.in_ok-here.ensures))

pub returns : goal.returns
returns g c = λ rep r. ends _ _ (c.loop.invariant rep r) c.loop-test.false (r.none _)

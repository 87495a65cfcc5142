use Rattle.std.proofs.Common.{rules, refl}
use Rattle.layout.specs.Layout.{operands_in}
use Rattle.layout.proofs.parts.operands_check.Goals as goal

pub returns : goal.returns
unfolding operands_in
returns c = c.each.ensures (operands_in c.args.e c.args.s.now) (record { none = λ c. refl; more = λ n c x h. search rules })

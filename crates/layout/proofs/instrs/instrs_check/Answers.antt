use Rattle.std.proofs.Common.{rules, refl}
use Rattle.layout.specs.Layout.{instrs_in}
use Rattle.layout.proofs.instrs.instrs_check.Goals as goal

pub returns : goal.returns
unfolding instrs_in
returns c = c.each.ensures (instrs_in c.args.e c.args.s.now) (record { none = λ c. refl; more = λ n c x h. search rules })

use Rattle.std.proofs.Common.{rules, refl}
use Rattle.layout.specs.Layout.{params_in}
use Rattle.layout.proofs.lists.params_check.Goals as goal

pub returns : goal.returns
unfolding params_in
returns c = c.each.ensures (params_in c.args.e c.args.s.now) (record { none = λ c. refl; more = λ n c x h. search rules })

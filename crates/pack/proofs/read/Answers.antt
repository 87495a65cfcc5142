use mathlib.Core.Path.{sym, ◌∙◌}
use Rattle.pack.proofs.Turns.{read_most}
use Rattle.pack.proofs.read.Goals as goal

pub returns-in-Ok-clause-upper_bound : goal.returns-in-Ok-clause-upper_bound
returns-in-Ok-clause-upper_bound c = read_most _ _ _ _ (sym c.in-Ok.is ∙ c.within.ensures)

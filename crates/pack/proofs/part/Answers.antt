use mathlib.Core.Path.{refl}
use Rattle.pack.proofs.LookUps.{part_is}
use Rattle.pack.proofs.part.Goals as goal

pub returns : goal.returns
returns c = record { part = part_is c.args.pack.now c.args.pair; own = refl }

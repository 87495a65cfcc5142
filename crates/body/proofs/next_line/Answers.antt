use Rattle.body.proofs.Running.{right_behind}
use Rattle.body.proofs.next_line.Goals as goal

pub behind-requires : goal.behind-requires
behind-requires c = right_behind _ _ (c.requires c.if-write.true)

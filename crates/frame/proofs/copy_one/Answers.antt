use Rattle.utils.proofs.Made.{told, exit_is, has_room, makes, counts, refuses}
use Rattle.frame.proofs.Copies.{copy_looked}
use Rattle.frame.proofs.copy_one.Goals as goal

pub returns-in_err-slot : goal.returns-in_err-slot
returns-in_err-slot c = rw (exit_is c.from_residual.ensures.1) (refuses _ (copy_looked _ _ _) (told c.look_copied.ensures c.in_err-slot.was))

pub put_moved-requires : goal.put_moved-requires
put_moved-requires c = has_room _ (copy_looked _ _ _) (told c.look_copied.ensures c.in_ok-slot.was) c.requires.ready c.if-write.true

pub returns-then-write : goal.returns-then-write
returns-then-write c = makes _ (copy_looked _ _ _) (told c.look_copied.ensures c.in_ok-slot.was) c.if-write.true c.put_moved.ensures

pub returns-else-write : goal.returns-else-write
returns-else-write c = counts _ (copy_looked _ _ _) (told c.look_copied.ensures c.in_ok-slot.was) c.if-write.false

use Rattle.frame.proofs.Stores.{one_looked}
use Rattle.x86.proofs.Lists.{puts, first, done}
use Rattle.utils.proofs.Made.{told, exit_is, has_room, makes, counts, refuses}
use Rattle.frame.proofs.store_one.Goals as goal

pub returns-in_err-slot : goal.returns-in_err-slot
returns-in_err-slot c = rw (exit_is c.from_residual.ensures.1) (refuses _ (one_looked _ _ _ _) (told c.look_slot.ensures c.in_err-slot.was))

pub put_param-requires : goal.put_param-requires
put_param-requires c = has_room _ (one_looked _ _ _ _) (told c.look_slot.ensures c.in_ok-slot.was) c.requires.ready c.if-write.true

pub returns-then-write : goal.returns-then-write
returns-then-write c =
    let slot = told c.look_slot.ensures c.in_ok-slot.was in
    let write = c.if-write.true in
    makes _ (one_looked _ _ _ _) slot write
    (puts (first (rw (c.store_op.ensures, c.param_register.ensures) at c.put_param.ensures) done) (has_room _ (one_looked _ _ _ _) slot c.requires.ready write))

pub returns-else-write : goal.returns-else-write
returns-else-write c = counts _ (one_looked _ _ _ _) (told c.look_slot.ensures c.in_ok-slot.was) c.if-write.false

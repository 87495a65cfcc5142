use Rattle.x86.proofs.Lists.{puts, first, done}
use Rattle.utils.proofs.Made.{told, exit_is, has_room, makes, counts, refuses}
use Rattle.utils.proofs.Rows.{none_made}
use Rattle.calls.proofs.Parts.{not_kept, kept_looked}
use Rattle.calls.proofs.store_result.Goals as goal

pub returns-in_default : goal.returns-in_default
returns-in_default c = none_made (not_kept _ c.in_default.is)

pub returns-in_err-slot : goal.returns-in_err-slot
returns-in_err-slot c = rw (exit_is c.from_residual.ensures.1) (refuses _ (kept_looked _ c.in-Some.is) (told c.look_slot.ensures c.in_err-slot.was))

pub put_result-requires : goal.put_result-requires
put_result-requires c = has_room _ (kept_looked _ c.in-Some.is) (told c.look_slot.ensures c.in_ok-slot.was) c.requires c.if-write.true

pub returns-then-write : goal.returns-then-write
returns-then-write c =
    let slot = told c.look_slot.ensures c.in_ok-slot.was in
    let write = c.if-write.true in
    makes _ (kept_looked _ c.in-Some.is) slot write
    (puts (first (rw c.is_float.ensures at c.put_result.ensures) done) (has_room _ (kept_looked _ c.in-Some.is) slot c.requires write))

pub returns-else-write : goal.returns-else-write
returns-else-write c = counts _ (kept_looked _ c.in-Some.is) (told c.look_slot.ensures c.in_ok-slot.was) c.if-write.false

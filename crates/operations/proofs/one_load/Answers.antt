use Rattle.utils.proofs.Made.{told, exit_is, makes, counts, refuses}
use Rattle.operations.proofs.Looked.{one_looked}
use Rattle.operations.proofs.one_load.Goals as goal

pub returns-in_err-sides : goal.returns-in_err-sides
returns-in_err-sides c =
    rw (exit_is c.from_residual.ensures.1)
    (refuses _ (one_looked _ _ _ _ _ _ _) (told (rw (c.convert_operand.ensures, c.right.ensures) at c.look_sides.ensures) c.in_err-sides.was))

pub returns-then-write : goal.returns-then-write
returns-then-write c =
    makes _ (one_looked _ _ _ _ _ _ _) (told (rw (c.convert_operand.ensures, c.right.ensures) at c.look_sides.ensures) c.in_ok-sides.was)
    c.if-write.true c.put_one_load.ensures

pub returns-else-write : goal.returns-else-write
returns-else-write c =
    counts _ (one_looked _ _ _ _ _ c.args.op c.args.store) (told (rw (c.convert_operand.ensures, c.right.ensures) at c.look_sides.ensures) c.in_ok-sides.was)
    c.if-write.false

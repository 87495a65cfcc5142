use mathlib.Core.Path.{◌∙◌}
use Rattle.utils.proofs.Made.{told, exit_is, has_room, makes, counts, refuses}
use Rattle.operations.proofs.Looked.{two_looked, number}
use Rattle.operations.proofs.two_loads.Goals.{then-write, else-write}
use Rattle.operations.proofs.two_loads.Goals as goal

pub returns-in_err-sides : goal.returns-in_err-sides
returns-in_err-sides c =
    rw (exit_is c.from_residual.ensures.1)
    (refuses _ (two_looked _ _ _ _ _ _) (told (rw (c.source.ensures, c.right.ensures) at c.look_sides.ensures) c.in_err-sides.was))

pub put_two_loads-requires : goal.put_two_loads-requires
put_two_loads-requires c =
    rw (number c.args.middle c.args.outcome c.in_ok-sides.sides)
    (has_room _ (two_looked _ _ _ _ _ _) (told (rw (c.source.ensures, c.right.ensures) at c.look_sides.ensures) c.in_ok-sides.was) c.requires c.if-write.true)

pub returns : goal.returns
returns c =
    let list = told (rw (c.source.ensures, c.right.ensures) at c.look_sides.ensures) c.in_ok-sides.was in
    rw (c.records.ensures, number c.args.middle c.args.outcome c.in_ok-sides.sides)
    (elim c.if-write.branch [
      | then-write w ↦ makes _ (two_looked _ _ _ _ _ _) list w.if-write.true (w.out-is ∙ w.put_two_loads.ensures)
      | else-write w ↦ rw w.out-is (counts _ (two_looked _ _ _ _ _ _) list w.if-write.false)
    ])

use mathlib.Core.Path.{◌∙◌}
use Rattle.utils.proofs.Made.{told, exit_is, has_room, makes, counts, refuses}
use Rattle.comparisons.proofs.Looks.{looked}
use Rattle.comparisons.proofs.comparison.Goals.{then-write, else-write}
use Rattle.comparisons.proofs.comparison.Goals as goal

pub returns-in_err-found : goal.returns-in_err-found
returns-in_err-found c = rw (exit_is c.from_residual.ensures.1) (refuses _ (looked _ _ _ _ _) (told c.look_compared.ensures c.in_err-found.was))

pub put_compared-requires : goal.put_compared-requires
put_compared-requires c = has_room _ (looked _ _ _ _ _) (told c.look_compared.ensures c.in_ok-found.was) c.requires c.if-write.true

pub returns : goal.returns
returns c =
    let list = told c.look_compared.ensures c.in_ok-found.was in
    rw c.records.ensures
    (elim c.if-write.branch [
      | then-write w ↦ makes _ (looked _ _ _ _ _) list w.if-write.true (w.out-is ∙ w.put_compared.ensures)
      | else-write w ↦ rw w.out-is (counts _ (looked _ _ _ _ _) list w.if-write.false)
    ])

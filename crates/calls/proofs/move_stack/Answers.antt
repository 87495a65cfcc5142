use mathlib.Core.Path.{refl}
use Rattle.utils.proofs.Rows.{none_made}
use Rattle.calls.proofs.move_stack.Goals as goal

pub returns-then-k-eq0 : goal.returns-then-k-eq0
returns-then-k-eq0 c = none_made (rw c.if-k-eq0.true refl)

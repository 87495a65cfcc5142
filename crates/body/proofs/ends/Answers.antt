use mathlib.Core.Path.{ap}
use borrow.Author.Tests.{lt-ltb, le-ltb}
use lib.Dec.{eqb}
use Rattle.body.proofs.ends.Goals as goal

pub returns-then-n-gt0 : goal.returns-then-n-gt0
returns-then-n-gt0 c = rw (lt-ltb 0 c.args.n c.if-n-gt0.true) (ap (λ n. eqb n 9) c.kind.ensures)

pub returns-else-n-gt0 : goal.returns-else-n-gt0
returns-else-n-gt0 c = rw (le-ltb 0 c.args.n c.if-n-gt0.false)

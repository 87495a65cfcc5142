use native.Mathlib.Omega.{arith}
use Rattle.x86.proofs.Lists.{puts, first, done, both}
use Rattle.instructions.proofs.put_return.Goals as goal

pub returns : goal.returns
returns c = both _ _ _ _ _ _ _ (puts (first c.put_load.ensures done) (omega arith)) c.func_epilogue.ensures (omega arith) (omega arith)

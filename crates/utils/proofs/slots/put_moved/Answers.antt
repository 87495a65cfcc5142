use native.Mathlib.Omega.{arith}
use Rattle.x86.proofs.Lists.{puts, first, put, done}
use Rattle.utils.proofs.slots.put_moved.Goals as goal

pub returns : goal.returns
returns c = puts (first c.put_load.ensures (put (rw c.mov.ensures at c.put_instruction.ensures) done)) (omega arith)

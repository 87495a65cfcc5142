use native.Mathlib.Omega.{arith}
use Rattle.x86.proofs.Lists.{puts, first, put, done}
use Rattle.instructions.proofs.put_zero.Goals as goal

pub returns : goal.returns
returns c = puts (first c.put_instruction.ensures (put (rw c.mov.ensures at c.put_instruction-2.ensures) (put (rw c.mov-2.ensures at c.put_instruction-3.ensures) (put c.put_instruction-4.ensures done)))) (omega arith)

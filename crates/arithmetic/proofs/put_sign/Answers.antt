use native.Mathlib.Omega.{arith}
use Rattle.x86.proofs.Lists.{puts, first, put, done}
use Rattle.arithmetic.proofs.put_sign.Goals as goal

pub returns : goal.returns
returns c = puts (first c.put_load.ensures (put (rw (c.mov.ensures, c.sign_bit.ensures) at c.put_instruction.ensures) (put c.put_instruction-2.ensures (put (rw c.mov-2.ensures at c.put_instruction-3.ensures) done)))) (omega arith)

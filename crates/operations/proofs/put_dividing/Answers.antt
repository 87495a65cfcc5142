use native.Mathlib.Omega.{arith}
use Rattle.x86.proofs.Lists.{puts, first, put, done}
use Rattle.operations.proofs.put_dividing.Goals as goal

pub returns-then-unsigned : goal.returns-then-unsigned
returns-then-unsigned c = rw c.if-unsigned.true (puts (first c.put_instruction.ensures (put (rw c.divide.ensures at c.put_instruction-then-unsigned.ensures) done)) (omega arith))

pub returns-else-unsigned : goal.returns-else-unsigned
returns-else-unsigned c = rw (c.if-unsigned.false, ← c.sign_into.ensures) (puts (first c.put_instruction-else-unsigned.ensures (put (rw c.divide-else-unsigned.ensures at c.put_instruction-else-unsigned-2.ensures) done)) (omega arith))

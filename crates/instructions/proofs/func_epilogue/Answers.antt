use native.Mathlib.Omega.{arith}
use Rattle.x86.proofs.Lists.{puts, first, put, done}
use Rattle.instructions.proofs.func_epilogue.Goals as goal

pub returns : goal.returns
returns c = puts (first (rw c.mov.ensures at c.put_instruction.ensures) (put c.put_instruction-2.ensures (put c.put_instruction-3.ensures done))) (omega arith)

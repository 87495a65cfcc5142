use native.Mathlib.Omega.{arith}
use Rattle.x86.proofs.Lists.{puts, first, put, done}
use Rattle.instructions.proofs.put_branch.Goals as goal

pub returns : goal.returns
returns c = puts (first c.put_load.ensures (put c.put_instruction.ensures (put c.put_instruction-2.ensures done))) (omega arith)

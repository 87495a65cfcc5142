use native.Mathlib.Omega.{arith}
use Rattle.x86.proofs.Lists.{puts, first, done}
use Rattle.operations.proofs.Middle.put.Goals as goal

pub returns-in-Multiply : goal.returns-in-Multiply
returns-in-Multiply c =
    let room = rw c.in-Multiply.is at c.requires in
    rw c.in-Multiply.is (puts (first c.put_instruction.ensures done) (omega arith))

pub returns-in-Shift : goal.returns-in-Shift
returns-in-Shift c =
    let room = rw c.in-Shift.is at c.requires in
    rw c.in-Shift.is (puts (first c.put_instruction-in-Shift.ensures done) (omega arith))

use native.Mathlib.Omega.{arith}
use Rattle.x86.proofs.Lists.{puts, first, put, done}
use Rattle.comparisons.proofs.put_store.Goals as goal

pub returns-in-None : goal.returns-in-None
returns-in-None c = rw c.in-None.is (rw c.mov-store.ensures at (puts (first c.put_instruction.ensures done) (omega arith)))

pub returns-in-Some : goal.returns-in-Some
returns-in-Some c =
    let room = rw c.in-Some.is at c.requires in
    rw c.in-Some.is
    (rw c.mov-store.ensures at (puts (first c.put_instruction-in-Some.ensures (put c.put_instruction-in-Some-2.ensures (put c.put_instruction-in-Some-3.ensures done))) (omega arith)))

use native.Mathlib.Omega.{arith}
use Rattle.x86.proofs.Lists.{puts, first, put, done, both}
use Rattle.casts.specs.Casts.{cast_of}
use Rattle.casts.proofs.Casts.{cast_length}
use Rattle.casts.proofs.put_cast.Goals as goal

pub returns-in-Some : goal.returns-in-Some
unfolding cast_of
returns-in-Some c =
    let h = rw (cast_length, c.in-Some.is) at c.requires in
    rw c.in-Some.is (both _ _ _ _ _ _ _ c.put_source.ensures (puts (first c.put_instruction.ensures (put c.put_instruction-in-Some.ensures done)) (omega arith)) (omega arith) (omega arith))

pub returns : goal.returns
unfolding cast_of
returns c =
    let h = rw (cast_length, c.in_default.is) at c.requires in
    rw c.in_default.is (both _ _ _ _ _ _ _ c.put_source.ensures (puts (first c.put_instruction-2.ensures done) (omega arith)) (omega arith) (omega arith))

use native.Mathlib.Omega.{arith}
use Rattle.x86.proofs.Lists.{first, put, done}
use Rattle.operations.proofs.Looked.{between}
use Rattle.operations.proofs.put_two_loads.Goals as goal

pub returns : goal.returns
returns c =
    between c.args.middle c.args.sides.dest.size _ (first c.put_load.ensures (put c.put_load-2.ensures done)) c.put.ensures
    (rw c.mov.ensures at c.put_instruction.ensures) (omega (arith, c.records.ensures)) c.requires

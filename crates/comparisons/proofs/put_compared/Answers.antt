use native.Mathlib.Omega.{arith}
use Rattle.x86.proofs.Lists.{both, puts, first, put, done}
use Rattle.comparisons.proofs.Looks.{number}
use Rattle.comparisons.proofs.put_compared.Goals as goal

pub returns : goal.returns
returns c =
    let count = number c.args.found in
    both _ _ _ _ _ _ _
    (puts (first c.put_load.ensures (put c.put_load-2.ensures (put c.put_instruction.ensures (put c.put_instruction-2.ensures done)))) (omega arith))
    c.put_store.ensures (omega arith) (omega arith)

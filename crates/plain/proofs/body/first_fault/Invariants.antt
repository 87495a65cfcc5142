use Rattle.plain.proofs.Faults.{Testing}
use Rattle.plain.proofs.body.first_fault.Given as goal

abbrev pub invariant-loop-k : goal.invariant-loop-k
invariant-loop-k l = Testing l.sheet.bytes.now l.n l.k l.cell l.before

use Rattle.frame.proofs.Offsets.{Offsetting}
use Rattle.frame.proofs.var_offsets.Given as goal

abbrev pub invariant-loop-i : goal.invariant-loop-i
invariant-loop-i l = Offsetting l.s l.n l.from l.initial.offsets l.i l.end l.widths l.offsets

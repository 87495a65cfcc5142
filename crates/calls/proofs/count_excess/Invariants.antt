use Rattle.calls.proofs.Pushes.{Counting}
use Rattle.calls.proofs.count_excess.Given as goal

abbrev pub invariant-loop-i : goal.invariant-loop-i
invariant-loop-i l = Counting l.arguments.sheet.now l.arguments.count l.arguments.from l.i l.taken

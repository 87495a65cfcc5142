use Rattle.plain.proofs.Counting.{Counting}
use Rattle.plain.proofs.body.count_labels.Given as goal

abbrev pub invariant-loop : goal.invariant-loop
invariant-loop l = Counting l.sheet l.counter l.cell l.counts

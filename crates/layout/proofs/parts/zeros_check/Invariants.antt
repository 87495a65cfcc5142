use Rattle.cells.proofs.Turns.{Turns}
use Rattle.layout.specs.Layout.{zeros_check}
use Rattle.layout.proofs.parts.zeros_check.Given as goal

abbrev pub invariant-loop : goal.invariant-loop
invariant-loop l = Turns (zeros_check l.s) (zeros_check l.s l.n l.initial.here) l.n l.counter l.here

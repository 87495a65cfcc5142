use Rattle.cells.proofs.Turns.{Turns}
use Rattle.layout.specs.Layout.{floats_check}
use Rattle.layout.proofs.tables.floats_check.Given as goal

abbrev pub invariant-loop : goal.invariant-loop
invariant-loop l = Turns (floats_check l.t) (floats_check l.t l.n l.initial.here) l.n l.counter l.here

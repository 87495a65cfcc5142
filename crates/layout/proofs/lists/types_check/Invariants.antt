use Rattle.layout.specs.Layout.{types_check}
use Rattle.layout.proofs.Turns.{Typing}
use Rattle.layout.proofs.lists.types_check.Given as goal

abbrev pub invariant-loop : goal.invariant-loop
invariant-loop l = Typing l.s (types_check l.s l.n 0 l.initial.here) l.n l.counter l.end l.here

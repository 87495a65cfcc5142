use Prim.Native.Nat.{◌+◌, ◌≤◌}
use Rattle.cells.specs.Cells.{cells}
use Rattle.cells.proofs.Turns.{Turns}
use Rattle.pack.specs.Pack.{pairs_check}
use Rattle.pack.proofs.Turns.{pairs_from}
use Rattle.pack.proofs.pairs_check.Given as goal

abbrev pub invariant-loop : goal.invariant-loop
invariant-loop l = Turns (pairs_from l.p) (pairs_check l.p l.n l.initial.start l.initial.here) l.n l.counter (l.start, l.here) × (l.start ≤ 513 + cells l.p)

use Prim.Native.Nat.{◌-◌}
use Rattle.totals.proofs.Walks.{Walked}
use Rattle.totals.proofs.walk.Given as goal

abbrev pub invariant-loop-i : goal.invariant-loop-i
invariant-loop-i l = Walked l.tables l.pack (l.sheets - l.i) l.records l.refused

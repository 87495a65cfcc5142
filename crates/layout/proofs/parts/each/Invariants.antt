use Prim.Native.Nat.{ℕ}
use Rattle.cells.specs.declared.Cursor.{Cursor}
use Rattle.cells.proofs.Turns.{Turns}
use Rattle.layout.specs.Layout.{Checked}
use Rattle.layout.specs.Steps.{Repeats}
use Rattle.layout.proofs.parts.each.Given as goal

abbrev pub invariant-loop : goal.invariant-loop
invariant-loop g l =
    (rep : ℕ → Cursor → Checked) → Repeats (goal.F-post g l.step) rep → Turns rep (rep l.n l.initial.here) l.n l.counter l.here

use Prim.Native.Nat.{ℕ, ◌+◌, ◌-◌, ◌<◌}
use mathlib.Core.Path.{◌≡◌, sym, ap, ◌∙◌}
use mathlib.Core.List.{List}
use native.Mathlib.Omega.{arith}
use Rattle.cells.specs.Outcomes.{outcome}
use Rattle.codegen.specs.Generation.{Outcome, compiled}
use Rattle.generation.specs.Answers.{counted_outcome}
use Rattle.pack.specs.Pack.{sheet_at, sheet_count}
use Rattle.pack.proofs.Pairs.{pack_right}
use Rattle.pack.proofs.LookUps.{count_there}
use Rattle.totals.proofs.Walks.{Walked, begins, lowers, turns_away, ends}
use Rattle.totals.proofs.walk.Goals.{in-Ok, in-Err}
use Rattle.totals.proofs.walk.Goals as goal

-- what the count says of the next sheet, whose place is counted from either end
said : (t p s : List ℕ) (n i : ℕ) {o a : Outcome ℕ} → a ≡ o → o ≡ counted_outcome (compiled t s) → s ≡ sheet_at p (n - 1 - i) → a ≡ counted_outcome (compiled t (sheet_at p (n - i - 1)))
said t p s n i e f g =
    let l : n - 1 - i ≡ n - i - 1 = omega arith in
    e ∙ f ∙ ap (λ u. counted_outcome (compiled t u)) (g ∙ ap (sheet_at p) l)

-- and what is left then
one_fewer : (t p : List ℕ) (n i : ℕ) {records turned : ℕ} → Walked t p (n - i - 1) records turned → Walked t p (n - (i + 1)) records turned
one_fewer t p n i h = let l : n - (i + 1) ≡ n - i - 1 = omega arith in rw l h

pub cell_at-sheets-requires : goal.cell_at-sheets-requires
cell_at-sheets-requires c = count_there _ c.requires.is

pub loop-i-init : goal.loop-i-init
loop-i-init c = begins _ _ _ (omega (arith, c.cell_at-sheets.ensures))

pub overflow_add-records : goal.overflow_add-records
overflow_add-records c =
    let w = lowers _ _ c.loop-i.invariant (omega (arith, c.loop-i-test.true)) (said _ _ _ _ _ (sym (ap outcome c.in-Ok.is)) c.count.ensures c.sheet_at.ensures.part) in
    omega (arith, w.0, c.loop-i.invariant.short, (pack_right _ c.requires.is).1)

pub loop-i-preserved : goal.loop-i-preserved
loop-i-preserved c =
    let some : 0 < c.cell_at-sheets.result - c.loop-i.i = omega (arith, c.loop-i-test.true) in
    elim c.match-count.branch [
      | in-Ok w ↦
          let h = (lowers _ _ c.loop-i.invariant some (said _ _ _ _ _ (sym (ap outcome w.in-Ok.is)) c.count.ensures c.sheet_at.ensures.part)).1 in
          rw (w.records-is, w.refused-is) (one_fewer _ _ _ _ h)
      | in-Err w ↦
          let h = turns_away _ _ c.loop-i.invariant some (said _ _ _ _ _ (sym (ap outcome w.in-Err.is)) c.count.ensures c.sheet_at.ensures.part) in
          rw (w.records-is, w.refused-is) (one_fewer _ _ _ _ h)
    ]

pub returns : goal.returns
returns c = ends _ _ c.loop-i.invariant (omega (arith, c.loop-i-test.false))

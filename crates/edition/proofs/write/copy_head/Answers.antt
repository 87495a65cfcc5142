use Rattle.std.proofs.Common.{◌≡◌, ℕ, ◌-◌, [], ◌∷◌, arith, refl, ap, ◌∙◌}
use Rattle.cells.specs.Cells.{cell_at, cell_bytes, cells_from}
use Rattle.cells.proofs.Lists.{from_length}
use Rattle.edition.specs.Walked.{Entered}
use Rattle.edition.proofs.Turns.{cells_on, cells_off}
use Rattle.edition.proofs.Written.{goes_on, ends}
use Rattle.edition.proofs.write.copy_head.Goals as goal

pub loop-i-init : goal.loop-i-init
loop-i-init c =
    let l : c.args.n - 0 ≡ c.args.n = omega arith in
    record { is = rw l refl; room = rw l (omega (arith, from_length c.args.s.now c.args.n 0)); entered = tt }

pub loop-i-preserved : goal.loop-i-preserved
loop-i-preserved c =
    goes_on _ _ _ c.loop-i.invariant [] _ refl (cell_at c.args.s.now c.loop-i.i ∷ []) (cells_on _ _ _ c.loop-i-test.true) _ _ _ refl (omega arith)
    (c.put_cell.ensures ∙ ap (λ (v : ℕ). cell_bytes (v ∷ [])) c.cell_at.ensures)

pub returns : goal.returns
returns c = ends _ _ _ c.loop-i.invariant (cells_off _ _ _ c.loop-i-test.false)

use Rattle.std.proofs.Common.{◌≡◌, arith, length, sym, ◌∙◌}
use Rattle.cells.specs.Outcomes.{accepted}
use Rattle.layout.proofs.Walk.{laid_from, has_types}
use Rattle.edition.specs.Editions.{other, sheet_cells, converted}
use Rattle.edition.proofs.Conversions.{converting}
use Rattle.edition.proofs.Kept.{kept, means}
use Rattle.edition.proofs.convert.Goals.{After-put_sheet}
use Rattle.edition.proofs.convert.Goals as goal

pub invariant_of-sheet : goal.invariant_of-sheet
invariant_of-sheet c = record { typed = has_types (laid_from (sym c.sheet_check.ensures ∙ c.in_ok-sheet_check.was)) }

accepts : (c : After-put_sheet) → let a = c.args in converted a.e a.sheet.now (length a.out.now) ≡ accepted (sheet_cells a.e (other a.e) a.sheet.now)
accepts c = grind (arith, converting)

pub returns-clause-kept : goal.returns-clause-kept
returns-clause-kept c = kept _ _ _ _ (λ i. omega (arith, c.type_inv.sheet i)) (accepts (goal.at.returns-clause-kept c).After-put_sheet) _ c.needed-n.ensures _ _ (rw c.other.ensures at c.put_sheet.ensures)

pub returns-clause-means : goal.returns-clause-means
returns-clause-means c = means _ _ _ _ (λ i. omega (arith, c.type_inv.sheet i)) (accepts (goal.at.returns-clause-means c).After-put_sheet) _ c.needed-n.ensures _ _ (rw c.other.ensures at c.put_sheet.ensures)

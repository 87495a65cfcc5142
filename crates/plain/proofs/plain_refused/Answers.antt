use Rattle.std.proofs.Common.{◌≤◌, sym, arith, ltb-true}
use borrow.Author.Tests.{ltb-false}
use Rattle.cells.specs.Refusals.{number_of_refusal}
use Rattle.plain.proofs.Answered.{refuses_laid, refuses_within, refuses_named, says_layout, says_head, says_body}
use Rattle.plain.proofs.plain_refused.Goals as goal
use Rattle.plain.proofs.plain_refused.Goals.{then-is_of_layout-via-then-is_of_layout, then-is_of_layout-via-else-is_of_layout+then-refused-eq0}

pub returns-then-is_of_layout : goal.returns-then-is_of_layout
returns-then-is_of_layout c = λ t e.
    elim c.then-is_of_layout.branch [
      | then-is_of_layout-via-then-is_of_layout w ↦ says_layout t _ _ _ e (ltb-true _ _ (sym (w.if-is_of_layout.ensures)))
      | then-is_of_layout-via-else-is_of_layout+then-refused-eq0 w ↦ says_head t _ _ _ e (ltb-false _ _ (sym (w.if-is_of_layout.ensures))) w.if-refused-eq0.true
    ]

pub conditions-requires-clause-laid : goal.conditions-requires-clause-laid
conditions-requires-clause-laid c = refuses_laid c.requires (ltb-false _ _ (sym c.if-is_of_layout.ensures))

pub conditions-requires-clause-n_bound : goal.conditions-requires-clause-n_bound
conditions-requires-clause-n_bound c = omega (arith, refuses_within c.requires (ltb-false _ _ (sym c.if-is_of_layout.ensures)))

pub conditions-requires-clause-named : goal.conditions-requires-clause-named
conditions-requires-clause-named c = refuses_named c.requires (ltb-false _ _ (sym c.if-is_of_layout.ensures))

pub returns : goal.returns
returns c = λ t e.
    let h : 4 ≤ number_of_refusal c.args.refused.refusal = ltb-false _ _ (sym (c.if-is_of_layout.ensures)) in
    rw c.or.ensures (says_body t _ _ _ e h (omega (arith, c.if-refused-eq0.false)) _ c.conditions.ensures)

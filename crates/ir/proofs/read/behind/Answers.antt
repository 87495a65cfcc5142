use Rattle.ir.proofs.Sheet.{behind_least, behind_call, behind_other}
use mathlib.Core.Path.{sym, ◌∙◌}
use native.Mathlib.Omega.{arith}
use Rattle.ir.proofs.read.behind.Goals as goal

pub cell_at-requires : goal.cell_at-requires
cell_at-requires c = omega (arith, behind_least c.args.s.now c.args.k, c.requires)

pub overflow_add-result : goal.overflow_add-result
overflow_add-result c =
    let a = c.args in
    let e = behind_call a.s.now a.k (sym c.cell_at.ensures ∙ c.if-cell_at-eq5.true) in
    omega (arith, e, c.requires, c.well_formed)

pub overflow_add-k : goal.overflow_add-k
overflow_add-k c =
    let a = c.args in
    let e = behind_call a.s.now a.k (sym c.cell_at.ensures ∙ c.if-cell_at-eq5.true) in
    omega (arith, e, c.requires, c.well_formed)

pub cell_at-requires-then-cell_at-eq5 : goal.cell_at-requires-then-cell_at-eq5
cell_at-requires-then-cell_at-eq5 c =
    let a = c.args in
    let e = behind_call a.s.now a.k (sym c.cell_at.ensures ∙ c.if-cell_at-eq5.true) in
    omega (arith, e, c.requires, c.well_formed)

pub overflow_mul-result : goal.overflow_mul-result
overflow_mul-result c =
    let a = c.args in
    let e = behind_call a.s.now a.k (sym c.cell_at.ensures ∙ c.if-cell_at-eq5.true) in
    omega (arith, e, c.cell_at-then-cell_at-eq5.ensures, c.requires, c.well_formed)

pub overflow_add-result-then-cell_at-eq5 : goal.overflow_add-result-then-cell_at-eq5
overflow_add-result-then-cell_at-eq5 c =
    let a = c.args in
    let e = behind_call a.s.now a.k (sym c.cell_at.ensures ∙ c.if-cell_at-eq5.true) in
    omega (arith, e, c.cell_at-then-cell_at-eq5.ensures, c.requires, c.well_formed)

pub overflow_add-result-else-cell_at-eq5 : goal.overflow_add-result-else-cell_at-eq5
overflow_add-result-else-cell_at-eq5 c =
    let a = c.args in
    let e = behind_other a.s.now a.k (λ p. c.if-cell_at-eq5.false (c.cell_at.ensures ∙ p)) in
    omega (arith, e, c.requires, c.well_formed)

pub returns-then-cell_at-eq5 : goal.returns-then-cell_at-eq5
returns-then-cell_at-eq5 c =
    let a = c.args in
    let e = behind_call a.s.now a.k (sym c.cell_at.ensures ∙ c.if-cell_at-eq5.true) in
    omega (arith, e, c.cell_at-then-cell_at-eq5.ensures)

pub returns-else-cell_at-eq5 : goal.returns-else-cell_at-eq5
returns-else-cell_at-eq5 c =
    let a = c.args in
    let e = behind_other a.s.now a.k (λ p. c.if-cell_at-eq5.false (c.cell_at.ensures ∙ p)) in
    omega (arith, e)

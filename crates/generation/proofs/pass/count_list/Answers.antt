use mathlib.Core.Path.{◌≡◌, sym, ap, ◌∙◌}
use native.Mathlib.Omega.{arith}
use Rattle.std.proofs.Common.{rules, Ok}
use Rattle.ir.specs.Answers.{says}
use Rattle.utils.proofs.Made.{told}
use Rattle.body.specs.Body.{made_by, passed_says}
use Rattle.layout.proofs.Laws.{head_header, head_vars, head_params, head_within}
use Rattle.generation.proofs.Listing.{first_few}
use Rattle.generation.proofs.Lowering.{total_few}
use Rattle.generation.proofs.pass.count_list.Goals as goal

pub rounded_to_16-bytes-requires : goal.rounded_to_16-bytes-requires
rounded_to_16-bytes-requires c =
    let total : c.args.head.total ≡ Ok c.in_ok-map_err.field-0 = search rules in
    omega (arith, total_few _ (sym (ap says total) ∙ c.requires.total) c.requires.head)

pub cell_at-requires : goal.cell_at-requires
cell_at-requires c = omega (arith, head_header _ c.requires.head)

pub overflow_mul-params : goal.overflow_mul-params
overflow_mul-params c = omega (arith, head_vars _ c.requires.head, c.cell_at.ensures)

pub overflow_add-params : goal.overflow_add-params
overflow_add-params c = omega (arith, head_vars _ c.requires.head, c.cell_at.ensures)

pub cell_at-count-requires : goal.cell_at-count-requires
cell_at-count-requires c = omega (arith, head_header _ c.requires.head)

pub func_prologue-requires-clause-n_bound : goal.func_prologue-requires-clause-n_bound
func_prologue-requires-clause-n_bound c = omega (arith, head_within _ c.requires.head, c.cell_at.ensures, c.cell_at-count.ensures)

pub func_prologue-requires-clause-n_le_most_parameters : goal.func_prologue-requires-clause-n_le_most_parameters
func_prologue-requires-clause-n_le_most_parameters c = omega (arith, head_params _ c.requires.head, c.cell_at-count.ensures)

pub overflow_add-result : goal.overflow_add-result
overflow_add-result c =
    let found : c.func_prologue.result ≡ Ok c.in_ok-first.first = search rules in
    let first = sym (told c.func_prologue.ensures.says found) in
    let body = ap (λ b. made_by (passed_says b)) c.in_ok-made.was in
    omega (arith, first_few _ _ _ _ _ (omega (arith, head_params _ c.requires.head, c.cell_at-count.ensures)) first, c.requires.few)

pub overflow_add-result-2 : goal.overflow_add-result-2
overflow_add-result-2 c =
    let found : c.func_prologue.result ≡ Ok c.in_ok-first.first = search rules in
    let first = sym (told c.func_prologue.ensures.says found) in
    let body = ap (λ b. made_by (passed_says b)) c.in_ok-made.was in
    omega (arith, first_few _ _ _ _ _ (omega (arith, head_params _ c.requires.head, c.cell_at-count.ensures)) first, c.requires.few, c.ending.ensures.upper_bound)

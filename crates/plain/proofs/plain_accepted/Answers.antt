use Rattle.std.proofs.Common.{ℕ, ap, ◌∙◌, arith}
use Rattle.ir.specs.Function.{function_of}
use Rattle.layout.proofs.Walk.{has_header}
use Rattle.plain.specs.Parts.{verdict}
use Rattle.plain.proofs.Answered.{accepts_laid, says_accepted}
use Rattle.plain.proofs.plain_accepted.Goals as goal

pub cell_at-requires : goal.cell_at-requires
cell_at-requires c = omega (arith, has_header (accepts_laid c.requires))

pub returns : goal.returns
returns c = λ t is e.
    says_accepted t c.args.sheet.now is e _ (c.conditions.ensures ∙ ap (λ (n : ℕ). verdict (function_of c.args.sheet.now) n) c.cell_at.ensures)

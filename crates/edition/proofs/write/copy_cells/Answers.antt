use Rattle.std.proofs.Common.{arith, ◌∙◌}
use Rattle.edition.proofs.Written.{copied}
use Rattle.edition.proofs.write.copy_cells.Goals as goal

pub returns : goal.returns
returns c = c.copy_from_slice.ensures.after ∙ copied _ _ _ (λ i. omega (arith, c.type_inv.s i)) c.requires.there

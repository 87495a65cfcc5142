use native.Mathlib.Omega.{arith}
use Rattle.ir.specs.Function.{instr_at}
use Rattle.ir.proofs.Rest.{comment_instr}
use Rattle.ir.proofs.read.instr_at.Goals as goal

pub returns-in_default : goal.returns-in_default
unfolding instr_at
returns-in_default c = simp (← c.cell_at-kind.ensures) (comment_instr _ _ _ (omega arith))

pub returns-in-2 : goal.returns-in-2
unfolding instr_at
returns-in-2 c =
    simp (
      c.operand_at-in-2-2.ensures,
      c.operand_at-in-2.ensures,
      c.from-in-2.ensures,
      c.cell_at-in-2.ensures,
      c.var_at-in-2.ensures,
      ← c.cell_at-kind.ensures,
      c.in-2.is,
    )

use native.Mathlib.Omega.{arith}
use Rattle.ir.specs.Function.{operand_at}
use Rattle.ir.proofs.Rest.{null_operand}
use Rattle.ir.proofs.read.operand_at.Goals as goal

pub returns-in_default : goal.returns-in_default
unfolding operand_at
returns-in_default c = simp (← c.cell_at-kind.ensures) (null_operand _ _ _ (omega arith))

pub returns-in-2 : goal.returns-in-2
unfolding operand_at
returns-in-2 c = simp (c.cell_at-in-2.ensures, ← c.cell_at-kind.ensures, c.in-2.is)

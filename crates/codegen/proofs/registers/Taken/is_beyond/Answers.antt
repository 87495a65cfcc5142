use Rattle.codegen.proofs.registers.Taken.is_beyond.Goals as goal

pub returns-then-float : goal.returns-then-float
returns-then-float c = simp c.if-float.true

pub returns-else-float : goal.returns-else-float
returns-else-float c = simp c.if-float.false

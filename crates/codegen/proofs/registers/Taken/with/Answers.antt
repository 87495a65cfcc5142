use native.Mathlib.Omega.{arith}
use Rattle.codegen.proofs.Taken.{stack_with, float_left, float_with, word_left, word_with}
use Rattle.codegen.proofs.registers.Taken.with.Goals as goal

pub returns-then-is_beyond : goal.returns-then-is_beyond
returns-then-is_beyond c = stack_with c.args.float c.args.self c.is_beyond.ensures c.if-is_beyond.true

pub overflow_add-result-then-float : goal.overflow_add-result-then-float
overflow_add-result-then-float c = omega (arith, float_left c.args.float c.args.self c.is_beyond.ensures c.if-is_beyond.false c.if-float.true)

pub returns-then-float : goal.returns-then-float
returns-then-float c = float_with c.args.float c.args.self c.is_beyond.ensures c.if-is_beyond.false c.if-float.true

pub overflow_add-result-2 : goal.overflow_add-result-2
overflow_add-result-2 c = omega (arith, word_left c.args.float c.args.self c.is_beyond.ensures c.if-is_beyond.false c.if-float.false)

pub returns : goal.returns
returns c = word_with c.args.float c.args.self c.is_beyond.ensures c.if-is_beyond.false c.if-float.false

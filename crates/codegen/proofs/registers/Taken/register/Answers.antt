use mathlib.Core.Path.{refl}
use Rattle.codegen.proofs.Taken.{float_left, word_left}
use Rattle.codegen.proofs.registers.Taken.register.Goals as goal

pub param_register-requires : goal.param_register-requires
param_register-requires c = float_left c.args.float c.args.self refl c.requires c.if-float.true

pub param_register-requires-else-float : goal.param_register-requires-else-float
param_register-requires-else-float c = word_left c.args.float c.args.self refl c.requires c.if-float.false

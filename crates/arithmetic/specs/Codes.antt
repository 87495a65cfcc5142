-- Auxiliary: the code of a comparison, which codegen's `integer_binary` gives `comparison`.
use Rattle.ir.specs.declared.BinaryOp.{BinaryOp}
use Rattle.x86.specs.declared.enums.ConditionCode.{ConditionCode}

abbrev pub comparison_code : BinaryOp → ConditionCode
comparison_code BinaryOp.Eq = ConditionCode.E
comparison_code BinaryOp.NotEq = ConditionCode.NE
comparison_code BinaryOp.Lt = ConditionCode.L
comparison_code BinaryOp.Le = ConditionCode.LE
comparison_code BinaryOp.Gt = ConditionCode.G
comparison_code _ = ConditionCode.GE

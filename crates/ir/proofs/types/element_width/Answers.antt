use native.Mathlib.Omega.{arith}
use Rattle.ir.proofs.Rest.{wide_code, packed_width, few_bytes}
use Rattle.ir.proofs.types.element_width.Goals as goal

pub returns-then-code-ge16 : goal.returns-then-code-ge16
returns-then-code-ge16 c = (wide_code _ c.if-code-ge16.true, omega arith)

pub returns : goal.returns
returns c =
    let e = packed_width _ c.if-code-ge16.false in
    (e, rw (e) (few_bytes _))

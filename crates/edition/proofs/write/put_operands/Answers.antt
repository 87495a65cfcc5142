use Rattle.std.proofs.Common.{◌+◌, ◌*◌, arith}
use Rattle.edition.proofs.Parts.{operand_length}
use Rattle.edition.proofs.Turns.{operand_ids_on, operands_on, operands_off}
use Rattle.edition.proofs.Written.{first, goes_on, ends}
use Rattle.edition.proofs.write.put_operands.Goals as goal

pub put_operand-requires-clause-entered : goal.put_operand-requires-clause-entered
put_operand-requires-clause-entered c = first _ _ _ c.loop-i.invariant _ _ (operand_ids_on _ _ _ _ c.loop-i-test.true)

pub loop-i-preserved : goal.loop-i-preserved
loop-i-preserved c =
    goes_on _ _ _ c.loop-i.invariant _ _ (operand_ids_on _ _ _ _ c.loop-i-test.true) _ (operands_on _ _ _ _ _ c.loop-i-test.true) _ _ _ (omega arith)
    (omega (arith, operand_length c.args.f c.args.sheet.now.bytes.now (c.args.k + 4 * c.loop-i.i))) c.put_operand.ensures

pub returns : goal.returns
returns c = ends _ _ _ c.loop-i.invariant (operands_off _ _ _ _ _ c.loop-i-test.false)

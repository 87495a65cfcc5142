use Rattle.std.proofs.Common.{arith}
use Rattle.edition.proofs.Lines.{instr_length, behind_is_so}
use Rattle.edition.proofs.Turns.{instr_ids_on, instrs_on, instrs_off, present_on}
use Rattle.edition.proofs.Written.{first, goes_on, ends}
use Rattle.edition.proofs.write.put_instrs.Goals as goal

pub put_instr-requires-clause-entered : goal.put_instr-requires-clause-entered
put_instr-requires-clause-entered c = first _ _ _ c.loop.invariant.0 _ _ (instr_ids_on _ _ _ _ c.loop-test.true)

pub returns : goal.returns
returns c = ends _ _ _ c.loop.invariant.0 (instrs_off _ _ _ _ _ c.loop-test.false)

pub loop-preserved : goal.loop-preserved
loop-preserved c =
    let s = c.args.sheet.now.bytes.now in
    let l = c.loop in
    let b = behind_is_so s l.at in
    let p = present_on s c.args.n l.counter l.at c.loop-test.true l.invariant.2 in (
      goes_on _ _ _ l.invariant.0 _ _ (instr_ids_on _ _ _ _ c.loop-test.true) _ (instrs_on _ _ _ _ _ c.loop-test.true) _ _ _ c.behind-next.ensures
          (omega (arith, c.behind-next.ensures, instr_length c.args.f s l.at)) c.put_instr.ensures,
      omega (arith, c.behind-next.ensures),
      rw c.behind-next.ensures p.1,
    )

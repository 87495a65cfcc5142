use Rattle.std.proofs.Common.{[], ◌∷◌, ◌+◌, ◌*◌, arith}
use Rattle.layout.specs.Layout.{param_width}
use Rattle.edition.specs.Walked.{Entered}
use Rattle.edition.proofs.Parts.{param_length}
use Rattle.edition.proofs.Turns.{param_ids_on, params_on, params_off}
use Rattle.edition.proofs.Written.{first, goes_on, ends}
use Rattle.edition.proofs.write.put_params.Goals as goal

pub put_param-requires-clause-entered : goal.put_param-requires-clause-entered
put_param-requires-clause-entered c =
    let a = c.args in
    let from = a.k + param_width a.e * c.loop-i.i in
    let h : Entered a.sheet.now.bytes.now (from ∷ []) = first _ _ _ c.loop-i.invariant (from ∷ []) (from + param_width a.e) (param_ids_on _ _ _ _ _ c.loop-i-test.true) in
    rw c.param_width.ensures h.0

pub loop-i-preserved : goal.loop-i-preserved
loop-i-preserved c =
    let a = c.args in
    let from = a.k + param_width a.e * c.loop-i.i in
    goes_on _ _ _ c.loop-i.invariant (from ∷ []) _ (param_ids_on _ _ _ _ _ c.loop-i-test.true) _ (params_on _ _ _ _ _ _ c.loop-i-test.true) _ _ _ (omega arith)
    (omega (arith, c.param_width-size.ensures, param_length a.f a.sheet.now.bytes.now from)) (rw c.param_width.ensures at c.put_param.ensures)

pub returns : goal.returns
returns c = ends _ _ _ c.loop-i.invariant (params_off _ _ _ _ _ _ c.loop-i-test.false)

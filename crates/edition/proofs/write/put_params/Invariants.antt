use Rattle.std.proofs.Common.{◌+◌, ◌*◌}
use Rattle.layout.specs.Layout.{param_width}
use Rattle.edition.specs.Editions.{param_ids, params_cells}
use Rattle.edition.proofs.Written.{Writing}
use Rattle.edition.proofs.write.put_params.Given as goal

abbrev pub invariant-loop-i : goal.invariant-loop-i
invariant-loop-i l =
    let s = l.sheet.bytes.now in
    Writing s (param_ids l.e s) (params_cells l.e l.f s) l.n l.k l.i (l.k + param_width l.e * l.i) (l.size * l.i) l.out

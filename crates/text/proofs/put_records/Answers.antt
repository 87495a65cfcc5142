use mathlib.Core.Path.{◌≡◌, refl}
use native.Mathlib.Omega.{arith}
use Rattle.text.proofs.Pieces.{no_records, more_records, records_more}
use Rattle.text.proofs.put_records.Goals as goal

pub loop-k-init : goal.loop-k-init
loop-k-init c = (omega arith, refl, no_records c.args.records.now)

pub put_cells-end-requires : goal.put_cells-end-requires
put_cells-end-requires c =
    record { n_bound = omega arith; n_in_bounds = omega (arith, c.loop-k.invariant.2.behind, records_more c.args.records.now c.loop-k.k c.args.n c.loop-k.invariant.0, c.requires.n_in_bounds_2) }

pub loop-k-preserved : goal.loop-k-preserved
loop-k-preserved c = (
  omega arith,
  omega (arith, c.put_cells-end.auto.out),
  more_records c.args.records.now c.loop-k.k c.args.n (omega arith) c.requires.n_in_bounds_2 c.loop-k.invariant.2 c.put_cells-end.ensures,
)

pub returns : goal.returns
returns c =
    let e : c.loop-k.k ≡ c.args.n = omega arith in
    rw e at c.loop-k.invariant.2

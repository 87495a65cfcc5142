use native.Mathlib.Omega.{arith}
use Rattle.text.proofs.Pieces.{no_cells, more_cells, signed_length}
use Rattle.text.proofs.+put_cells.Goals as goal

pub returns-then-n-eq0 : goal.returns-then-n-eq0
returns-then-n-eq0 t c = no_cells _ _ _ c.if-n-eq0.true

pub put_byte-behind-requires : goal.put_byte-behind-requires
put_byte-behind-requires t c =
    omega (
      arith,
      c.put_signed-next.ensures.behind,
      signed_length c.cell_at.result,
      c.put_signed-next.auto.out,
      c.if-n-eq0.false,
      c.requires.n_in_bounds,
    )

pub put_cells-requires : goal.put_cells-requires
put_cells-requires t c = (
  omega (arith, c.if-n-eq0.false, c.decreases),
  (
    omega (arith, c.if-n-eq0.false, c.requires.n_bound),
    omega (
      arith,
      c.put_byte-behind.ensures.behind,
      c.put_signed-next.ensures.behind,
      signed_length c.cell_at.result,
      c.put_signed-next.auto.out,
      c.put_byte-behind.auto.out,
      c.if-n-eq0.false,
      c.requires.n_in_bounds,
    ),
  ),
)

pub returns : goal.returns
returns t c =
    more_cells _ _ _ c.if-n-eq0.false c.requires.n_in_bounds c.cell_at.ensures c.separator.ensures c.put_signed-next.ensures
    c.put_byte-behind.ensures c.put_cells.ensures

use native.Mathlib.Omega.{arith}
use Rattle.text.proofs.Pieces.{ok_end, ok_more}
use Rattle.text.proofs.ok_text.Goals as goal

pub put_records-requires : goal.put_records-requires
put_records-requires c =
    record { n_in_bounds = c.requires.n_in_bounds; n_in_bounds_2 = omega (arith, ok_end _ c.put_ok-end.ensures, c.put_ok-end.auto.out, c.requires.n_in_bounds_2) }

pub returns : goal.returns
returns c =
    ok_more c.args.n c.put_ok-end.ensures c.put_records.ensures (omega (arith, c.requires.n_in_bounds_2))

use native.Mathlib.Omega.{arith}
use Rattle.text.proofs.Pieces.{ok_put, digits_end}
use Rattle.text.proofs.put_ok.Goals as goal

pub put_byte-requires : goal.put_byte-requires
put_byte-requires c =
    omega (arith, digits_end _ _ c.put_digits-end.ensures, c.put_digits-end.auto.out, c.put_bytes-number.ensures.behind, c.put_bytes-number.auto.out, c.requires)

pub returns : goal.returns
returns c =
    ok_put _ c.requires c.put_bytes-number.ensures c.put_digits-end.ensures c.put_byte.ensures

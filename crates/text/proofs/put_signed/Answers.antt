use native.Mathlib.Omega.{arith}
use Rattle.text.proofs.Pieces.{plain_cell, minus_cell}
use Rattle.text.proofs.put_signed.Goals as goal

pub returns-then-v-lt9223372036854775808 : goal.returns-then-v-lt9223372036854775808
returns-then-v-lt9223372036854775808 c =
    plain_cell _ c.if-v-lt9223372036854775808.true c.put_digits.ensures

pub returns : goal.returns
returns c =
    minus_cell c.args.v _ c.if-v-lt9223372036854775808.false (omega (arith, c.if-v-lt9223372036854775808.false, c.ranges.v)) c.requires
    c.put_byte-next.ensures c.put_digits-2.ensures

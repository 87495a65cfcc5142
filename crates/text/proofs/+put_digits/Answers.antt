use native.Mathlib.Omega.{arith}
use Prim.Native.Nat.{◌-◌, ◌/◌}
use Rattle.text.proofs.Pieces.{no_digits, one_digit, more_digits, digits_length}
use Rattle.text.proofs.+put_digits.Goals as goal

pub returns-then-most-eq0 : goal.returns-then-most-eq0
returns-then-most-eq0 t c = no_digits _ _ c.if-most-eq0.true

pub returns-then-n-lt10 : goal.returns-then-n-lt10
returns-then-n-lt10 t c = one_digit _ _ c.if-most-eq0.false c.if-n-lt10.true c.digit.ensures c.put_byte.ensures

pub put_byte-requires-2 : goal.put_byte-requires-2
put_byte-requires-2 t c =
    omega (
      arith,
      c.put_digits-next.ensures.behind,
      digits_length (c.args.most - 1) (c.args.n / 10),
      c.put_digits-next.auto.out,
      c.if-most-eq0.false,
      c.requires,
    )

pub returns : goal.returns
returns t c =
    more_digits _ _ c.if-most-eq0.false c.if-n-lt10.false c.digit-2.ensures c.requires c.put_digits-next.ensures
    c.put_byte-2.ensures

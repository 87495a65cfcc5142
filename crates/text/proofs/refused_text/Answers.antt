use Prim.Native.Nat.{◌≤◌}
use native.Mathlib.Omega.{arith}
use lib.ListN.{length}
use Rattle.text.proofs.Pieces.{refused_put, digits_end}
use Rattle.text.proofs.refused_text.Goals.{After-put_digits-blank, After-put_digits-end, After-put_byte-second}
use Rattle.text.proofs.refused_text.Goals as goal

-- how far the text is behind each piece, and that the bytes are as many as they were
number_end : (c : After-put_digits-blank) → (c.put_digits-blank.result ≤ 28) × (50 ≤ length c.put_digits-blank.new.out)
number_end c = (
  omega (arith, digits_end _ _ c.put_digits-blank.ensures, c.put_bytes-number.ensures.behind),
  omega (arith, c.put_digits-blank.auto.out, c.put_bytes-number.auto.out, c.requires),
)

blank_end : (c : After-put_byte-second) → (c.put_digits-blank.result ≤ 28) × (50 ≤ length c.put_digits-blank.new.out) →
    (c.put_byte-second.result ≤ 29) × (50 ≤ length c.put_byte-second.new.out)
blank_end c e = (omega (arith, c.put_byte-second.ensures.behind, e.0), omega (arith, c.put_byte-second.auto.out, e.1))

place_end : (c : After-put_digits-end) → (c.put_byte-second.result ≤ 29) × (50 ≤ length c.put_byte-second.new.out) →
    (c.put_digits-end.result ≤ 49) × (50 ≤ length c.put_digits-end.new.out)
place_end c e = (omega (arith, digits_end _ _ c.put_digits-end.ensures, e.0), omega (arith, c.put_digits-end.auto.out, e.1))

pub put_byte-second-requires : goal.put_byte-second-requires
put_byte-second-requires c =
    let e = number_end (goal.at.put_byte-second-requires c).After-put_digits-blank in
    omega (arith, e.0, e.1)

pub put_digits-end-requires : goal.put_digits-end-requires
put_digits-end-requires c =
    let e =
    blank_end (goal.at.put_digits-end-requires c).After-put_byte-second
    (number_end (goal.at.put_digits-end-requires c).After-put_digits-blank) in
    omega (arith, e.0, e.1)

pub put_byte-requires : goal.put_byte-requires
put_byte-requires c =
    let e =
    place_end (goal.at.put_byte-requires c).After-put_digits-end
    (blank_end (goal.at.put_byte-requires c).After-put_byte-second (number_end (goal.at.put_byte-requires c).After-put_digits-blank)) in
    omega (arith, e.0, e.1)

pub returns : goal.returns
returns c =
    refused_put _ _ c.requires c.put_bytes-number.ensures c.put_digits-blank.ensures c.put_byte-second.ensures
    c.put_digits-end.ensures c.put_byte.ensures

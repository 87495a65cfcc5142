use Rattle.std.proofs.Common.{arith, ◌≡◌, ℕ, ◌+◌, ap, get_or}
use Rattle.std.proofs.Math.Facts.{Fits-lt-pow}
use Rattle.cells.specs.Cells.{word, half}
use Rattle.cells.proofs.word_at.Goals as goal

pub returns : goal.returns
unfolding word half
returns c =
    let at = c.args.at in
    let byte = c.type_inv.s in
    let upper : (i : ℕ) → get_or c.args.s.now (at + 4 + i) 0 ≡ get_or c.args.s.now (at + (4 + i)) 0 = λ i. ap (λ k. get_or c.args.s.now k 0) (omega arith) in
    omega (
      arith,
      c.from_le_bytes.ensures,
      upper 1,
      upper 2,
      upper 3,
      Fits-lt-pow (byte at),
      Fits-lt-pow (byte (at + 1)),
      Fits-lt-pow (byte (at + 2)),
      Fits-lt-pow (byte (at + 3)),
      Fits-lt-pow (byte (at + 4)),
      Fits-lt-pow (byte (at + 5)),
      Fits-lt-pow (byte (at + 6)),
      Fits-lt-pow (byte (at + 7)),
    )

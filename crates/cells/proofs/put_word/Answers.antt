use Rattle.std.proofs.Common.{arith}
use Rattle.cells.specs.Cells.{bytes_of}
use Rattle.cells.proofs.Bytes.{bytes_of_length, part_written}
use Rattle.cells.proofs.put_word.Goals as goal

pub returns : goal.returns
unfolding bytes_of
returns c =
    rw c.copy_from_slice.ensures.after (rw c.to_le_bytes.ensures (part_written _ _ _ (bytes_of c.args.v) (omega (arith, bytes_of_length c.args.v))))

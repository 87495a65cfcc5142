use Rattle.text.proofs.Pieces.{front_put}
use Rattle.text.proofs.put_bytes.Goals as goal

pub returns : goal.returns
returns c = rw c.copy_from_slice.ensures.after (front_put c.args.out.now c.args.bytes.now)

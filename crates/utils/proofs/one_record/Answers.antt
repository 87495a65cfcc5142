use mathlib.Core.Path.{refl}
use Rattle.x86.proofs.Lists.{first, done, puts}
use Rattle.utils.proofs.one_record.Goals as goal

pub returns-then-write : goal.returns-then-write
returns-then-write c =
    record {
      says = refl;
      bytes = rw c.if-write.true (puts (first c.put_instruction.ensures done) (c.requires.room c.if-write.true));
    }

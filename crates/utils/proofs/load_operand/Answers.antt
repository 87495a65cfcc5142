use mathlib.Core.Path.{◌∙◌}
use Rattle.utils.proofs.Sources.{own_found, load_looked}
use Rattle.utils.proofs.Made.{told, exit_is, has_room, makes, counts, refuses}
use Rattle.x86.proofs.Lists.{first, done, puts}
use Rattle.utils.proofs.load_operand.Goals as goal

pub returns-in_err-src : goal.returns-in_err-src
returns-in_err-src c = rw (exit_is c.from_residual.ensures.1) (refuses _ (load_looked _ _ _) (told c.source.ensures c.in_err-src.was))

pub returns-then-write : goal.returns-then-write
returns-then-write c =
    let source = told c.source.ensures c.in_ok-src.was in
    let write = c.if-write.true in
    let size = c.own_size.ensures ∙ own_found _ _ source in
    makes _ (load_looked _ _ _) source write
    (rw size at (puts (first c.put_load.ensures done) (has_room _ (load_looked _ _ _) source c.requires write)))

pub returns-else-write : goal.returns-else-write
returns-else-write c = counts _ (load_looked _ _ _) (told c.source.ensures c.in_ok-src.was) c.if-write.false

use Rattle.utils.proofs.Made.{told, exit_is, has_room, makes, counts, no_list}
use Rattle.arithmetic.proofs.Looked.{sign_looked, unary_looked, refused_unary}
use Rattle.arithmetic.proofs.generate_unary.Goals as goal

pub returns-in_err-changed : goal.returns-in_err-changed
returns-in_err-changed c = rw (exit_is c.from_residual.ensures.1) (no_list (refused_unary _ _ _ _ (told c.look_unary.ensures c.in_err-changed.was)))

pub put_sign-requires : goal.put_sign-requires
put_sign-requires c =
    has_room _ (sign_looked _ _ _ _ (rw c.dest.ensures at c.flips_sign.ensures) c.if-flips_sign.true) (told c.look_unary.ensures c.in_ok-changed.was)
    c.requires c.if-write.true

pub returns-then-write : goal.returns-then-write
returns-then-write c =
    makes _ (sign_looked _ _ _ _ (rw c.dest.ensures at c.flips_sign.ensures) c.if-flips_sign.true) (told c.look_unary.ensures c.in_ok-changed.was)
    c.if-write.true c.put_sign.ensures

pub returns-else-write : goal.returns-else-write
returns-else-write c =
    counts _ (sign_looked _ _ _ _ (rw c.dest.ensures at c.flips_sign.ensures) c.if-flips_sign.true) (told c.look_unary.ensures c.in_ok-changed.was)
    c.if-write.false

pub put_changed-requires : goal.put_changed-requires
put_changed-requires c =
    has_room _ (unary_looked _ _ _ _ (rw c.dest.ensures at c.flips_sign.ensures) c.if-flips_sign.false) (told c.look_unary.ensures c.in_ok-changed.was)
    c.requires c.if-write-2.true

pub returns-then-write-2 : goal.returns-then-write-2
returns-then-write-2 c =
    makes _ (unary_looked _ _ _ _ (rw c.dest.ensures at c.flips_sign.ensures) c.if-flips_sign.false) (told c.look_unary.ensures c.in_ok-changed.was)
    c.if-write-2.true c.put_changed.ensures

pub returns-else-write-2 : goal.returns-else-write-2
returns-else-write-2 c =
    counts _ (unary_looked _ _ _ _ (rw c.dest.ensures at c.flips_sign.ensures) c.if-flips_sign.false) (told c.look_unary.ensures c.in_ok-changed.was)
    c.if-write-2.false

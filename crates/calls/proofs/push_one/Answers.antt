use mathlib.Core.Path.{refl}
use Rattle.utils.proofs.Made.{exit_is}
use Rattle.utils.proofs.Rows.{first_ready, first_stops, second_ready, both_made, always}
use Rattle.calls.proofs.Pushes.{load_push, one_load_lem}
use Rattle.calls.proofs.push_one.Goals as goal

pub load_operand-requires : goal.load_operand-requires
load_operand-requires c = first_ready c.args.out.now (load_push _ _ _) c.requires.ready

pub returns-in_err-load_operand : goal.returns-in_err-load_operand
returns-in_err-load_operand c = rw (exit_is c.from_residual.ensures.1) (first_stops (load_push _ _ _) c.requires.ready c.in_err-load_operand.ensures)

pub one_record-requires : goal.one_record-requires
one_record-requires c = rw c.mov-push.ensures (second_ready (load_push _ _ _) c.requires.ready (one_load_lem _ _ c.in_ok-load_operand.ensures) refl)

pub returns : goal.returns
returns c =
    both_made (load_push _ _ _) c.requires.ready (one_load_lem _ _ c.in_ok-load_operand.ensures) refl (always (rw c.mov-push.ensures at c.one_record.ensures))

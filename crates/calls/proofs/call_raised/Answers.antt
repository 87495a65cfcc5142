use mathlib.Core.Path.{refl}
use Rattle.utils.proofs.Rows.{both_made, always}
use Rattle.calls.proofs.Calling.{raised_parts}
use Rattle.calls.proofs.call_raised.Goals as goal

pub returns : goal.returns
returns c = both_made (raised_parts c.args.symbol c.args.k) c.requires.ready (always c.one_record.ensures) refl c.in_ok-raised.ensures

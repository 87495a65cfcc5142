use Rattle.std.proofs.Common.{rules, sym}
use Rattle.totals.proofs.Walks.{good_totals, bad_pack_lem}
use Rattle.totals.proofs.pack_totals.Goals as goal

pub returns-in_err-pack_check : goal.returns-in_err-pack_check
returns-in_err-pack_check c = search (rules, bad_pack_lem)

pub walk-requires : goal.walk-requires
walk-requires c = record { end = _; is = sym c.in_ok-pack_check.ensures }

pub returns : goal.returns
returns c = good_totals _ _ (record { end = _; is = sym c.in_ok-pack_check.ensures }) c.walk.ensures

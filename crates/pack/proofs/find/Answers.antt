use Rattle.std.proofs.Common.{rules, sym}
use Rattle.pack.proofs.LookUps.{count_there, pair_there, found_pair, no_entry_lem, bad_pack_lem}
use Rattle.pack.proofs.find.Goals as goal

pub returns-in_err-pack_check : goal.returns-in_err-pack_check
returns-in_err-pack_check c = search (rules, bad_pack_lem)

pub cell_at-requires : goal.cell_at-requires
cell_at-requires c = count_there _ (sym c.in_ok-pack_check.ensures)

pub returns-then-cell_at-number : goal.returns-then-cell_at-number
returns-then-cell_at-number c = no_entry_lem _ (sym c.in_ok-pack_check.ensures) _ c.cell_at.ensures c.if-cell_at-number.true

pub pair_at-requires : goal.pair_at-requires
pair_at-requires c = pair_there _ (sym c.in_ok-pack_check.ensures) _ c.cell_at.ensures c.if-cell_at-number.false

pub returns : goal.returns
returns c = found_pair _ (sym c.in_ok-pack_check.ensures) _ c.cell_at.ensures c.if-cell_at-number.false c.pair_at.ensures

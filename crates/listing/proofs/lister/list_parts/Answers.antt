use Rattle.std.proofs.Common.{sym, ap, ◌∙◌, rules, arith, length-append}
use Rattle.cells.specs.Outcomes.{outcome}
use Rattle.cells.specs.Refusals.{number_of_refusal}
use Rattle.text.proofs.Pieces.{ok_length, refused_length, whole}
use Rattle.listing.proofs.Listing.{accepted_lists, refused_lists, left}
use Rattle.listing.proofs.lister.list_parts.Goals as goal

-- where the lowering accepts, it has left a list of n records
pub ok_text-requires : goal.ok_text-requires
ok_text-requires c =
    let l = accepted_lists c.args.tables.now c.args.sheet.now c.args.records.now (omega (arith, c.well_formed)) (omega (arith, c.generate.auto.out))
    (ap outcome (sym c.in-Ok.is) ∙ c.generate.ensures.answer) c.generate.ensures.bytes in
    record { n_in_bounds = l.there; n_in_bounds_2 = omega (arith, l.room, c.well_formed) }

pub returns-in-Ok : goal.returns-in-Ok
returns-in-Ok c =
    let l = accepted_lists c.args.tables.now c.args.sheet.now c.args.records.now (omega (arith, c.well_formed)) (omega (arith, c.generate.auto.out))
    (ap outcome (sym c.in-Ok.is) ∙ c.generate.ensures.answer) c.generate.ensures.bytes in
    let text = whole _ c.ok_text.ensures l.text (simp length-append (omega (arith, ok_length c.in-Ok.n, l.room, c.well_formed))) in
    record {
      records_after = left c.args.tables.now c.args.sheet.now c.args.records.now (omega (arith, c.well_formed)) c.generate.ensures.bytes;
      put = text.0;
      counts = text.1;
    }

pub returns-in-Err : goal.returns-in-Err
returns-in-Err c =
    let line = refused_lists c.args.tables.now c.args.sheet.now c.args.records.now (omega (arith, c.well_formed))
    (ap outcome (sym c.in-Err.is) ∙ c.generate.ensures.answer) in
    let text = whole _ (rw c.from.ensures at c.refused_text.ensures) line (omega (arith, refused_length (number_of_refusal c.in-Err.refused.refusal) c.in-Err.refused.place, c.well_formed)) in
    record {
      records_after = left c.args.tables.now c.args.sheet.now c.args.records.now (omega (arith, c.well_formed)) c.generate.ensures.bytes;
      put = text.0;
      counts = text.1;
    }

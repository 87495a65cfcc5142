use Rattle.std.proofs.Common.{sym, ap, Err, ◌∙◌, rules, arith}
use Rattle.text.proofs.Parts.{parts_fit}
use Rattle.text.proofs.Pieces.{refused_length, whole}
use Rattle.listing.specs.Listing.{listing_records}
use Rattle.listing.proofs.Listing.{too_long, no_tables, parts_text, parts_records_lem}
use Rattle.listing.proofs.lister.list.Goals as goal

-- where the input has parts, they lie in it

pub overflow_mul-end : goal.overflow_mul-end
overflow_mul-end c = omega (arith, parts_fit _ _ (sym c.split.ensures ∙ c.in-Ok.is), c.well_formed)

pub overflow_add-end : goal.overflow_add-end
overflow_add-end c = omega (arith, parts_fit _ _ (sym c.split.ensures ∙ c.in-Ok.is), c.well_formed)

pub slice_bounds-list_parts-end : goal.slice_bounds-list_parts-end
slice_bounds-list_parts-end c = omega (arith, parts_fit _ _ (sym c.split.ensures ∙ c.in-Ok.is))

pub slice_bounds-list_parts-count-in-Ok : goal.slice_bounds-list_parts-count-in-Ok
slice_bounds-list_parts-count-in-Ok c = omega (arith, parts_fit _ _ (sym c.split.ensures ∙ c.in-Ok.is))

pub slice_bounds-list_parts-start-in-Ok : goal.slice_bounds-list_parts-start-in-Ok
slice_bounds-list_parts-start-in-Ok c = omega (arith, parts_fit _ _ (sym c.split.ensures ∙ c.in-Ok.is))

pub returns-in-Err-TooLong : goal.returns-in-Err-TooLong
unfolding listing_records
returns-in-Err-TooLong c =
    let e = sym c.split.ensures ∙ c.in-Err-TooLong.is ∙ ap Err c.in-Err-TooLong.field-0-is in
    let text = whole _ c.too_long_text.ensures (too_long c.args.input.now e) (omega (arith, c.well_formed)) in
    record { records_after = rw e; put = text.0; counts = text.1 }

pub returns-in-Err-NoTables : goal.returns-in-Err-NoTables
unfolding listing_records
returns-in-Err-NoTables c =
    let e = sym c.split.ensures ∙ c.in-Err-NoTables.is ∙ ap Err c.in-Err-NoTables.field-0-is in
    let text = whole _ c.refused_text.ensures (no_tables c.args.input.now e) (omega (arith, refused_length 1 0, c.well_formed)) in
    record { records_after = rw e; put = text.0; counts = text.1 }

pub returns-in-Ok : goal.returns-in-Ok
returns-in-Ok c =
    let e = sym c.split.ensures ∙ c.in-Ok.is in
    let n = c.in-Ok.n in
    record {
      records_after = parts_records_lem c.args.input.now n c.args.records.now e c.list_parts.ensures.records_after;
      put = rw (parts_text c.args.input.now n e) at c.list_parts.ensures.put;
      counts = c.list_parts.ensures.counts;
    }

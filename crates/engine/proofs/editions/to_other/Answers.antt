use mathlib.Core.Path.{refl, sym, ap, ◌∙◌}
use mathlib.Core.List.Memᴰ
use lib.ListN.{length}
use Rattle.cells.proofs.Outcomes.{accepted_numbers, refused_numbers, refused_is}
use Rattle.cells.specs.Outcomes.{outcome}
use Rattle.edition.specs.Editions.{converted}
use Rattle.edition.proofs.Numbers.{refused_by}
use Rattle.engine.proofs.Numbers.{no_conversion}
use Rattle.engine.proofs.editions.to_other.Goals as goal

pub returns-in-Ok : goal.returns-in-Ok
returns-in-Ok c =
    let a = c.args in
    let o = converted a.e a.sheet.now (length a.out.now) in
    let g = c.in-Ok.is in
    let v = accepted_numbers length o (sym (ap outcome g) ∙ c.convert.ensures.answer) in
    record { number = v.0; known = Memᴰ.head refl; place = v.1; bytes = c.convert.ensures.bytes; lent = refl; kept = λ z. rw g at c.convert.ensures.kept; means = λ z. rw g at c.convert.ensures.means }

pub returns-in-Err : goal.returns-in-Err
returns-in-Err c =
    let a = c.args in
    let o = converted a.e a.sheet.now (length a.out.now) in
    let g = c.in-Err.is in
    let e = sym (ap outcome g) ∙ c.convert.ensures.answer in
    let v = refused_numbers length o e in
    let k = refused_by a.e a.sheet.now (length a.out.now) (refused_is length o e) in
    record { number = c.from.ensures ∙ v.0; known = rw c.from.ensures (Memᴰ.tail k); place = v.1; bytes = c.convert.ensures.bytes; lent = refl; kept = λ z. no_conversion k (sym c.from.ensures ∙ z); means = λ z. no_conversion k (sym c.from.ensures ∙ z) }

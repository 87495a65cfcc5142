use Rattle.engine.proofs.Sheets.{turned_away, lowered_there}
use Rattle.engine.proofs.pack_lower.gilthoren_pack_lower.Goals as goal

pub returns-then-refusal-gt0 : goal.returns-then-refusal-gt0
returns-then-refusal-gt0 c =
    let h' = turned_away _ _ _ _ _ _ _ c.sheet-found.ensures.refusal c.sheet-found.ensures.place c.if-refusal-gt0.true in
    record { number = h'.0; known = h'.1.0; place = h'.1.1.0; bytes = h'.1.1.1.0; lent = h'.1.1.1.1.0; demand2 = h'.1.1.1.1.1.0; demand3 = h'.1.1.1.1.1.1 }

pub returns : goal.returns
returns c =
    let h' = lowered_there _ _ _ _ _ _ _ _ c.sheet-found.ensures.refusal c.if-refusal-gt0.false c.sheet-found.ensures.part (c.gilthoren_lower.ensures.number, (c.gilthoren_lower.ensures.known, (c.gilthoren_lower.ensures.place, (c.gilthoren_lower.ensures.bytes, (c.gilthoren_lower.ensures.lent, (c.gilthoren_lower.ensures.demand2, c.gilthoren_lower.ensures.demand3)))))) in
    record { number = h'.0; known = h'.1.0; place = h'.1.1.0; bytes = h'.1.1.1.0; lent = h'.1.1.1.1.0; demand2 = h'.1.1.1.1.1.0; demand3 = h'.1.1.1.1.1.1 }

use Rattle.std.proofs.Common.{◌≡◌, ◌-◌}
use Rattle.edition.specs.Editions.{instrs_ids}
use Rattle.edition.specs.Answers.{looked_up}
use Rattle.edition.specs.Walked.{Present}
use Rattle.edition.proofs.entries.look_up_instrs.Given as goal

abbrev pub invariant-loop : goal.invariant-loop
invariant-loop l =
    (looked_up l.e l.sheet.bytes.now (instrs_ids l.sheet.bytes.now (l.n - l.counter) l.at) ≡ looked_up l.e l.sheet.bytes.now (instrs_ids l.sheet.bytes.now l.n l.k))
    × Present l.sheet.bytes.now (l.n - l.counter) l.at

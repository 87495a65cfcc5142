use Rattle.std.proofs.Common.{◌-◌, ◌*◌, ◌≤◌}
use Rattle.edition.specs.Editions.{instrs_ids, instrs_cells}
use Rattle.edition.specs.Walked.{Present}
use Rattle.edition.proofs.Written.{Writing}
use Rattle.edition.proofs.write.put_instrs.Given as goal

abbrev pub invariant-loop : goal.invariant-loop
invariant-loop l =
    let s = l.sheet.bytes.now in
    Writing s (instrs_ids s) (instrs_cells l.f s) l.n l.k l.counter l.at (8 * (l.at - l.k)) l.out × (l.k ≤ l.at) × Present s (l.n - l.counter) l.at

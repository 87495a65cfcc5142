use Rattle.std.proofs.Common.{◌≡◌, ◌+◌, ◌-◌, ◌*◌}
use Rattle.layout.specs.Layout.{param_width}
use Rattle.edition.specs.Editions.{param_ids}
use Rattle.edition.specs.Answers.{looked_up}
use Rattle.edition.proofs.entries.look_up_params.Given as goal

abbrev pub invariant-loop-i : goal.invariant-loop-i
invariant-loop-i l =
    looked_up l.e l.sheet.bytes.now (param_ids l.e l.sheet.bytes.now (l.n - l.i) (l.k + param_width l.e * l.i))
    ≡ looked_up l.e l.sheet.bytes.now (param_ids l.e l.sheet.bytes.now l.n l.k)

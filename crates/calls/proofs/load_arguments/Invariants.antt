use Rattle.utils.specs.Answers.{held}
use Rattle.calls.proofs.Loads.{Loading}
use Rattle.calls.proofs.load_arguments.Given as goal

abbrev pub invariant-loop-i : goal.invariant-loop-i
invariant-loop-i l =
    Loading l.write (held l.context) l.arguments.sheet.now l.arguments.count l.arguments.from l.at l.initial.out l.i l.taken l.out

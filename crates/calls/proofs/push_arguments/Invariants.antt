use Rattle.utils.specs.Answers.{held}
use Rattle.utils.proofs.Beyond.{Passing}
use Rattle.calls.proofs.Pushes.{pushing}
use Rattle.calls.proofs.push_arguments.Given as goal

abbrev pub invariant-loop-i : goal.invariant-loop-i
invariant-loop-i l =
    Passing (pushing (held l.context) l.arguments.sheet.now) l.write l.arguments.count l.arguments.from l.at l.initial.out l.i l.taken l.out

use Rattle.utils.specs.Answers.{held}
use Rattle.utils.proofs.Beyond.{Passing}
use Rattle.frame.proofs.Copies.{copying}
use Rattle.frame.proofs.copy_params.Given as goal

abbrev pub invariant-loop-i : goal.invariant-loop-i
invariant-loop-i l =
    Passing (copying (held l.context) l.parameters.sheet.now) l.write l.parameters.count l.parameters.from l.at l.initial.out l.i l.taken l.out

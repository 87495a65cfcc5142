use Rattle.utils.specs.Answers.{held}
use Rattle.frame.proofs.Stores.{Storing}
use Rattle.frame.proofs.store_params.Given as goal

abbrev pub invariant-loop-i : goal.invariant-loop-i
invariant-loop-i l =
    Storing l.write (held l.context) l.float l.parameters.sheet.now l.parameters.count l.parameters.from l.at l.initial.out l.i l.k l.out

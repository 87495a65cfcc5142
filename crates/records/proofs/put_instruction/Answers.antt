use mathlib.Core.Path.{◌∙◌, ap}
use native.Mathlib.Omega.{arith}
use lib.ListN.{length}
use Rattle.records.proofs.Written.{none_yet, one_more, all_eight}
use Rattle.records.proofs.put_instruction.Goals as goal

pub loop-k-init : goal.loop-k-init
loop-k-init c = none_yet _ _ c.cells_of-words.result

pub loop-k-preserved : goal.loop-k-preserved
loop-k-preserved c = c.put_word.ensures ∙ rw c.loop-k.invariant (one_more _ _ _ _ (omega (arith, ap length c.cells_of-words.ensures)) (omega arith))

pub returns : goal.returns
returns c = c.loop-k.invariant ∙ all_eight _ _ _ _ _ c.cells_of-words.ensures (omega arith)

use Rattle.std.proofs.Common.{◌≡◌}
use Rattle.records.proofs.Written.{written}
use Rattle.records.proofs.put_instruction.Given as goal

-- the first k cells are written
abbrev pub invariant-loop-k : goal.invariant-loop-k
invariant-loop-k l = l.out ≡ written l.initial.out l.at l.words l.k

use Rattle.layout.proofs.Walk.{has_types, has_params}
use Rattle.plain.proofs.conditions.Goals as goal

pub invariant_of-sheet : goal.invariant_of-sheet
invariant_of-sheet c = record { typed = has_types c.requires.laid }

pub is_plain_head-requires : goal.is_plain_head-requires
is_plain_head-requires c = has_params c.requires.laid

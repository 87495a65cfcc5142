use Rattle.frame.proofs.Stores.{other_kind, no_register_left, has_register}
use Rattle.utils.proofs.Rows.{none_made}
use Rattle.utils.proofs.Made.{ready_as, makes_as}
use Rattle.frame.proofs.store_param.Goals as goal
use Rattle.frame.proofs.store_param.Goals.{then-is_float-float-via-then-is_float-float, then-is_float-float-via-else-is_float-float+then-registers-k}

pub returns-then-is_float-float : goal.returns-then-is_float-float
returns-then-is_float-float c =
    none_made
    (elim c.then-is_float-float.branch [
      | then-is_float-float-via-then-is_float-float w ↦ other_kind _ _ _ _ c.is_float.ensures w.if-is_float-float.true
      | then-is_float-float-via-else-is_float-float+then-registers-k w ↦
          no_register_left _ _ _ _ c.is_float.ensures w.if-is_float-float.false w.registers.ensures w.if-registers-k.true
    ])

pub store_one-requires-clause-ready : goal.store_one-requires-clause-ready
store_one-requires-clause-ready c = ready_as (has_register _ _ _ _ c.is_float.ensures c.if-is_float-float.false c.registers.ensures c.if-registers-k.false) c.requires

pub returns : goal.returns
returns c = makes_as (has_register _ _ _ _ c.is_float.ensures c.if-is_float-float.false c.registers.ensures c.if-registers-k.false) c.store_one.ensures

use native.Mathlib.Omega.{arith}
use mathlib.Core.Path.{ap, ◌∙◌}
use Rattle.ir.specs.Types.{offset_behind}
use Rattle.frame.proofs.Offsets.{begins, next_there, turn_on, sizes_are, offsets_are}
use Rattle.frame.proofs.var_offsets.Goals as goal

pub loop-i-init : goal.loop-i-init
loop-i-init c = begins _ _ _ _ c.requires.from_value

pub overflow_add-from : goal.overflow_add-from
overflow_add-from c = omega (arith, next_there _ _ _ _ c.loop-i.invariant c.loop-i-test.true)

pub type_at-ty-requires : goal.type_at-ty-requires
type_at-ty-requires c = next_there _ _ _ _ c.loop-i.invariant c.loop-i-test.true

pub loop-i-preserved : goal.loop-i-preserved
loop-i-preserved c =
    let on = turn_on _ _ _ _ c.loop-i.invariant c.loop-i-test.true (c.offset_behind-end.ensures ∙ ap (offset_behind _) c.type_at-ty.ensures) (omega arith) in
    rw (c.element_width.ensures.0, c.type_at-ty.ensures) on

pub returns-then-widths : goal.returns-then-widths
returns-then-widths c =
    let inv = c.loop-i.invariant in
    record { value = rw c.if-widths.true at (sizes_are _ _ _ _ inv c.loop-i-test.false); offsets_after = offsets_are _ _ _ _ inv c.loop-i-test.false }

pub returns-else-widths : goal.returns-else-widths
returns-else-widths c =
    let inv = c.loop-i.invariant in
    record { value = rw c.if-widths.false at (sizes_are _ _ _ _ inv c.loop-i-test.false); offsets_after = offsets_are _ _ _ _ inv c.loop-i-test.false }

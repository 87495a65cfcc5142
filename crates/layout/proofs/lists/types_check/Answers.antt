use Rattle.std.proofs.Common.{rules, refl, sym, arith, lit≤}
use Rattle.cells.proofs.Turns.{goes_on, stops, ends}
use Rattle.layout.specs.Layout.{types_check}
use Rattle.layout.proofs.Laws.{type_right}
use Rattle.layout.proofs.lists.types_check.Goals as goal

pub loop-init : goal.loop-init
loop-init c = record { turns = record { is = search rules }; small = lit≤ tt }

pub returns-in_err-next : goal.returns-in_err-next
unfolding types_check
returns-in_err-next c = stops _ _ c.loop.invariant.turns c.loop-test.true (search rules)

pub type_at-requires : goal.type_at-requires
type_at-requires c = (type_right _ c.loop.here (sym c.in_ok-next.ensures)).1

pub offset_behind-end-requires : goal.offset_behind-end-requires
offset_behind-end-requires c = c.loop.invariant.small

pub overflow_add-here : goal.overflow_add-here
overflow_add-here c = omega (arith, (type_right _ c.loop.here (sym c.in_ok-next.ensures)).1)

pub returns-then-end-gt-MOST_COUNT : goal.returns-then-end-gt-MOST_COUNT
unfolding types_check
returns-then-end-gt-MOST_COUNT c = stops _ _ c.loop.invariant.turns c.loop-test.true (search rules)

pub loop-preserved : goal.loop-preserved
unfolding types_check
loop-preserved c =
    record { turns = goes_on _ _ c.loop.invariant.turns _ c.loop-test.true (search rules); small = c.if-end-gt-MOST_COUNT.false }

pub returns : goal.returns
unfolding types_check
returns c = ends _ _ c.loop.invariant.turns c.loop-test.false refl

use native.Mathlib.Omega.{arith}
use Rattle.ir.specs.Types.{ok}
use Rattle.ir.proofs.Rest.{comment_instr}
use Rattle.codegen.specs.Generation.{generate_instr}
use Rattle.utils.proofs.Made.{ready_as, makes_as, begins, finishes}
use mathlib.Core.Path.{refl}
use mathlib.Core.List.{[]}
use Rattle.body.proofs.Lines.{by_kind, no_record_lem, arguments, inside}
use Rattle.body.proofs.instruction.generate_instruction.Goals as goal

pub generate_copy-requires : goal.generate_copy-requires
unfolding generate_instr
generate_copy-requires c = ready_as (by_kind _ _ _ _ _ c.kind.ensures c.in-0.is) c.requires.ready

pub generate_unary-requires : goal.generate_unary-requires
unfolding generate_instr
generate_unary-requires c = rw (c.from.ensures, c.operation-op.ensures) (ready_as (by_kind _ _ _ _ _ c.kind.ensures c.in-1.is) c.requires.ready)

pub generate_binary-requires : goal.generate_binary-requires
unfolding generate_instr
generate_binary-requires c = rw (c.from-in-2.ensures, c.operation-op.ensures) (ready_as (by_kind _ _ _ _ _ c.kind.ensures c.in-2.is) c.requires.ready)

pub generate_cast-requires : goal.generate_cast-requires
unfolding generate_instr
generate_cast-requires c = ready_as (by_kind _ _ _ _ _ c.kind.ensures c.in-3.is) c.requires.ready

pub generate_zero-requires : goal.generate_zero-requires
unfolding generate_instr
generate_zero-requires c = ready_as (by_kind _ _ _ _ _ c.kind.ensures c.in-4.is) c.requires.ready

pub invariant_of-arguments : goal.invariant_of-arguments
invariant_of-arguments c =
    let q = c.kind.ensures in
    let k = c.in-5.is in
    let n = c.cell_at.ensures in
    let l = arguments _ _ q k in
    record { present = inside _ _ q k n c.requires.present; few = omega (arith, l, n, c.requires.few) }

pub generate_call-requires-clause-ready : goal.generate_call-requires-clause-ready
unfolding generate_instr
generate_call-requires-clause-ready c =
    let r = ready_as (by_kind _ _ _ _ _ c.kind.ensures c.in-5.is) c.requires.ready in
    rw (c.dest_at-dest.ensures, c.cell_at-symbol.ensures, c.cell_at.ensures, ← arguments _ _ c.kind.ensures c.in-5.is) r

pub generate_label-requires : goal.generate_label-requires
unfolding generate_instr
generate_label-requires c = rw (c.operation-op.ensures) (ready_as (by_kind _ _ _ _ _ c.kind.ensures c.in-6.is) c.requires.ready)

pub generate_jump-requires : goal.generate_jump-requires
unfolding generate_instr
generate_jump-requires c = rw (c.operation-op.ensures) (ready_as (by_kind _ _ _ _ _ c.kind.ensures c.in-7.is) c.requires.ready)

pub generate_jmp_if_not-requires : goal.generate_jmp_if_not-requires
unfolding generate_instr
generate_jmp_if_not-requires c = ready_as (by_kind _ _ _ _ _ c.kind.ensures c.in-8.is) c.requires.ready

pub generate_return-requires : goal.generate_return-requires
unfolding generate_instr
generate_return-requires c = ready_as (by_kind _ _ _ _ _ c.kind.ensures c.in-9.is) c.requires.ready

pub returns-in-0 : goal.returns-in-0
unfolding generate_instr
returns-in-0 c = makes_as (by_kind _ _ _ _ _ c.kind.ensures c.in-0.is) c.generate_copy.ensures

pub returns-in-1 : goal.returns-in-1
unfolding generate_instr
returns-in-1 c = makes_as (by_kind _ _ _ _ _ c.kind.ensures c.in-1.is) (rw (c.from.ensures, c.operation-op.ensures) at c.generate_unary.ensures)

pub returns-in-2 : goal.returns-in-2
unfolding generate_instr
returns-in-2 c = makes_as (by_kind _ _ _ _ _ c.kind.ensures c.in-2.is) (rw (c.from-in-2.ensures, c.operation-op.ensures) at c.generate_binary.ensures)

pub returns-in-3 : goal.returns-in-3
unfolding generate_instr
returns-in-3 c = makes_as (by_kind _ _ _ _ _ c.kind.ensures c.in-3.is) c.generate_cast.ensures

pub returns-in-4 : goal.returns-in-4
unfolding generate_instr
returns-in-4 c = makes_as (by_kind _ _ _ _ _ c.kind.ensures c.in-4.is) c.generate_zero.ensures

pub returns-in-5 : goal.returns-in-5
unfolding generate_instr
returns-in-5 c = makes_as (by_kind _ _ _ _ _ c.kind.ensures c.in-5.is) (rw (c.dest_at-dest.ensures, c.cell_at-symbol.ensures, c.cell_at.ensures, ← arguments _ _ c.kind.ensures c.in-5.is) at c.generate_call.ensures)

pub returns-in-6 : goal.returns-in-6
unfolding generate_instr
returns-in-6 c = makes_as (by_kind _ _ _ _ _ c.kind.ensures c.in-6.is) (rw (c.operation-op.ensures) at c.generate_label.ensures)

pub returns-in-7 : goal.returns-in-7
unfolding generate_instr
returns-in-7 c = makes_as (by_kind _ _ _ _ _ c.kind.ensures c.in-7.is) (rw (c.operation-op.ensures) at c.generate_jump.ensures)

pub returns-in-8 : goal.returns-in-8
unfolding generate_instr
returns-in-8 c = makes_as (by_kind _ _ _ _ _ c.kind.ensures c.in-8.is) c.generate_jmp_if_not.ensures

pub returns-in-9 : goal.returns-in-9
unfolding generate_instr
returns-in-9 c = makes_as (by_kind _ _ _ _ _ c.kind.ensures c.in-9.is) c.generate_return.ensures

pub returns-in_default : goal.returns-in_default
returns-in_default c =
    let e = no_record_lem _ _ _ _ _ c.kind.ensures (comment_instr _ _ _ (omega arith)) in
    makes_as e (finishes (begins _ (ok []) (ok []) _ _ refl) (ready_as e c.requires.ready) refl)

use Rattle.std.proofs.Common.{sym, ◌∙◌, arith}
use Rattle.layout.proofs.Walk.{has_params}
use Rattle.plain.proofs.Counting.{line_there, room_left}
use Rattle.plain.proofs.Faults.{none_tested, label_small, one_tested, fault_found, all_tested}
use Rattle.plain.proofs.body.first_fault.Goals as goal

pub body_from-cell-requires : goal.body_from-cell-requires
body_from-cell-requires c = has_params c.requires.laid

pub loop-k-init : goal.loop-k-init
loop-k-init c = rw c.body_from-cell.ensures (none_tested c.requires.laid c.requires.n_bound c.requires.named)

pub instr_at-instr-requires : goal.instr_at-instr-requires
instr_at-instr-requires c = (line_there c.loop-k.invariant.walked (omega (arith, c.requires.n_bound))).0

pub is_plain_instr-requires : goal.is_plain_instr-requires
is_plain_instr-requires c =
    record { counts = c.requires.counts; instr_bound = rw c.instr_at-instr.ensures (label_small c.loop-k.invariant (omega arith)) }

pub returns-then-not-is_plain_instr : goal.returns-then-not-is_plain_instr
returns-then-not-is_plain_instr c =
    let g = c.loop-k.invariant in
    let e = rw c.instr_at-instr.ensures at (c.is_plain_instr.ensures g.before g.walked.counted) in
    fault_found g (omega arith) (sym e ∙ c.if-not-is_plain_instr.true)

pub count_label-requires : goal.count_label-requires
count_label-requires c = room_left c.loop-k.invariant.walked (omega (arith, c.requires.n_bound)) c.requires.laid

pub behind-cell-requires : goal.behind-cell-requires
behind-cell-requires c = (line_there c.loop-k.invariant.walked (omega (arith, c.requires.n_bound))).1

pub loop-k-preserved : goal.loop-k-preserved
loop-k-preserved c =
    let g = c.loop-k.invariant in
    let e = rw c.instr_at-instr.ensures at (c.is_plain_instr.ensures g.before g.walked.counted) in
    rw (c.behind-cell.ensures, c.count_label.ensures, c.instr_at-instr.ensures)
    (one_tested g (omega arith) c.requires.n_bound (sym e ∙ c.if-not-is_plain_instr.false))

pub returns : goal.returns
returns c = all_tested c.loop-k.invariant (omega arith)

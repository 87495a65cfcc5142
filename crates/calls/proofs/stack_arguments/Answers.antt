use mathlib.Core.Path.{refl}
use native.Mathlib.Omega.{arith}
use Rattle.utils.proofs.Made.{exit_is}
use Rattle.utils.proofs.Rows.{first_ready, second_ready, second_stops, both_made, few_made, none_made}
use Rattle.calls.proofs.Calling.{stack_parts, none_stacked, one_moved, excess_count, few_pushes}
use Rattle.calls.proofs.stack_arguments.Goals as goal

pub returns-then-k-eq0 : goal.returns-then-k-eq0
returns-then-k-eq0 c = none_made (none_stacked _ _ c.requires.k_value c.if-k-eq0.true)

pub move_stack-requires : goal.move_stack-requires
move_stack-requires c =
    record {
      k_bound = omega (arith, excess_count _ _ _ c.requires.k_value);
      ready = first_ready c.args.out.now (stack_parts _ _ c.requires.k_value) c.requires.ready;
    }

pub push_arguments-requires-clause-ready : goal.push_arguments-requires-clause-ready
push_arguments-requires-clause-ready c =
    second_ready (stack_parts _ _ c.requires.k_value) c.requires.ready (one_moved _ c.args.k c.if-k-eq0.false c.move_stack.ensures) refl

pub returns-in_err-pushes : goal.returns-in_err-pushes
returns-in_err-pushes c =
    rw (exit_is c.from_residual-in_err-pushes.ensures.1)
    (second_stops (stack_parts _ _ c.requires.k_value) c.requires.ready (one_moved _ c.args.k c.if-k-eq0.false c.move_stack.ensures) c.in_err-pushes.ensures)

pub overflow_add-result : goal.overflow_add-result
overflow_add-result c = omega (arith, few_made (few_pushes _ _ _ _) c.in_ok-pushes.ensures)

pub returns : goal.returns
returns c =
    both_made (stack_parts _ _ c.requires.k_value) c.requires.ready (one_moved _ c.args.k c.if-k-eq0.false c.move_stack.ensures) refl c.in_ok-pushes.ensures

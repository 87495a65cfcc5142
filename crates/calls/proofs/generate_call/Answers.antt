use native.Mathlib.Omega.{arith}
use Rattle.utils.proofs.Made.{exit_is}
use Rattle.utils.proofs.Rows.{few_made}
use Rattle.calls.proofs.Calling.{excess_count, few_stacked, few_loads, few_called, stack_ready, stack_stops, loads_ready, loads_stop, call_ready, call_stops, all_made}
use Rattle.calls.proofs.generate_call.Goals as goal

pub stack_arguments-requires-clause-ready : goal.stack_arguments-requires-clause-ready
stack_arguments-requires-clause-ready c = stack_ready _ _ _ _ c.args.out.now c.count_excess-k.ensures c.requires.ready

pub returns-in_err-pushes : goal.returns-in_err-pushes
returns-in_err-pushes c =
    rw (exit_is c.from_residual.ensures.1) (stack_stops _ _ _ _ c.args.out.now c.count_excess-k.ensures c.requires.ready c.in_err-pushes.ensures)

pub overflow_mul-place : goal.overflow_mul-place
overflow_mul-place c = omega (arith, few_made (few_stacked _ _ _ _) c.in_ok-pushes.ensures)

pub overflow_add-place : goal.overflow_add-place
overflow_add-place c = omega (arith, few_made (few_stacked _ _ _ _) c.in_ok-pushes.ensures)

pub load_arguments-requires : goal.load_arguments-requires
load_arguments-requires c =
    record {
      at_bound = omega (arith, few_made (few_stacked _ _ _ _) c.in_ok-pushes.ensures);
      ready = loads_ready _ _ _ _ c.args.out.now c.count_excess-k.ensures c.requires.ready c.in_ok-pushes.ensures;
    }

pub returns-in_err-loads : goal.returns-in_err-loads
returns-in_err-loads c =
    rw (exit_is c.from_residual-in_err-loads.ensures.1)
    (loads_stop _ _ _ _ c.args.out.now c.count_excess-k.ensures c.requires.ready c.in_ok-pushes.ensures c.in_err-loads.ensures)

pub overflow_mul-end : goal.overflow_mul-end
overflow_mul-end c = omega (arith, few_made (few_loads _ _ _ _) c.in_ok-loads.ensures)

pub overflow_add-end : goal.overflow_add-end
overflow_add-end c = omega (arith, few_made (few_stacked _ _ _ _) c.in_ok-pushes.ensures, few_made (few_loads _ _ _ _) c.in_ok-loads.ensures)

pub call_symbol-requires : goal.call_symbol-requires
call_symbol-requires c =
    record {
      k_bound = omega (arith, excess_count _ _ _ c.count_excess-k.ensures);
      at_bound = omega (arith, few_made (few_stacked _ _ _ _) c.in_ok-pushes.ensures, few_made (few_loads _ _ _ _) c.in_ok-loads.ensures);
      ready = call_ready _ _ _ _ c.args.out.now c.count_excess-k.ensures c.requires.ready c.in_ok-pushes.ensures c.in_ok-loads.ensures;
    }

pub returns-in_err-rest : goal.returns-in_err-rest
returns-in_err-rest c =
    rw (exit_is c.from_residual-in_err-rest.ensures.1)
    (call_stops _ _ _ _ c.args.out.now c.count_excess-k.ensures c.requires.ready c.in_ok-pushes.ensures c.in_ok-loads.ensures c.in_err-rest.ensures)

pub overflow_add-result : goal.overflow_add-result
overflow_add-result c = omega (arith, few_made (few_stacked _ _ _ _) c.in_ok-pushes.ensures, few_made (few_loads _ _ _ _) c.in_ok-loads.ensures)

pub overflow_add-result-2 : goal.overflow_add-result-2
overflow_add-result-2 c =
    omega (
      arith,
      few_made (few_stacked _ _ _ _) c.in_ok-pushes.ensures,
      few_made (few_loads _ _ _ _) c.in_ok-loads.ensures,
      few_made (few_called _ _ _ _) c.in_ok-rest.ensures,
    )

pub returns : goal.returns
returns c =
    all_made _ _ _ _ c.args.out.now c.count_excess-k.ensures c.requires.ready c.in_ok-pushes.ensures c.in_ok-loads.ensures c.in_ok-rest.ensures

use mathlib.Core.Path.{refl}
use native.Mathlib.Omega.{arith}
use Rattle.utils.proofs.Made.{exit_is}
use Rattle.utils.proofs.Rows.{first_ready, second_ready, second_stops, both_made, few_made}
use Rattle.calls.proofs.Calling.{symbol_parts, few_raised, few_stored}
use Rattle.calls.proofs.call_symbol.Goals as goal

pub call_raised-requires-clause-ready : goal.call_raised-requires-clause-ready
call_raised-requires-clause-ready c = first_ready c.args.out.now (symbol_parts _ _ _ _) c.requires.ready

pub store_result-requires : goal.store_result-requires
store_result-requires c = second_ready (symbol_parts _ _ _ _) c.requires.ready c.in_ok-call.ensures refl

pub returns-in_err-store : goal.returns-in_err-store
returns-in_err-store c =
    rw (exit_is c.from_residual-in_err-store.ensures.1) (second_stops (symbol_parts _ _ _ _) c.requires.ready c.in_ok-call.ensures c.in_err-store.ensures)

pub overflow_add-result : goal.overflow_add-result
overflow_add-result c =
    omega (arith, few_made (few_raised c.args.symbol c.args.k) c.in_ok-call.ensures, few_made (few_stored _ _) c.in_ok-store.ensures)

pub returns : goal.returns
returns c = both_made (symbol_parts _ _ _ _) c.requires.ready c.in_ok-call.ensures refl c.in_ok-store.ensures

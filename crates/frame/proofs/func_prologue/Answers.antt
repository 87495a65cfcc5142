use native.Mathlib.Omega.{arith}
use Rattle.utils.proofs.Made.{exit_is}
use Rattle.utils.proofs.Rows.{few_made}
use Rattle.frame.proofs.Prologue.{few_stores, few_copies, enter_ready, words_ready, words_stop, floats_ready, floats_stop, copies_ready, copies_stop, all_made}
use Rattle.frame.proofs.func_prologue.Goals as goal

pub enter-requires : goal.enter-requires
enter-requires c = enter_ready _ _ _ c.args.out.now c.requires.ready

pub store_params-requires-clause-ready : goal.store_params-requires-clause-ready
store_params-requires-clause-ready c = words_ready _ _ _ c.args.out.now c.requires.ready c.enter.ensures

pub returns-in_err-words : goal.returns-in_err-words
returns-in_err-words c =
    rw (exit_is c.from_residual-in_err-words.ensures.1) (words_stop _ _ _ c.args.out.now c.requires.ready c.enter.ensures c.in_err-words.ensures)

pub overflow_mul-place : goal.overflow_mul-place
overflow_mul-place c = omega (arith, few_made (few_stores _ _ _) c.in_ok-words.ensures)

pub overflow_add-place : goal.overflow_add-place
overflow_add-place c = omega (arith, few_made (few_stores _ _ _) c.in_ok-words.ensures)

pub store_params-requires-2 : goal.store_params-requires-2
store_params-requires-2 c =
    record {
      at_bound = omega (arith, few_made (few_stores _ _ _) c.in_ok-words.ensures);
      ready = floats_ready _ _ _ c.args.out.now c.requires.ready c.enter.ensures c.in_ok-words.ensures;
    }

pub returns-in_err-floats : goal.returns-in_err-floats
returns-in_err-floats c =
    rw (exit_is c.from_residual-in_err-floats.ensures.1) (floats_stop _ _ _ c.args.out.now c.requires.ready c.enter.ensures c.in_ok-words.ensures c.in_err-floats.ensures)

pub overflow_mul-end : goal.overflow_mul-end
overflow_mul-end c = omega (arith, few_made (few_stores _ _ _) c.in_ok-floats.ensures)

pub overflow_add-end : goal.overflow_add-end
overflow_add-end c = omega (arith, few_made (few_stores _ _ _) c.in_ok-words.ensures, few_made (few_stores _ _ _) c.in_ok-floats.ensures)

pub copy_params-requires : goal.copy_params-requires
copy_params-requires c =
    record {
      at_bound = omega (arith, few_made (few_stores _ _ _) c.in_ok-words.ensures, few_made (few_stores _ _ _) c.in_ok-floats.ensures);
      ready = copies_ready _ _ _ c.args.out.now c.requires.ready c.enter.ensures c.in_ok-words.ensures c.in_ok-floats.ensures;
    }

pub returns-in_err-copies : goal.returns-in_err-copies
returns-in_err-copies c =
    rw (exit_is c.from_residual-in_err-copies.ensures.1)
    (copies_stop _ _ _ c.args.out.now c.requires.ready c.enter.ensures c.in_ok-words.ensures c.in_ok-floats.ensures c.in_err-copies.ensures)

pub overflow_add-result : goal.overflow_add-result
overflow_add-result c = omega (arith, few_made (few_stores _ _ _) c.in_ok-words.ensures)

pub overflow_add-result-2 : goal.overflow_add-result-2
overflow_add-result-2 c = omega (arith, few_made (few_stores _ _ _) c.in_ok-words.ensures, few_made (few_stores _ _ _) c.in_ok-floats.ensures)

pub overflow_add-result-3 : goal.overflow_add-result-3
overflow_add-result-3 c = omega (arith, few_made (few_stores _ _ _) c.in_ok-words.ensures, few_made (few_stores _ _ _) c.in_ok-floats.ensures, few_made (few_copies _ _ _ _) c.in_ok-copies.ensures)

pub returns : goal.returns
returns c = all_made _ _ _ c.args.out.now c.requires.ready c.enter.ensures c.in_ok-words.ensures c.in_ok-floats.ensures c.in_ok-copies.ensures

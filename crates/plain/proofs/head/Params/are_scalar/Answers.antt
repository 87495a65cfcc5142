use Rattle.std.proofs.Common.{◌≡◌, ◌+◌, ◌*◌, refl, rules, tests, arith, add-zero}
use Rattle.ir.specs.Function.{var_at, vars_at, function_of}
use Rattle.machine.specs.Plain.{every, is_scalar_var}
use Rattle.plain.proofs.Headed.{all_over}
use Rattle.plain.proofs.head.Params.are_scalar.Goals as goal

pub returns : goal.returns
unfolding vars_at every
returns c =
    let p = c.args.self.now in
    let s = p.sheet.bytes.now in
    simp add-zero at (all_over (λ k. is_scalar_var (function_of s) (var_at s (p.from + 3 * k))) (λ n k. every (is_scalar_var (function_of s)) (vars_at s n (p.from + 3 * k))) p.count (λ k. refl)
    (λ n k e. let l : p.from + 3 * k + 3 ≡ p.from + 3 * (k + 1) = omega arith in rw l) p.count 0 (omega arith) (cc) c.all.ensures.ran (λ x b q k. search (rules, tests)))

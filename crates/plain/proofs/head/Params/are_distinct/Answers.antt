use Rattle.std.proofs.Common.{◌≡◌, ◌+◌, ◌-◌, ◌*◌, refl, rules, tests, arith, add-zero}
use Rattle.ir.specs.Function.{var_at, vars_at}
use Rattle.machine.specs.Plain.{is_absent, are_distinct}
use Rattle.plain.proofs.Headed.{all_over}
use Rattle.plain.proofs.head.Params.are_distinct.Goals as goal

pub returns : goal.returns
unfolding vars_at are_distinct
returns c =
    let p = c.args.self.now in
    let s = p.sheet.bytes.now in
    simp add-zero at (all_over (λ k. is_absent (var_at s (p.from + 3 * k)).id (vars_at s (p.count - (k + 1)) (p.from + 3 * (k + 1)))) (λ n k. are_distinct (vars_at s n (p.from + 3 * k))) p.count (λ k. refl)
    (λ n k e. let l : p.from + 3 * k + 3 ≡ p.from + 3 * (k + 1) = omega arith in let m : n ≡ p.count - (k + 1) = omega arith in rw (l, ← m)) p.count 0 (omega arith) (cc) c.all.ensures.ran (λ x b q k. search (rules, tests)))

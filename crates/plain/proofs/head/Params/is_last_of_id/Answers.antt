use Rattle.std.proofs.Common.{◌≡◌, ◌+◌, ◌-◌, ◌*◌, not, eqb, refl, rules, tests, arith}
use Rattle.ir.specs.Function.{var_at, vars_at}
use Rattle.machine.specs.Plain.{is_absent}
use Rattle.plain.proofs.Headed.{all_over}
use Rattle.plain.proofs.head.Params.is_last_of_id.Goals as goal

pub returns : goal.returns
unfolding vars_at
returns c =
    let p = c.args.self.now in
    let s = p.sheet.bytes.now in
    let k = c.args.k in
    let id = (var_at s (p.from + 3 * k)).id in
    all_over (λ j. not (eqb (var_at s (p.from + 3 * j)).id id)) (λ n j. is_absent id (vars_at s n (p.from + 3 * j))) p.count (λ j. refl)
    (λ n j e. let l : p.from + 3 * j + 3 ≡ p.from + 3 * (j + 1) = omega arith in rw l) (p.count - (k + 1)) (k + 1) (omega arith) (cc) c.all.ensures.ran (λ x b q k. search (rules, tests))

use Rattle.std.proofs.Common.{◌≡◌, ◌+◌, ◌*◌, refl, rules, tests, arith}
use Rattle.cells.specs.Cells.{cell_at}
use Rattle.ir.specs.Function.{type_at, types_at, function_of}
use Rattle.machine.specs.Plain.{every}
use Rattle.plain.specs.Parts.{has_plain_code}
use Rattle.plain.proofs.Headed.{all_over}
use Rattle.plain.proofs.head.are_plain_types.Goals as goal

pub returns : goal.returns
unfolding function_of types_at every
returns c =
    let s = c.args.sheet.now.bytes.now in
    all_over (λ k. has_plain_code (type_at s (6 + 2 * k))) (λ n k. every has_plain_code (types_at s n (6 + 2 * k))) (cell_at s 0) (λ k. refl)
    (λ n k e. let l : 6 + 2 * k + 2 ≡ 6 + 2 * (k + 1) = omega arith in rw l) (cell_at s 0) 0 (omega arith) (cc) c.all.ensures.ran (λ x b q k. search (rules, tests))

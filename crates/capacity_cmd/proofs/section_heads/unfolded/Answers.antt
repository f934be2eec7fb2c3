use Rattle.std.proofs.Common.{◌≡◌, ◌+◌, ◌*◌, ◌-◌, ◌/◌, ◌%◌, arith}
use Rattle.std.proofs.lemmas.Bool.{eq-eqb, ne_eqb}
use Rattle.capacity_cmd.proofs.section_heads.unfolded.Goals as goal

pub returns-then-number-count-clause-is : goal.returns-then-number-count-clause-is
returns-then-number-count-clause-is c =
    let n = c.args.number in
    let half : 2 * n / 2 ≡ n = omega arith in
    rw (eq-eqb (2 * n % 2) 0 (omega arith)) half

pub returns-else-number-count-clause-is : goal.returns-else-number-count-clause-is
returns-else-number-count-clause-is c =
    let count = c.args.count in
    let n = c.args.number in
    let left = count - 1 - n in
    let same : count - 1 - (2 * left + 1) / 2 ≡ n = omega (arith, c.requires) in
    rw (ne_eqb ((2 * left + 1) % 2) 0 (λ e. omega (arith, e))) same

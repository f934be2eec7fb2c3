use Rattle.std.proofs.Common.{◌≡◌, ℕ, length, ap, arith}
use Rattle.line_tables.specs.declared.linked.Linked.{Linked}
use Rattle.line_tables.proofs.Meets.{under_passes}
use Rattle.line_tables.proofs.linked.block_of.Goals as goal

pub bounds-slice-0 : goal.bounds-slice-0
bounds-slice-0 c =
    let P : ℕ × Linked _ → Type 0 = λ e. length e.1.refs ≡ 1 in
    let one = under_passes P c.args.signals.now c.args.key c.get.result.now c.get.ensures.item c.requires.one in
    let same : length one.0.1.refs ≡ length c.get.result.now.refs = ap (λ (e : Linked _). length e.refs) one.1 in
    omega (arith, ap length c.slice.ensures, one.2)

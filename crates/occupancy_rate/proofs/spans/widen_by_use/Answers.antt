use Rattle.std.proofs.Common.{◌≡◌, rules, ap, ◌∙◌}
use Rattle.std.specs.Prelude.{◌+ℤ◌, ◌-ℤ◌, None, slice_index_or}
use Rattle.occupancy_rate.specs.Spans.{widened}
use Rattle.occupancy_rate.proofs.Widened.{set_with_use}
use Rattle.occupancy_rate.proofs.spans.widen_by_use.Goals as goal

pub returns-then-block-spans-clause-all : goal.returns-then-block-spans-clause-all
returns-then-block-spans-clause-all c =
    let u = c.args.one.now in
    let span = slice_index_or c.args.spans.now u.block None in
    let first : c.shift-start.result ≡ (u.start -ℤ c.args.planned +ℤ c.args.entry) = search rules in
    let last : c.shift-end.result ≡ (u.«end» -ℤ c.args.planned +ℤ c.args.entry) = search rules in
    let seen : c.widened.result ≡ widened span c.shift-start.result c.shift-end.result = search rules in
    let is : c.widened.result ≡ widened span (u.start -ℤ c.args.planned +ℤ c.args.entry)
    (u.«end» -ℤ c.args.planned +ℤ c.args.entry) =
    seen ∙ ap (λ s. widened span s c.shift-end.result) first
    ∙ ap (λ e. widened span (u.start -ℤ c.args.planned +ℤ c.args.entry) e) last in
    λ b l. set_with_use c.args.spans.now u c.args.planned c.args.entry c.widened.result b c.if-block-spans.true is

use Rattle.std.proofs.Common.{sym, subst}
use Rattle.std.specs.Option.{option_copied}
use Rattle.plan_model.specs.Cut.{stamped_row}
use Rattle.section_cut.specs.Stamps.{IsStamped}
use Rattle.section_cut.proofs.Restamped.{stamp_kept}
use Rattle.section_cut.proofs.stamps.stamp_of.Goals as goal

pub returns-then-same_row : goal.returns-then-same_row
returns-then-same_row c =
    subst (λ o. IsStamped c.args.number (option_copied o) (stamped_row c.in-Some.before.now.stamp c.args.row.now)) (sym c.in-Some.is)
    (stamp_kept c.args.number c.in-Some.before.now c.args.row.now (c.same_row.ensures.0 c.if-same_row.true))

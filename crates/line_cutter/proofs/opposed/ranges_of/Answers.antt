use Rattle.std.proofs.Common.{◌≡◌, ◌++◌, ◌∷◌, [], List, subst}
use Rattle.plan_model.specs.declared.cut.CutRow.{CutRow}
use Rattle.rail_model.specs.declared.stair.Use.{Use}
use Rattle.line_cutter.specs.declared.opposed.StartRange.{StartRange}
use Rattle.line_cutter.specs.Opposed.{IsStartRange}
use Rattle.line_cutter.proofs.Paired.{paired_more}
use Rattle.line_cutter.proofs.opposed.ranges_of.Goals as goal

pub loop-row-preserved : goal.loop-row-preserved
loop-row-preserved c =
    let rows = c.args.rows.now in
    let i = c.loop-row.row-index in
    let pushed : c.push.new.self.items ≡ c.loop-row.ranges.items ++ c.range_of.result ∷ [] = c.in_ok-push.ensures.items in
    rw pushed
    (paired_more (λ (row : CutRow) (range : StartRange). IsStartRange row.uses range) rows i c.row-item.result c.loop-row.ranges.items c.range_of.result
    c.loop-row-test.true c.row-item.is c.loop-row.invariant
    (subst (λ (us : List Use). IsStartRange us c.range_of.result) c.slice.ensures c.range_of.ensures))

use Rattle.std.proofs.Common.{◌≡◌, ◌++◌, ◌∷◌, [], List, Bool, true, subst}
use Rattle.plan_model.specs.declared.cut.CutRow.{CutRow}
use Rattle.rail_model.specs.declared.stair.Use.{Use}
use Rattle.line_cutter.specs.Ways.{IsOneWay}
use Rattle.line_cutter.proofs.Paired.{paired_more}
use Rattle.line_cutter.proofs.line.one_ways.Goals as goal

pub loop-row-preserved : goal.loop-row-preserved
loop-row-preserved c =
    let rows = c.args.rows.now in
    let i = c.loop-row.row-index in
    let pushed : c.push.new.self.items ≡ c.loop-row.ways.items ++ c.is_one_way.result ∷ [] = c.in_ok-push.ensures.items in
    rw pushed
    (paired_more (λ (row : CutRow) (mark : Bool). mark ≡ true → IsOneWay row.uses) rows i c.row-item.result c.loop-row.ways.items
    c.is_one_way.result c.loop-row-test.true c.row-item.is c.loop-row.invariant
    (subst (λ (us : List Use). c.is_one_way.result ≡ true → IsOneWay us) c.slice.ensures c.is_one_way.ensures))

use Rattle.std.proofs.Common.{length, subst, ◌∙◌}
use Rattle.std.specs.Prelude.{fold}
use Rattle.std.proofs.lemmas.List.{get_or_default}
use Rattle.plan_model.specs.declared.cut.CutRow.{CutRow}
use Rattle.plan_model.specs.Members.{no_member}
use Rattle.headway_table.specs.Starts.{with_use_start, Changes}
use Rattle.headway_table.proofs.Filled.{one_train}
use Rattle.headway_table.proofs.starts.put_all.Goals as goal

pub loop-j-preserved : goal.loop-j-preserved
loop-j-preserved c =
    let j = c.loop-j.j in
    let is = c.index-rows-j.is ∙ get_or_default c.args.rows.now j c.index-rows-j.result no_member c.loop-j-test.true in
    one_train c.args.rows.now (length c.args.table.now) j c.loop-j.table c.put_train.new.table c.loop-j-test.true c.loop-j.invariant
    (subst (λ (r : CutRow). Changes j (λ p s. fold (with_use_start r.entry p) s r.uses) c.loop-j.table c.put_train.new.table)
    is c.put_train.ensures)

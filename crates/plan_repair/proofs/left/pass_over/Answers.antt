use Rattle.std.proofs.Common.{◌≡◌, true, drop, sym, ◌∙◌}
use Rattle.rail_model.specs.Name.{is_before}
use Rattle.plan_repair.specs.Left.{first_is}
use Rattle.plan_repair.proofs.Leaving.{left_through, passed_over, found_behind}
use Rattle.plan_repair.proofs.left.pass_over.Goals as goal

pub loop-left-preserved : goal.loop-left-preserved
loop-left-preserved c =
    let name = c.args.name.now in
    let rows = c.loop-left.left.items in
    let so_far = c.loop-left.invariant in
    let first : first_is (λ r. is_before r.name name) rows ≡ true = sym c.comes_before.ensures ∙ c.loop-left-test.true in
    rw c.drop_first.ensures
    (record {
      left = left_through name c.args.left.now.items rows (drop 1 rows) so_far.left (passed_over name rows so_far.left.rise first);
      same = λ stamp. found_behind name rows stamp first ∙ so_far.same stamp;
    })

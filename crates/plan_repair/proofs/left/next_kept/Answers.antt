use Rattle.std.proofs.Common.{◌≡◌, true, [], refl, sym, ◌∙◌}
use Rattle.plan_repair.specs.Kept.{has}
use Rattle.plan_repair.specs.Left.{first_is}
use Rattle.plan_repair.proofs.Leaving.{left_first, first_behind}
use Rattle.plan_repair.proofs.left.next_kept.Goals as goal

pub returns-then-stands_first-clause-left : goal.returns-then-stands_first-clause-left
returns-then-stands_first-clause-left c =
    let name = c.args.name.now in
    let stamp = c.args.stamp in
    let rows = c.args.left.now.items in
    let first : first_is (has name stamp) rows ≡ true = sym c.stands_first.ensures ∙ c.if-stands_first.true in
    rw c.pop_front.ensures.rest (left_first name stamp rows c.requires first)

pub returns-then-stands_first-clause-behind : goal.returns-then-stands_first-clause-behind
returns-then-stands_first-clause-behind c =
    let rows = c.args.left.now.items in
    first_behind rows rows c.pop_front.new.self.items c.pop_front.result (record { before = []; is = refl }) c.pop_front.ensures.items

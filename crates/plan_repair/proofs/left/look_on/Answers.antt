use Rattle.std.proofs.Common.{◌≡◌, true, false, drop, sym, ◌∙◌}
use Rattle.plan_repair.specs.Kept.{has}
use Rattle.plan_repair.specs.Left.{first_is}
use Rattle.plan_repair.proofs.Leaving.{left_through, left_first, found_none, first_behind}
use Rattle.plan_repair.proofs.left.look_on.Goals as goal

pub returns-then-not-stands_first-clause-found : goal.returns-then-not-stands_first-clause-found
returns-then-not-stands_first-clause-found c =
    let name = c.args.name.now in
    let stamp = c.args.stamp in
    let rows = c.pass_over.new.left.items in
    let out : first_is (has name stamp) rows ≡ false = sym c.stands_first.ensures ∙ c.if-not-stands_first.true in
    sym (found_none name stamp rows c.pass_over.ensures.left.rise c.pass_over.ensures.reached out)
    ∙ c.pass_over.ensures.same stamp

pub returns-clause-left : goal.returns-clause-left
returns-clause-left c =
    let name = c.args.name.now in
    let stamp = c.args.stamp in
    let rows = c.pass_over.new.left.items in
    let first : first_is (has name stamp) rows ≡ true = sym c.stands_first.ensures ∙ c.if-not-stands_first.false in
    let left = c.pass_over.ensures.left in
    rw c.pop_front.ensures.rest
    (left_through name c.args.left.now.items rows (drop 1 rows) left (left_first name stamp rows left.rise first))

pub returns-clause-behind : goal.returns-clause-behind
returns-clause-behind c =
    first_behind c.args.left.now.items c.pass_over.new.left.items c.pop_front.new.self.items c.pop_front.result
    c.pass_over.ensures.left.ends c.pop_front.ensures.items

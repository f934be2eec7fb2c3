use Rattle.std.proofs.Common.{◌≡◌, ◌<◌, ℕ, false, arith}
use Rattle.plan_model.specs.Members.{member_count}
use Rattle.train_order.specs.Sets.{holds}
use Rattle.train_order.proofs.InOrder.{is_ordering}
use Rattle.train_order.proofs.Turn.{in_order, are_apart}
use Rattle.train_order.proofs.ordering.by_turn.Goals as goal

pub returns-then-is_above : goal.returns-then-is_above
returns-then-is_above c =
    let cut = c.args.cut.now in
    let positions = c.args.positions.items in
    let words = c.args.apart.now.words in
    let by = c.member_count.ensures in
    let none : (i : ℕ) → i < member_count cut → holds words i ≡ false =
    λ i l. c.is_above.ensures c.if-is_above.true i (omega (arith, l, by.count)) in
    is_ordering cut positions c.requires.once by.sound (in_order cut positions words c.requires.once none c.requires.turn) _
    c.from_vec-positions.ensures

pub first_pair-requires-clause-apart : goal.first_pair-requires-clause-apart
first_pair-requires-clause-apart c =
    are_apart c.args.cut.now c.args.positions.items c.args.apart.now.words c.member_count.ensures.sound c.requires.once c.requires.turn

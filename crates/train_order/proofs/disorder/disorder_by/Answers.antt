use Rattle.std.proofs.Common.{◌≡◌, ◌<◌, length, ap, subst, arith}
use Rattle.train_order.specs.Ordering.{IsDisorderBy}
use Rattle.train_order.proofs.Answered.{disorder_is}
use Rattle.train_order.proofs.Opposed.{none_opposite}
use Rattle.train_order.proofs.Ordered.{none_remain, not_both}
use Rattle.train_order.proofs.Rounds.{is_order}
use Rattle.train_order.proofs.Whole.{whole_length}
use Rattle.train_order.proofs.disorder.disorder_by.Goals as goal

pub returns-then-len-sets-clause-disorder : goal.returns-then-len-sets-clause-disorder
returns-then-len-sets-clause-disorder c =
    let cut = c.args.cut.now in
    let sets = c.put_preceded.new.sets in
    let taken = c.take_up_all-taken.result in
    let up = c.take_up_all-taken.ensures in
    let whole : length taken ≡ length sets = omega (arith, c.len.ensures, c.if-len-sets.true) in
    let order = is_order cut sets c.put_preceded.ensures.sets taken up whole in
    (none_opposite cut (not_both cut taken order), none_remain cut taken order)

pub find_disorder-requires-clause-some : goal.find_disorder-requires-clause-some
find_disorder-requires-clause-some c =
    let sets = c.put_preceded.new.sets in
    let taken = c.take_up_all-taken.result in
    let up = c.take_up_all-taken.ensures in
    omega (
      arith,
      whole_length (length sets) taken up.sound.within up.sound.once,
      c.len.ensures,
      c.if-len-sets.false,
      ap length c.slice.ensures,
    )

pub returns : goal.returns
returns c =
    let sets = c.put_preceded.new.sets in
    let taken = c.take_up_all-taken.result in
    let up = c.take_up_all-taken.ensures in
    let some : length taken < length sets =
    omega (arith, whole_length (length sets) taken up.sound.within up.sound.once, c.len.ensures, c.if-len-sets.false) in
    let is = disorder_is c.args.cut.now sets c.put_preceded.ensures.sets taken up some c.find_disorder.result
    (subst (λ ms. IsDisorderBy sets ms c.find_disorder.result) c.slice.ensures c.find_disorder.ensures) in
    record { disorder = is.0; in_turn = is.1 }

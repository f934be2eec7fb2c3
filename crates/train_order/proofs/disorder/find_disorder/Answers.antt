use Rattle.std.proofs.Common.{length, sym, subst, arith}
use Rattle.train_order.specs.Taking.{left_of}
use Rattle.train_order.specs.Walk.{IsRingBy}
use Rattle.train_order.proofs.Opposed.{first_below}
use Rattle.train_order.proofs.disorder.find_disorder.Goals as goal

pub overflow_cast-result : goal.overflow_cast-result
overflow_cast-result c =
    let below = first_below c.args.sets.now c.in-Some.i c.in-Some.j c.in-Some.ensures in
    omega (arith, below.0, below.1, c.requires.few)

pub overflow_cast-result-in-Some : goal.overflow_cast-result-in-Some
overflow_cast-result-in-Some c =
    omega (arith, (first_below c.args.sets.now c.in-Some.i c.in-Some.j c.in-Some.ensures).1, c.requires.few)

pub returns-in-Some : goal.returns-in-Some
returns-in-Some c = sym c.in-Some.ensures

pub returns : goal.returns
returns c =
    (sym c.in_default.ensures, subst (IsRingBy c.args.sets.now (left_of (length c.args.sets.now) c.args.taken.now)) (sym c.new.ensures) c.ring_members.ensures)

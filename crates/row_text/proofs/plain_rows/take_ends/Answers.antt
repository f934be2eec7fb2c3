use Rattle.std.proofs.Common.{◌≡◌, ◌+◌, ◌<◌, length, subst, rules, arith, w64}
use Rattle.std.specs.Int.{trailing_zeros}
use Rattle.row_text.specs.PlainRows.{HasCut, so_far}
use Rattle.row_text.proofs.Lanes.{IsNext-before, Left-next, Left-none}
use Rattle.row_text.proofs.plain_rows.take_ends.Goals as goal

pub take_byte-requires-clause-order : goal.take_byte-requires-clause-order
take_byte-requires-clause-order c =
    let before = c.loop-rest.invariant in
    let its = Left-next before.left (omega (arith, c.loop-rest-test.true)) (omega (arith, c.loop-rest.auto.rest-fits)) in
    (IsNext-before (so_far c.loop-rest.cut) before.left its c.requires.there before.has).start

pub loop-rest-smaller : goal.loop-rest-smaller
loop-rest-smaller c =
    let its = Left-next c.loop-rest.invariant.left (omega (arith, c.loop-rest-test.true)) (omega (arith, c.loop-rest.auto.rest-fits)) in
    omega (arith, its.within, its.order)

pub loop-rest-preserved : goal.loop-rest-preserved
loop-rest-preserved c =
    let text = c.args.text.now in
    let at = c.args.at in
    let before = c.loop-rest.invariant in
    let place = trailing_zeros w64 c.loop-rest.rest in
    let its = Left-next before.left (omega (arith, c.loop-rest-test.true)) (omega (arith, c.loop-rest.auto.rest-fits)) in
    let there : at + place < length text = omega (arith, its.within, c.requires.there) in
    record {
      has =
          subst (HasCut text (so_far c.take_byte.new.cut)) (let e : at + place + 1 ≡ at + (place + 1) = omega arith in e)
          (c.in_ok-take_byte.ensures (search rules) text there (search rules) (IsNext-before (so_far c.loop-rest.cut) before.left its c.requires.there before.has));
      left = its.left;
    }

pub returns : goal.returns
returns c = λ _. Left-none (so_far c.loop-rest.cut) c.loop-rest.invariant.left (omega (arith, c.loop-rest-test.false)) c.requires.there c.loop-rest.invariant.has

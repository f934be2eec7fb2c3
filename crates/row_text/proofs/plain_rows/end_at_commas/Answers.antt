use Rattle.std.proofs.Common.{◌≡◌, ◌+◌, ◌<◌, length, take, slice_set, refl, sym, ◌∙◌, subst, arith, w64, append_assoc}
use Rattle.std.specs.Int.{trailing_zeros}
use Rattle.std.proofs.lemmas.List.{take_more_set}
use Rattle.std.proofs.Math.ListN.{length-set}
use Rattle.row_text.specs.PlainRows.{HasCut, so_far, with_fields}
use Rattle.row_text.proofs.Lanes.{IsNext-before, Left-next, Left-none, one-before}
use Rattle.row_text.proofs.PlainRows.{HasCut-comma}
use Rattle.row_text.proofs.plain_rows.end_at_commas.Goals as goal

pub bounds-starts-count : goal.bounds-starts-count
bounds-starts-count c =
    let its = Left-next c.loop-rest.invariant.left (omega (arith, c.loop-rest-test.true)) (omega (arith, c.loop-rest.auto.rest-fits)) in
    omega (arith, its.within, its.order, c.loop-rest.invariant.counted)

pub loop-rest-smaller : goal.loop-rest-smaller
loop-rest-smaller c =
    let its = Left-next c.loop-rest.invariant.left (omega (arith, c.loop-rest-test.true)) (omega (arith, c.loop-rest.auto.rest-fits)) in
    omega (arith, its.within, its.order)

pub loop-rest-preserved : goal.loop-rest-preserved
loop-rest-preserved c =
    let text = c.args.text.now in
    let at = c.args.at in
    let before = c.loop-rest.invariant in
    let count = c.loop-rest.count in
    let start = c.loop-rest.start in
    let place = trailing_zeros w64 c.loop-rest.rest in
    let its = Left-next before.left (omega (arith, c.loop-rest-test.true)) (omega (arith, c.loop-rest.auto.rest-fits)) in
    let room : count < length c.loop-rest.starts = omega (arith, its.within, its.order, before.counted, before.long) in
    let old = with_fields (so_far c.args.cut.now) (take count c.loop-rest.starts) start in
    let new = with_fields (so_far c.args.cut.now) (take (count + 1) (slice_set c.loop-rest.starts count start)) (at + (place + 1)) in
    record {
      has =
          subst (HasCut text new) (let e : at + place + 1 ≡ at + (place + 1) = omega arith in e)
          (HasCut-comma text old new (at + place) (omega (arith, its.within, c.requires.there)) (before.ones place its.within its.one)
          (record {
            cuts = rw (take_more_set c.loop-rest.starts count start room) (sym (append_assoc c.args.cut.now.cuts.items (take count c.loop-rest.starts) _));
            ends = refl;
            start = omega arith;
            first = refl;
          })
          (IsNext-before old before.left its c.requires.there before.has));
      left = its.left;
      ones = λ k l one. before.ones k l (one-before c.loop-rest.rest k one);
      counted = omega (arith, its.order, before.counted);
      long = length-set c.loop-rest.starts count start ∙ before.long;
    }

pub returns : goal.returns
returns c =
    subst (λ cuts. HasCut c.args.text.now (record { cuts = cuts; ends = c.args.cut.now.ends.items; start = c.loop-rest.start; first = c.args.cut.now.first }) (c.args.at + 64)) (sym c.in_ok-extend_from_slice.ensures.items)
    (Left-none (with_fields (so_far c.args.cut.now) (take c.loop-rest.count c.loop-rest.starts) c.loop-rest.start) c.loop-rest.invariant.left (omega (arith, c.loop-rest-test.false)) c.requires.there c.loop-rest.invariant.has)

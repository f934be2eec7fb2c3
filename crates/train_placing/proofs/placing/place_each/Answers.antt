use Rattle.std.proofs.Common.{◌≡◌, ◌<◌, false, length, get_or, take, refl, sym, subst, ◌∙◌, arith}
use Rattle.std.specs.Prelude.{pos}
use Rattle.std.proofs.lemmas.List.{take_more, take_all, length-take-le}
use Rattle.plan_model.specs.Members.{member_count, is_among}
use Rattle.plan_model.specs.Schedule.{entry_at}
use Rattle.train_order.proofs.Next.{count, comes_next}
use Rattle.train_placing.specs.Last.{IsNear}
use Rattle.train_placing.specs.Placing.{IsNextPlaced, ArePlaced}
use Rattle.train_placing.proofs.Moments.{all_near, near_floor}
use Rattle.train_placing.proofs.Whole.{none_placed, least, ties_are}
use Rattle.train_placing.proofs.Step.{placed_next, unplaced}
use Rattle.train_placing.proofs.placing.place_each.Goals as goal

pub loop-train-init : goal.loop-train-init
loop-train-init c = record {
  placed =
      none_placed c.args.cut.now (entry_at c.args.entries.now) c.args.entries.now c.args.ties.now c.args.last.now
      c.requires.entries c.requires.ties c.requires.last;
  floors = λ i h. refl;
}

pub place-requires-clause-there : goal.place-requires-clause-there
place-requires-clause-there c =
    subst (λ k. get_or c.args.order.now c.loop-train.train-index 0 < member_count k) (sym c.sound-sound.ensures.cut)
    (comes_next c.args.cut.now c.args.order.now c.requires.order c.sound-sound.ensures.sound c.loop-train.train-index
    c.loop-train-test.true).there

pub place-requires-clause-floor : goal.place-requires-clause-floor
place-requires-clause-floor c =
    let order = c.args.order.now in
    let k = c.loop-train.train-index in
    let lk : k < length order = c.loop-train-test.true in
    let next = comes_next c.args.cut.now order c.requires.order c.sound-sound.ensures.sound k lk in
    let j = get_or order k 0 in
    let within : j < length c.args.entries.now = omega (arith, next.there, c.requires.entries) in
    subst IsNear (sym (c.loop-train.invariant.floors j next.not_yet))
    (near_floor (entry_at c.args.entries.now j) (c.requires.floors j (pos 0) within))

pub place-requires-clause-near : goal.place-requires-clause-near
place-requires-clause-near c =
    let order = c.args.order.now in
    let k = c.loop-train.train-index in
    let lk : k < length order = c.loop-train-test.true in
    all_near c.args.cut.now (entry_at c.args.entries.now) (take k order) c.loop-train.entries c.loop-train.ties
    c.loop-train.last c.sound-sound.ensures.sound
    (λ i l. c.requires.floors i (pos 0) (omega (arith, l, c.requires.entries)))
    c.loop-train.invariant.placed
    (omega (
      arith,
      length-take-le k order (omega (arith, lk)),
      lk,
      count c.args.cut.now order c.requires.order,
      c.sound-sound.ensures.few,
    ))

pub loop-train-preserved : goal.loop-train-preserved
loop-train-preserved c =
    let cut = c.args.cut.now in
    let order = c.args.order.now in
    let floor = entry_at c.args.entries.now in
    let k = c.loop-train.train-index in
    let lk : k < length order = c.loop-train-test.true in
    let sound = c.sound-sound.ensures.sound in
    let next = comes_next cut order c.requires.order sound k lk in
    let j = get_or order k 0 in
    let floor_j =
    c.requires.floors j (pos 0) (omega (arith, next.there, c.requires.entries)) in
    let old = c.loop-train in
    let new = c.place.new in
    let same = take_more order k 0 lk in
    let step : IsNextPlaced cut j (floor j) old.entries old.ties old.last new.entries new.ties new.last =
    subst (λ f. IsNextPlaced cut j f old.entries old.ties old.last new.entries new.ties new.last)
    (old.invariant.floors j next.not_yet)
    (subst (λ m. IsNextPlaced m j (entry_at old.entries j) old.entries old.ties old.last new.entries new.ties new.last)
    c.sound-sound.ensures.cut c.place.ensures) in
    record {
      placed =
          subst (λ some. ArePlaced cut floor some new.entries new.ties new.last) (sym same)
          (placed_next cut floor (take k order) j old.entries old.ties old.last new.entries new.ties new.last sound
          floor_j old.invariant.placed next step);
      floors = λ i h.
          let left = unplaced cut floor (take k order) j old.entries old.ties old.last new.entries new.ties new.last
          sound floor_j old.invariant.placed next step i (subst (λ some. is_among some i ≡ false) same h) in
          left.1 ∙ old.invariant.floors i left.0;
    }

pub returns : goal.returns
returns c =
    let cut = c.args.cut.now in
    let order = c.args.order.now in
    let floor = entry_at c.args.entries.now in
    let entries = c.loop-train.entries in
    let ties = c.loop-train.ties in
    let last = c.loop-train.last in
    let sound = c.sound-sound.ensures.sound in
    let placed =
    subst (λ some. ArePlaced cut floor some entries ties last) (take_all c.loop-train.train-index order (omega arith))
    c.loop-train.invariant.placed in
    record {
      placed = placed;
      least = least cut floor order entries ties last sound c.requires.order placed;
      ties = ties_are cut floor order entries ties last sound c.requires.order placed;
    }

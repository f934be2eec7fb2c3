use Rattle.std.proofs.Common.{◌∙◌, ◌++◌, ◌∷◌, [], w64, length, take, get_or, ap, sym, rules, arith}
use Rattle.std.proofs.lemmas.Int.{to_z-of_z}
use Rattle.std.proofs.lemmas.List.{length_push, take_all}
use Rattle.std.proofs.lemmas.Slice.Zip.{zip_turn, zip_end}
use Rattle.plan_model.specs.Members.{no_use}
use Rattle.section_cut.specs.Times.{with_time, with_times}
use Rattle.section_cut.proofs.RowTimes.{with_times_more, length-with_times}
use Rattle.section_cut.proofs.times.with_times.Goals as goal

pub loop-place-preserved : goal.loop-place-preserved
loop-place-preserved c =
    let places = c.args.places.now in
    let times = c.args.times.now in
    let all = with_times places times in
    let n = length c.loop-place.yielded in
    let so_far = c.loop-place.invariant in
    let place = c.in-Some.place.now in
    let time = c.in-Some.time.now in
    let t = zip_turn places times c.loop-place.yielded c.into_iter-place-iterator.result c.loop-place.place-iterator c.next.new.self c.next.result (search rules) (search rules) c.loop-place.yielded_by (c.in-Some.place, c.in-Some.time) c.in-Some.is c.next.ensures.steps in
    let here = ap (λ u. with_time u time) (t.2 no_use) ∙ ap (with_time (get_or places n no_use)) (t.3 no_use) in
    let start = to_z-of_z w64 time.start (search rules) in
    let end = to_z-of_z w64 time.«end» (search rules) in
    let pushed = rw (start, end) at c.push_reserved.ensures.items in
    record {
      timed =
          pushed ∙ ap (λ us. us ++ with_time place time ∷ []) so_far.timed
          ∙ ap (λ u. take n all ++ u ∷ []) here
          ∙ sym (with_times_more places times n t.0 t.1)
          ∙ ap (λ j. take j all) (sym (length_push c.loop-place.yielded (c.in-Some.place, c.in-Some.time)));
      count = omega (arith, so_far.count, c.push_reserved.ensures.len, length_push c.loop-place.yielded (c.in-Some.place, c.in-Some.time));
      room = c.push_reserved.ensures.capacity ∙ so_far.room;
    }

pub returns : goal.returns
returns c =
    let places = c.args.places.now in
    let times = c.args.times.now in
    let all = with_times places times in
    let t = zip_end places times c.loop-place.yielded c.into_iter-place-iterator.result c.loop-place.place-iterator c.next.new.self c.next.result (search rules) (search rules) c.loop-place.yielded_by c.in-None.is c.next.ensures.steps in
    c.of.ensures ∙ c.loop-place.invariant.timed
    ∙ take_all (length c.loop-place.yielded) all (omega (arith, t, length-with_times places times))

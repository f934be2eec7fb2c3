use Rattle.std.proofs.Common.{◌∙◌, ◌++◌, ◌∷◌, [], length, take, get_or, ap, sym, rules, arith}
use Rattle.std.proofs.lemmas.List.{length_push, take_all, length-map, get_or-map}
use Rattle.std.proofs.lemmas.Slice.Zip.{zip_turn, zip_end}
use Rattle.rail_model.specs.Blocking.{no_hop}
use Rattle.rail_model.specs.Within.{no_leg}
use Rattle.line_tables.specs.Hops.{with_leg, with_legs, hops_at}
use Rattle.line_tables.proofs.TimedHops.{with_legs_more, length-with_legs}
use Rattle.line_tables.proofs.run_paths.timed_hops.Goals as goal

pub loop-key-preserved : goal.loop-key-preserved
loop-key-preserved c =
    let hops = c.args.hops.now in
    let keys = c.args.keys.now in
    let legs = c.args.legs.now in
    let along = hops_at hops keys in
    let all = with_legs along legs in
    let n = length c.loop-key.yielded in
    let so_far = c.loop-key.invariant in
    let t = zip_turn keys legs c.loop-key.yielded c.into_iter-key-iterator.result c.loop-key.key-iterator c.next.new.self c.next.result (search rules) (search rules) c.loop-key.yielded_by (c.in-Some.key, c.in-Some.leg) c.in-Some.is c.next.ensures.steps in
    let here = ap (λ k. with_leg (get_or hops k no_hop) c.in-Some.leg.now) (t.2 0)
    ∙ ap (λ h. with_leg h c.in-Some.leg.now) (sym (get_or-map (λ k. get_or hops k no_hop) keys n 0 no_hop t.0))
    ∙ ap (with_leg (get_or along n no_hop)) (t.3 no_leg) in
    record {
      timed =
          c.push_reserved.ensures.items ∙ ap (λ l. l ++ with_leg (get_or hops c.in-Some.key.now no_hop) c.in-Some.leg.now ∷ []) so_far.timed
          ∙ ap (λ h. take n all ++ h ∷ []) here
          ∙ sym (with_legs_more along legs n (omega (arith, t.0, length-map keys (λ k. get_or hops k no_hop))) t.1)
          ∙ ap (λ j. take j all) (sym (length_push c.loop-key.yielded (c.in-Some.key, c.in-Some.leg)));
      count = omega (arith, so_far.count, c.push_reserved.ensures.len, length_push c.loop-key.yielded (c.in-Some.key, c.in-Some.leg));
      room = c.push_reserved.ensures.capacity ∙ so_far.room;
    }

pub returns : goal.returns
returns c =
    let along = hops_at c.args.hops.now c.args.keys.now in
    let legs = c.args.legs.now in
    let all = with_legs along legs in
    let t = zip_end c.args.keys.now legs c.loop-key.yielded c.into_iter-key-iterator.result c.loop-key.key-iterator c.next.new.self c.next.result (search rules) (search rules) c.loop-key.yielded_by c.in-None.is c.next.ensures.steps in
    c.from_vec.ensures ∙ c.loop-key.invariant.timed
    ∙ take_all (length c.loop-key.yielded) all (omega (arith, t, length-with_legs along legs, length-map c.args.keys.now (λ k. get_or c.args.hops.now k no_hop)))

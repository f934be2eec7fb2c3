use Rattle.std.proofs.Common.{◌∙◌, ◌++◌, ◌∷◌, [], length, take, get_or, ap, sym, rules, arith}
use Rattle.std.proofs.lemmas.List.{length_push, take_all}
use Rattle.std.proofs.lemmas.Slice.Zip.{zip_turn, zip_end}
use Rattle.rail_model.specs.Blocking.{no_hop}
use Rattle.rail_model.specs.Within.{no_leg}
use Rattle.line_tables.specs.Hops.{with_leg, with_legs}
use Rattle.line_tables.proofs.TimedHops.{with_legs_more, length-with_legs}
use Rattle.line_tables.proofs.path.timed_hops.Goals as goal

pub loop-hop-preserved : goal.loop-hop-preserved
loop-hop-preserved c =
    let all = with_legs c.args.hops.now c.args.legs.now in
    let t = zip_turn c.args.hops.now c.args.legs.now c.loop-hop.yielded c.into_iter-hop-iterator.result c.loop-hop.hop-iterator c.next.new.self c.next.result (search rules) (search rules) c.loop-hop.yielded_by (c.in-Some.hop, c.in-Some.leg) c.in-Some.is c.next.ensures.steps in
    let here = ap (λ h. with_leg h c.in-Some.leg.now) (t.2 no_hop) ∙ ap (with_leg (get_or c.args.hops.now (length c.loop-hop.yielded) no_hop)) (t.3 no_leg) in
    c.in_ok-push.ensures.ok ∙ ap (λ l. l ++ with_leg c.in-Some.hop.now c.in-Some.leg.now ∷ []) c.loop-hop.invariant ∙ ap (λ h. take (length c.loop-hop.yielded) all ++ h ∷ []) here
    ∙ sym (with_legs_more c.args.hops.now c.args.legs.now (length c.loop-hop.yielded) t.0 t.1)
    ∙ ap (λ j. take j all) (sym (length_push c.loop-hop.yielded (c.in-Some.hop, c.in-Some.leg)))

pub returns : goal.returns
returns c =
    let all = with_legs c.args.hops.now c.args.legs.now in
    let t = zip_end c.args.hops.now c.args.legs.now c.loop-hop.yielded c.into_iter-hop-iterator.result c.loop-hop.hop-iterator c.next.new.self c.next.result (search rules) (search rules) c.loop-hop.yielded_by c.in-None.is c.next.ensures.steps in
    c.loop-hop.invariant ∙ take_all (length c.loop-hop.yielded) all (omega (arith, t, length-with_legs c.args.hops.now c.args.legs.now))

use Rattle.std.proofs.Common.{◌+◌, ◌<◌, length, take, get_or, sym, ap, ◌∙◌, arith}
use Rattle.std.proofs.lemmas.List.{length-set}
use Rattle.plan_model.specs.Members.{no_use}
use Rattle.section_cut.specs.Positions.{with_position}
use Rattle.section_cut.proofs.Placing.{placed_more, placed_all}
use Rattle.section_cut.proofs.positions.place_from.Goals as goal

pub loop-i-preserved : goal.loop-i-preserved
loop-i-preserved c =
    let positions = c.args.positions.now in
    let stairway = c.args.stairway.now in
    let i = c.loop-i.i in
    let uses = c.loop-i.uses in
    let so_far = c.loop-i.invariant in
    let placed = c.place_use.ensures c.if-not-place_use.false in
    let below : i < length stairway = omega (arith, c.loop-i-test.true, so_far.long) in
    record {
      long = ap length placed.set ∙ length-set uses i (with_position positions (get_or stairway i no_use)) ∙ so_far.long;
      same =
          placed_more positions stairway uses i no_use below (omega (arith, c.loop-i-test.true)) so_far.same
          ∙ ap (take (i + 1)) (sym placed.set);
      inside = placed.inside;
    }

pub returns : goal.returns
returns c _ =
    placed_all c.args.positions.now c.args.blocks c.args.stairway.now c.loop-i.uses c.loop-i.i c.loop-i.invariant.long
    (omega (arith, c.loop-i-test.false)) c.loop-i.invariant.same c.loop-i.invariant.inside

use Rattle.std.proofs.Common.{◌≡◌, ◌+◌, rules, sym, subst, ◌∙◌, arith, to_z, of_z, w64}
use Rattle.std.specs.Prelude.{◌^◌, pos, ◌≤ℤ◌}
use Rattle.std.proofs.lemmas.Int.{ints}
use Rattle.plan_model.specs.Members.{block_count, member, uses_place}
use Rattle.plan_model.specs.Schedule.{window_start}
use Rattle.path_fill.specs.Search.{asked, greater, IsGreatest}
use Rattle.path_fill.proofs.Best.{none_yet, one_more, no_more}
use Rattle.path_fill.proofs.blocks.first_copy.Goals as goal

pub loop-block-init : goal.loop-block-init
loop-block-init c =
    let cut = c.args.cut.now in
    let r = c.args.row in
    let test = uses_place (member cut r) in
    let f = asked cut r c.args.last.now in
    let cast : to_z w64 (of_z w64 c.window_start-entry.result) ≡ c.window_start-entry.result = search rules in
    let is : to_z w64 (of_z w64 c.window_start-entry.result) ≡ window_start cut =
    cast ∙ c.window_start-entry.ensures.start in
    record {
      greatest = subst (IsGreatest test f 0 (window_start cut)) (sym is) (none_yet test f (window_start cut));
      small = omega (arith, ints, cast, c.window_start-entry.ensures.moment.before);
    }

pub loop-block-preserved : goal.loop-block-preserved
loop-block-preserved c =
    let cut = c.args.cut.now in
    let r = c.args.row in
    let test = uses_place (member cut r) in
    let f = asked cut r c.args.last.now in
    let b = c.loop-block.block in
    let best = to_z w64 c.loop-block.entry-bits in
    let one = c.asked_at.result in
    let cast : to_z w64 (of_z w64 c.greater-entry.result) ≡ c.greater-entry.result = search rules in
    let is : to_z w64 (of_z w64 c.greater-entry.result) ≡ greater best one =
    cast ∙ c.greater-entry.ensures in
    record {
      greatest =
          subst (IsGreatest test f (b + 1) (window_start cut)) (sym is)
          (one_more test f (window_start cut) b best one c.loop-block.invariant.greatest c.asked_at.ensures.is);
      small =
          subst (λ x. x ≤ℤ pos (2 ^ 50)) (sym is)
          (no_more (2 ^ 50) best one c.loop-block.invariant.small c.asked_at.ensures.small);
    }

pub returns : goal.returns
returns c =
    let cut = c.args.cut.now in
    let r = c.args.row in
    let test = uses_place (member cut r) in
    let f = asked cut r c.args.last.now in
    let best = to_z w64 c.loop-block.entry-bits in
    let all : c.loop-block.block ≡ block_count cut =
    omega (
      arith,
      c.loop-block-test.false,
      c.loop-block.auto.block-end,
      c.block_count-block-end.ensures.count,
    ) in
    record {
      greatest =
          subst (λ n. IsGreatest test f n (window_start cut) best) all c.loop-block.invariant.greatest;
      bounded = record {
        after = omega (arith, ints, c.loop-block.invariant.greatest.above);
        before = c.loop-block.invariant.small;
      };
    }

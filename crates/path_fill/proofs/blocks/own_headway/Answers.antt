use Rattle.std.proofs.Common.{◌≡◌, ◌+◌, rules, sym, subst, ◌∙◌, arith, to_z, of_z, w64}
use Rattle.std.specs.Prelude.{◌^◌, pos, ◌≤ℤ◌}
use Rattle.std.proofs.lemmas.Int.{ints}
use Rattle.plan_model.specs.Members.{block_count, member, uses_place}
use Rattle.path_fill.specs.Search.{time_at, greater, IsGreatest}
use Rattle.path_fill.proofs.Best.{none_yet, one_more, no_more}
use Rattle.path_fill.proofs.blocks.own_headway.Goals as goal

pub loop-block-init : goal.loop-block-init
loop-block-init c =
    let cut = c.args.cut.now in
    let r = c.args.row in
    let test = uses_place (member cut r) in
    let f = time_at cut r in
    record {
      greatest = none_yet test f (pos 0);
      small = omega (arith, ints);
    }

pub loop-block-preserved : goal.loop-block-preserved
loop-block-preserved c =
    let cut = c.args.cut.now in
    let r = c.args.row in
    let test = uses_place (member cut r) in
    let f = time_at cut r in
    let b = c.loop-block.block in
    let best = to_z w64 c.loop-block.greatest-bits in
    let one = c.time_at.result in
    let cast : to_z w64 (of_z w64 c.greater-greatest.result) ≡ c.greater-greatest.result = search rules in
    let is : to_z w64 (of_z w64 c.greater-greatest.result) ≡ greater best one =
    cast ∙ c.greater-greatest.ensures in
    record {
      greatest =
          subst (IsGreatest test f (b + 1) (pos 0)) (sym is)
          (one_more test f (pos 0) b best one c.loop-block.invariant.greatest c.time_at.ensures.is);
      small =
          subst (λ x. x ≤ℤ pos (2 ^ 40)) (sym is)
          (no_more (2 ^ 40) best one c.loop-block.invariant.small c.time_at.ensures.small);
    }

pub returns : goal.returns
returns c =
    let cut = c.args.cut.now in
    let r = c.args.row in
    let test = uses_place (member cut r) in
    let f = time_at cut r in
    let best = to_z w64 c.loop-block.greatest-bits in
    let all : c.loop-block.block ≡ block_count cut =
    omega (
      arith,
      c.loop-block-test.false,
      c.loop-block.auto.block-end,
      c.block_count-block-end.ensures.count,
    ) in
    record {
      greatest =
          subst (λ n. IsGreatest test f n (pos 0) best) all c.loop-block.invariant.greatest;
      small = c.loop-block.invariant.small;
    }

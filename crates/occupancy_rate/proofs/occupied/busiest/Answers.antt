use Rattle.std.proofs.Common.{◌≡◌, ℕ, Bool, rules, sym, subst, ◌+◌}
use Rattle.std.specs.Prelude.{None, slice_index_or, filter, if◌then◌else◌}
use Rattle.std.specs.List.{range_with_len}
use Rattle.plan_model.specs.Members.{first_with, AnswersFirst}
use Rattle.occupancy_rate.specs.Spans.{lasts}
use Rattle.occupancy_rate.proofs.Longest.{block_more}
use Rattle.occupancy_rate.proofs.occupied.busiest.Goals as goal

pub loop-block-preserved : goal.loop-block-preserved
loop-block-preserved c =
    let cut = c.args.cut.now in
    let block = c.loop-block.block in
    let best = c.loop-block.best in
    let test : ℕ → Bool = λ b. lasts c.args.time (slice_index_or c.args.spans.now b None) in
    let chosen : c.first_with-best.result ≡ (if test block then first_with cut best block else best) = search rules in
    record {
      first = subst (AnswersFirst cut (filter test (range_with_len 0 (block + 1)))) (sym chosen)
          (block_more cut test block best c.loop-block.invariant.first);
      there = c.first_with-best.ensures.there;
    }

use Rattle.std.proofs.Common.{◌<◌}
use Rattle.std.specs.Prelude.{None, slice_index_or, filter, IfSome}
use Rattle.std.specs.List.{range_with_len}
use Rattle.plan_model.specs.Members.{place_count, AnswersFirst}
use Rattle.occupancy_rate.specs.Spans.{lasts}
use Rattle.occupancy_rate.proofs.occupied.busiest.Given as goal

-- the first by name of the first blocks whose spans are so long
abbrev pub invariant-loop-block : goal.invariant-loop-block
invariant-loop-block l = record {
  first : AnswersFirst l.cut (filter (λ b. lasts l.time (slice_index_or l.spans b None)) (range_with_len 0 l.block)) l.best;
  there : IfSome l.best (λ b. b < place_count l.cut);
}

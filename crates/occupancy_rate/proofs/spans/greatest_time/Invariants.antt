use Rattle.std.proofs.Common.{◌≡◌, map, max, take}
use Rattle.std.specs.Prelude.{fold}
use Rattle.occupancy_rate.specs.Spans.{time_of}
use Rattle.occupancy_rate.proofs.spans.greatest_time.Given as goal

abbrev pub invariant-loop-one : goal.invariant-loop-one
invariant-loop-one l = l.greatest ≡ fold max 0 (map time_of (take l.one-index l.spans))

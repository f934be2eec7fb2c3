use Rattle.std.proofs.Common.{◌+◌, ◌<◌}
use Rattle.rail_model.specs.Blocking.{hop_count, place}
use Rattle.blocking_time.proofs.course.blocks_to.Given as goal

-- the place lies beyond the blocks so far
abbrev pub invariant-loop-step : goal.invariant-loop-step
invariant-loop-step l = record {
  on_path : l.k + l.step < hop_count l.path;
  beyond : place l.path (l.k + l.step) < l.metres;
}

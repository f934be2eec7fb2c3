use Rattle.std.proofs.Common.{◌+◌, ◌<◌, ◌≤◌}
use Rattle.rail_model.specs.Blocking.{hop_count, place}
use Rattle.blocking_time.proofs.course.blocks_back.Given as goal

-- the place lies up to the end of the block beyond the last of these
abbrev pub invariant-loop : goal.invariant-loop
invariant-loop l = record {
  on_path : l.last < hop_count l.path;
  within : l.metres ≤ place l.path (l.last + 1);
}

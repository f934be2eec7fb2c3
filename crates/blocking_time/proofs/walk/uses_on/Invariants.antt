use Rattle.std.proofs.Common.{◌≡◌, map}
use Rattle.std.specs.List.{range_with_len}
use Rattle.rail_model.specs.Blocking.{use_of}
use Rattle.blocking_time.specs.Blocking.{uses_on}
use Rattle.blocking_time.specs.Mark.{stop_mark}
use Rattle.blocking_time.proofs.walk.uses_on.Given as goal

abbrev pub invariant-loop-done : goal.invariant-loop-done
invariant-loop-done l = record {
  uses : l.uses.items ≡ uses_on l.wanted (map (use_of l.path) (range_with_len 1 l.done));
  stop : l.stop ≡ stop_mark l.path l.done;
}

-- Marks: where blocks end, when the head leaves from there, and the last stop so far.
use Rattle.std.specs.Prelude.{ℕ, ◌+◌, ◌≤◌, zero, suc, nat_lt, if◌then◌else◌, List, map}
use Rattle.std.specs.List.{range_with_len}
use Rattle.rail_model.specs.declared.path.Path.{Path}
use Rattle.rail_model.specs.Blocking.{hop, hop_count, place, departure}
use Rattle.blocking_time.specs.declared.motion.Mark.{Mark}
use Rattle.blocking_time.specs.declared.motion.TheConstants.{GREATEST_PLACE_M, GREATEST_DEPARTURE_S}

-- the end of the k-th block and the departure from it
abbrev pub mark_of : Path → ℕ → Mark
mark_of path k = record { place_m = place path k; departure_s = departure path k }

-- the marks of the path's start and of the ends of all blocks
abbrev pub marks_of : Path → List Mark
marks_of path = map (mark_of path) (range_with_len 0 (hop_count path + 1))

-- stands where the train has not stopped yet
abbrev pub no_stop : Mark
no_stop = record { place_m = 0; departure_s = 0 }

-- the mark of the last stop among the ends of the first k blocks
abbrev pub stop_mark : Path → ℕ → Mark
stop_mark path zero = no_stop
stop_mark path (suc k) = if nat_lt 0 (hop path (suc k)).dwell_s then mark_of path (suc k) else stop_mark path k

-- a mark is not beyond the end of the longest path
pub record IsMarkWithin (m : Mark) : Type 0 where
  pub place : m.place_m ≤ GREATEST_PLACE_M
  pub departure : m.departure_s ≤ GREATEST_DEPARTURE_S

-- Paths, the motion of a train's head along them, and blocking times: how long a run keeps each block from all others.
use Rattle.std.specs.Prelude.{◌≡◌, ℕ, ◌-◌, ◌<◌, ◌≤◌, length, map, slice_index_or, AllPairs, All, ◌≢◌, zero, suc, ◌+◌, ◌*◌, ◌/◌, nat_lt, take, sum_by, count_by, max, ℤ, pos, ◌+ℤ◌, ◌-ℤ◌, nat_le, ◌&&◌, if◌then◌else◌, List, [], ◌∷◌, filter, fold}
use Rattle.rail_model.specs.Types.{Hop, Path, Use, Stair}
use Rattle.rail_model.specs.declared.limits.TheConstants.{BLOCKS, PATH_HOPS, GREATEST_LENGTH_M, GREATEST_START_S, GREATEST_TIME_S}
use Rattle.std.specs.List.{range_with_len}
use Rattle.std.specs.Int.{div_ceil}

-- a placeholder where a path has no hop
abbrev pub no_hop : Hop
no_hop = record {
  block = 0;
  block_m = 0;
  approach_m = 0;
  watch_s = 0;
  form_s = 0;
  overlap_m = 0;
  release_s = 0;
  running_s = 0;
  dwell_s = 0;
}

-- the k-th hop, from 1
abbrev pub hop : Path → ℕ → Hop
hop path k = slice_index_or path.hops (k - 1) no_hop

-- how many hops there are
abbrev pub hop_count : Path → ℕ
hop_count path = length path.hops

-- the numbers of a hop are within the limits
pub record IsHopWithin (h : Hop) : Type 0 where
  pub block : h.block < BLOCKS
  pub some_length : 0 < h.block_m
  pub most_length : h.block_m ≤ GREATEST_LENGTH_M
  pub approach : h.approach_m ≤ GREATEST_LENGTH_M
  pub overlap : h.overlap_m ≤ GREATEST_LENGTH_M
  pub watch : h.watch_s ≤ GREATEST_TIME_S
  pub form : h.form_s ≤ GREATEST_TIME_S
  pub release : h.release_s ≤ GREATEST_TIME_S
  pub some_running : 0 < h.running_s
  pub most_running : h.running_s ≤ GREATEST_TIME_S
  pub dwell : h.dwell_s ≤ GREATEST_TIME_S

-- a path fits: it has 1 to 256 hops over different blocks, all numbers are within the limits, and the run ends without a dwell
pub record Fits (path : Path) : Type 0 where
  pub some : 0 < hop_count path
  pub most : hop_count path ≤ PATH_HOPS
  pub blocks_differ : AllPairs (λ a b. a ≢ b) (map (λ h. h.block) path.hops)
  pub some_length : 0 < path.length_m
  pub most_length : path.length_m ≤ GREATEST_LENGTH_M
  pub tail : path.tail_s ≤ GREATEST_TIME_S
  pub start : path.start_s ≤ GREATEST_START_S
  pub hops : All IsHopWithin path.hops
  pub last_dwell : (hop path (hop_count path)).dwell_s ≡ 0

-- the place at which the k-th block ends, in metres from the path's start: the lengths of the first k blocks
abbrev pub place : Path → ℕ → ℕ
place path k = sum_by (λ h. h.block_m) (take k path.hops)

-- when the head leaves the end of the k-th block: the start, and the running and dwell times of the first k blocks
abbrev pub departure : Path → ℕ → ℕ
departure path k = path.start_s + sum_by (λ h. h.running_s + h.dwell_s) (take k path.hops)

-- when the head comes to the end of the k-th block
abbrev pub arrival : Path → ℕ → ℕ
arrival path zero = path.start_s
arrival path (suc k) = departure path k + (hop path (suc k)).running_s

-- how many blocks end before a place
abbrev pub blocks_before : Path → ℕ → ℕ
blocks_before path x = count_by (λ k. nat_lt (place path k) x) (range_with_len 1 (hop_count path))

-- when the head reaches a place of the path, up to its end, rounded up to a second; at place 0 that is the start
abbrev pub reach : Path → ℕ → ℕ
reach path x =
    let k = blocks_before path x in
    departure path k + div_ceil ((x - place path k) * (hop path (k + 1)).running_s) (hop path (k + 1)).block_m

-- when the head reaches a place of the path, up to its end, rounded down to a second
abbrev pub reach_down : Path → ℕ → ℕ
reach_down path x =
    let k = blocks_before path x in
    departure path k + ((x - place path k) * (hop path (k + 1)).running_s) / (hop path (k + 1)).block_m

-- the place from which the driver must see the k-th block's signal clear: the approach before the signal, or the start of the
-- path, since a difference of lengths ends at 0
abbrev pub approach_point : Path → ℕ → ℕ
approach_point path k = place path (k - 1) - (hop path k).approach_m

-- the ends of blocks before the k-th one at which the train stops, at or beyond a place
abbrev pub stops_from : Path → ℕ → ℕ → List ℕ
stops_from path k y =
    filter (λ m. nat_lt 0 (hop path m).dwell_s && nat_le y (place path m)) (range_with_len 1 (k - 1))

-- the approach moment: when the head comes to the approach point or, later, leaves the last stop beyond it
abbrev pub approach_moment : Path → ℕ → ℕ
approach_moment path k =
    fold max (reach_down path (approach_point path k)) (map (departure path) (stops_from path k (approach_point path k)))

-- the place at which the head stands when the rear has cleared the k-th block and its overlap
abbrev pub clearing_place : Path → ℕ → ℕ
clearing_place path k = place path k + (hop path k).overlap_m + path.length_m

-- the clearing moment: when the head comes to that place or, where the path ends before it, the tail after the last arrival
abbrev pub clearing_moment : Path → ℕ → ℕ
clearing_moment path k =
    if nat_le (clearing_place path k) (place path (hop_count path)) then reach path (clearing_place path k)
    else arrival path (hop_count path) + path.tail_s

-- the blocking of the k-th block starts with the forming of its route and the driver's watching, before the approach moment
abbrev pub blocking_start : Path → ℕ → ℤ
blocking_start path k = pos (approach_moment path k) -ℤ pos (hop path k).watch_s -ℤ pos (hop path k).form_s

-- it ends when the cleared block is released
abbrev pub blocking_end : Path → ℕ → ℤ
blocking_end path k = pos (clearing_moment path k) +ℤ pos (hop path k).release_s

-- the six parts of the blocking: forming, watching, approach, running, clearing, releasing
abbrev pub parts : Path → ℕ → List ℤ
parts path k =
    pos (hop path k).form_s
    ∷ pos (hop path k).watch_s
    ∷ (pos (departure path (k - 1)) -ℤ pos (approach_moment path k))
    ∷ (pos (departure path k) -ℤ pos (departure path (k - 1)))
    ∷ (pos (clearing_moment path k) -ℤ pos (departure path k))
    ∷ pos (hop path k).release_s
    ∷ []

-- the k-th block's use by the run
abbrev pub use_of : Path → ℕ → Use
use_of path k = record { block = (hop path k).block; start = blocking_start path k; «end» = blocking_end path k }

-- the run's stairway: the uses of all its blocks
abbrev pub stairway : Path → List Use
stairway path = map (use_of path) (range_with_len 1 (hop_count path))

-- a run's stair: its name and its stairway
abbrev pub stair_of : Path → Stair
stair_of path = record { run = path.run; uses = stairway path }

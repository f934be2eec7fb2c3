use Rattle.std.proofs.Common.{◌≡◌, ◌+◌, ◌-◌, ◌<◌, ◌≤◌, ◌⊎◌}
use Rattle.rail_model.specs.Blocking.{hop_count, place}
use Rattle.blocking_time.proofs.course.blocks_before.Given as goal

-- the place lies in one of the blocks beyond the ends from low to high
abbrev pub invariant-loop-low : goal.invariant-loop-low
invariant-loop-low l =
    (l.low ≤ l.high) × (l.high < hop_count l.path) × ((l.low ≡ 0) ⊎ (place l.path l.low < l.metres)) × (l.metres ≤ place l.path (l.high + 1))

abbrev pub decreases-loop-low : goal.decreases-loop-low
decreases-loop-low l = l.high - l.low

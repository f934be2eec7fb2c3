-- The law of the head's motion in the form of the textbooks.
use Rattle.std.specs.Prelude.{◌≡◌, ℕ, ◌+◌, ◌-◌, ◌*◌, ◌/◌, ◌<◌, ◌≤◌}
use Rattle.std.specs.Int.{div_ceil}
use Rattle.rail_model.specs.declared.path.Path.{Path}
use Rattle.rail_model.specs.Blocking.{hop, hop_count, place, departure, reach, reach_down}

-- the head passes the path's start at the start, and inside each block its time grows evenly from the departure at the
-- block's start: by the running time's share of the metres covered, rounded up or down to a second
pub record HasConstantSpeed (path : Path) : Type 0 where
  pub entry : reach path 0 ≡ path.start_s
  pub up : (k x : ℕ) → k < hop_count path → place path k < x → x ≤ place path (k + 1)
      → reach path x ≡ departure path k + div_ceil ((x - place path k) * (hop path (k + 1)).running_s) (hop path (k + 1)).block_m
  pub down : (k x : ℕ) → k < hop_count path → place path k < x → x ≤ place path (k + 1)
      → reach_down path x ≡ departure path k + ((x - place path k) * (hop path (k + 1)).running_s) / (hop path (k + 1)).block_m

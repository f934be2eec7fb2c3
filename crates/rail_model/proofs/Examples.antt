-- The definitions of motion and blocking, evaluated on small lines whose times were worked out by hand.
use Rattle.std.proofs.Common.{◌≡◌, ℕ, List, [], ◌∷◌, refl, pos, map}
use Rattle.rail_model.specs.declared.path.Hop.{Hop}
use Rattle.rail_model.specs.declared.path.Path.{Path}
use Rattle.rail_model.specs.declared.stair.Use.{Use}
use Rattle.rail_model.specs.Blocking.{stairway, parts}

-- a hop over a block of this number and length, whose signal has this approach and overlap
abbrev hop_over : ℕ → ℕ → ℕ → ℕ → ℕ → ℕ → Hop
hop_over block metres approach overlap running dwell = record {
  block = block;
  block_m = metres;
  approach_m = approach;
  watch_s = 10;
  form_s = 5;
  overlap_m = overlap;
  release_s = 5;
  running_s = running;
  dwell_s = dwell;
}

-- a train of this length that starts at 100 and clears the end of its path in 10 seconds
abbrev train : ℕ → List Hop → Path
train metres hops = record { run = 84 ∷ []; length_m = metres; tail_s = 10; start_s = 100; hops = hops }

abbrev kept : ℕ → ℕ → ℕ → Use
kept block from to = record { block = block; start = pos from; «end» = pos to }

-- two blocks of 1000 m, run in 60 s each
abbrev two_blocks : ℕ → Path
two_blocks metres = train metres (hop_over 0 1000 1000 0 60 0 ∷ hop_over 1 1000 1000 0 60 0 ∷ [])

plain : stairway (two_blocks 100) ≡ kept 0 85 171 ∷ kept 1 85 235 ∷ []
plain = refl

plain_first : parts (two_blocks 100) 1 ≡ map pos (5 ∷ 10 ∷ 0 ∷ 60 ∷ 6 ∷ 5 ∷ [])
plain_first = refl

plain_second : parts (two_blocks 100) 2 ≡ map pos (5 ∷ 10 ∷ 60 ∷ 60 ∷ 10 ∷ 5 ∷ [])
plain_second = refl

-- a stop of 30 s at the end of the first block takes the approach to the second away
abbrev with_stop : Path
with_stop = train 100 (hop_over 0 1000 1000 0 60 30 ∷ hop_over 1 1000 1000 0 60 0 ∷ [])

stop : stairway with_stop ≡ kept 0 85 201 ∷ kept 1 175 265 ∷ []
stop = refl

stop_first : parts with_stop 1 ≡ map pos (5 ∷ 10 ∷ 0 ∷ 90 ∷ 6 ∷ 5 ∷ [])
stop_first = refl

stop_second : parts with_stop 2 ≡ map pos (5 ∷ 10 ∷ 0 ∷ 60 ∷ 10 ∷ 5 ∷ [])
stop_second = refl

-- a train of 1000 m clears the first block exactly at the path's end, one of 1001 m by the tail
long : stairway (two_blocks 1000) ≡ kept 0 85 225 ∷ kept 1 85 235 ∷ []
long = refl

long_first : parts (two_blocks 1000) 1 ≡ map pos (5 ∷ 10 ∷ 0 ∷ 60 ∷ 60 ∷ 5 ∷ [])
long_first = refl

longer : stairway (two_blocks 1001) ≡ kept 0 85 235 ∷ kept 1 85 235 ∷ []
longer = refl

longer_first : parts (two_blocks 1001) 1 ≡ map pos (5 ∷ 10 ∷ 0 ∷ 60 ∷ 70 ∷ 5 ∷ [])
longer_first = refl

-- the approach moment is rounded down, and the clearing moment up
abbrev uneven : Path
uneven = train 121 (hop_over 0 700 0 30 50 0 ∷ hop_over 1 300 250 0 40 0 ∷ [])

rounded : stairway uneven ≡ kept 0 85 176 ∷ kept 1 117 205 ∷ []
rounded = refl

rounded_first : parts uneven 1 ≡ map pos (5 ∷ 10 ∷ 0 ∷ 50 ∷ 21 ∷ 5 ∷ [])
rounded_first = refl

rounded_second : parts uneven 2 ≡ map pos (5 ∷ 10 ∷ 18 ∷ 40 ∷ 10 ∷ 5 ∷ [])
rounded_second = refl

-- The moments of a run at one block, and what they say of its blocking.
use Rattle.std.specs.Prelude.{ℕ, ◌-◌, ◌≤◌, ℤ, pos, ◌+ℤ◌, ◌-ℤ◌, List, [], ◌∷◌}
use Rattle.rail_model.specs.declared.path.Hop.{Hop}
use Rattle.rail_model.specs.declared.path.Path.{Path}
use Rattle.rail_model.specs.declared.stair.Use.{Use}
use Rattle.rail_model.specs.Blocking.{departure, approach_moment, clearing_moment}
use Rattle.blocking_time.specs.declared.motion.TheConstants.{GREATEST_REACH_S}
use Rattle.blocking_time.specs.declared.moments.Moments.{Moments}

-- the moments at the k-th block
abbrev pub moments_of : Path → ℕ → Moments
moments_of path k = record {
  approach_s = approach_moment path k;
  entry_s = departure path (k - 1);
  exit_s = departure path k;
  clearing_s = clearing_moment path k;
}

-- the block's use from the forming of its route to its release
abbrev pub use_by : Moments → Hop → Use
use_by m h = record {
  block = h.block;
  start = pos m.approach_s -ℤ pos h.watch_s -ℤ pos h.form_s;
  «end» = pos m.clearing_s +ℤ pos h.release_s;
}

-- the six parts of that use
abbrev pub parts_by : Moments → Hop → List ℤ
parts_by m h =
    pos h.form_s
    ∷ pos h.watch_s
    ∷ (pos m.entry_s -ℤ pos m.approach_s)
    ∷ (pos m.exit_s -ℤ pos m.entry_s)
    ∷ (pos m.clearing_s -ℤ pos m.exit_s)
    ∷ pos h.release_s
    ∷ []

-- no moment is later than the greatest one
pub record AreBounded (m : Moments) : Type 0 where
  pub approach : m.approach_s ≤ GREATEST_REACH_S
  pub entry : m.entry_s ≤ GREATEST_REACH_S
  pub exit : m.exit_s ≤ GREATEST_REACH_S
  pub clearing : m.clearing_s ≤ GREATEST_REACH_S

-- The stairs of runs that start too late to enter a section.
use Rattle.std.specs.Prelude.{◌≡◌, ◌⊎◌, ℕ, ◌+◌, ◌<◌, ◌≤◌, nat_le, false, if◌then◌else◌, List, [], length, All, slice_index_or}
use Rattle.rail_model.specs.declared.items.Run.{Run}
use Rattle.rail_model.specs.declared.items.Section.{Section}
use Rattle.rail_model.specs.declared.path.Path.{Path}
use Rattle.rail_model.specs.declared.stair.Stair.{Stair}
use Rattle.rail_model.specs.declared.tables.Tables.{Tables}
use Rattle.rail_model.specs.Blocking.{stair_of}
use Rattle.rail_model.specs.Tables.{run_at, path_in}
use Rattle.plan_model.specs.Cut.{is_member}

-- forming and watching take no longer than this at any hop of these paths
abbrev pub IsLead : List Path → ℕ → Type 0
IsLead paths lead = All (λ path. All (λ h. h.watch_s + h.form_s ≤ lead) path.hops) paths

-- a run's stair without its uses
abbrev pub bare_stair : Run → Stair
bare_stair run = record { run = run.name; uses = [] }

-- a run's stair for a window that ends at a moment: without its uses where the run starts the lead
-- after it or later
abbrev pub stair_to : Tables → ℕ → ℕ → Run → Stair
stair_to tables to_s lead run =
    if nat_le (to_s + lead) run.start_s then bare_stair run else stair_of (path_in tables run)

-- a run's own stair or, where the run is no member of the section, its stair without uses
abbrev pub IsStairFor : Tables → Section → Run → Stair → Type 0
IsStairFor tables section run stair =
    (stair ≡ stair_of (path_in tables run)) ⊎ ((stair ≡ bare_stair run) × (is_member tables section run ≡ false))

-- such a stair for each run, in the order of the runs' names
pub record AreStairsFor (tables : Tables) (section : Section) (stairs : List Stair) : Type 0 where
  pub count : length stairs ≡ length tables.runs
  pub each : (n : ℕ) (d : Stair) → n < length tables.runs
      → IsStairFor tables section (run_at tables n) (slice_index_or stairs n d)

-- such a stair for each run from a number on, in the same order, as far as there are stairs
pub record AreStairsFrom (tables : Tables) (section : Section) (from : ℕ) (stairs : List Stair) : Type 0 where
  pub count : from + length stairs ≤ length tables.runs
  pub each : (k : ℕ) (d : Stair) → k < length stairs
      → IsStairFor tables section (run_at tables (from + k)) (slice_index_or stairs k d)

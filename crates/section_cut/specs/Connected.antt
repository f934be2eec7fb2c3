-- The connections of a run, and the entries of runs, by which connections bind.
use Rattle.std.specs.Prelude.{◌≡◌, ℕ, ◌+◌, ◌≤◌, ℤ, Bool, true, not, ◌||◌, if◌then◌else◌, nat_lt, List, ◌++◌, length, filter, find, slice_set, Option, Some, None, option_map, option_and_then}
use Rattle.std.specs.List.{list_any}
use Rattle.rail_model.specs.declared.items.Run.{Run}
use Rattle.rail_model.specs.declared.items.Section.{Section}
use Rattle.rail_model.specs.declared.items.Connection.{Connection}
use Rattle.rail_model.specs.declared.tables.Tables.{Tables}
use Rattle.rail_model.specs.declared.limits.TheConstants.{GREATEST_TIME_S}
use Rattle.rail_model.specs.Name.{is_same}
use Rattle.rail_model.specs.Rules.{is_named, has_run}
use Rattle.rail_model.specs.Tables.{number_of, run_named}
use Rattle.rail_model.specs.declared.stair.Use.{Use}
use Rattle.plan_model.specs.declared.cut.CutRow.{CutRow}
use Rattle.plan_model.specs.Cut.{section_uses, entry_of, is_member, connection_use, uses_of_connections}
use Rattle.section_cut.specs.Members.{member_row}

-- a connection is one of the run of a name
abbrev pub joins : List ℕ → Connection → Bool
joins name c = is_same c.first name || is_same c.second name

-- a run has one
abbrev pub is_joined : Tables → Run → Bool
is_joined tables run = list_any (joins run.name) tables.connections

-- what is told of each run, with a yes for the run of a name
abbrev pub with_told : Tables → List ℕ → List Bool → List Bool
with_told tables name told = slice_set told (number_of (λ r. r.name) tables.runs name) true

-- a connection is one of the run of a name, and its minimum is within the limit
pub record IsOneOf (name : List ℕ) (c : Connection) : Type 0 where
  pub one : joins name c ≡ true
  pub minimum : c.minimum_s ≤ GREATEST_TIME_S

-- both runs of a connection are there
pub record IsOfRuns (tables : Tables) (c : Connection) : Type 0 where
  pub first : has_run tables c.first ≡ true
  pub second : has_run tables c.second ≡ true

-- of uses those of a section's blocks
abbrev pub block_part : Section → List Use → List Use
block_part section uses = filter (λ u. nat_lt u.block (length section.blocks)) uses

-- and those of connections
abbrev pub rest_part : Section → List Use → List Use
rest_part section uses = filter (λ u. not (nat_lt u.block (length section.blocks))) uses

-- a row with the uses of connections of another, if that is there
abbrev pub with_rest : Section → Option CutRow → CutRow → CutRow
with_rest section None row = row
with_rest section (Some own) row = record row { uses = row.uses ++ rest_part section own.uses }

module _ (tables : Tables) (section : Section) where
  -- a run's entry to a section, if it is a member
  abbrev pub entry_in : Run → Option ℤ
  entry_in run = if is_member tables section run then Some (entry_of tables section run) else None

  -- a row has the entry of the run of a name; or there is none, and the run is no member
  abbrev pub HasEntryOf : List ℕ → Option CutRow → Type 0
  HasEntryOf name row = option_map (λ r. r.entry) row ≡ entry_in (run_named tables name)

  -- this tells for each name of a run that is there a row with its entry, if it is a member
  abbrev pub TellsEntries : (List ℕ → Option CutRow) → Type 0
  TellsEntries row = (name : List ℕ) → has_run tables name ≡ true → HasEntryOf name (row name)

  -- a run's use of a connection, if that is one of these names of connections that bind
  abbrev pub use_if_listed : List (List ℕ) → Run → Connection → Option Use
  use_if_listed names run c =
      if is_named (λ n. n) names c.name
      then connection_use tables section run (length section.blocks + number_of (λ n. n) names c.name, c)
      else None

  -- a row with its run's uses of the connections that bind
  abbrev pub with_bound : Run → CutRow → CutRow
  with_bound run row = record row { uses = row.uses ++ uses_of_connections tables section run }

  -- the row of a run with these uses, if it is there and a member
  abbrev pub row_in : ℕ → Option Run → Option CutRow
  row_in stamp found =
      option_and_then (λ run. option_map (with_bound run) (member_row section run.name stamp (section_uses tables section run))) found

-- the row of a name: this one for one name, and for another that among some rows
abbrev pub row_beside : List ℕ → Option CutRow → List CutRow → List ℕ → Option CutRow
row_beside name row rows m = if is_same m name then row else find (λ r. is_same r.name m) rows

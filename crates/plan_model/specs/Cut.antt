-- Cuts: what is said of one, and which members and connections a section has.
use Rattle.std.specs.Prelude.{◌≡◌, ◌≢◌, ℕ, ◌^◌, ◌<◌, ◌≤◌, ℤ, pos, ◌-ℤ◌, ◌<ℤ◌, ◌≤ℤ◌, Bool, not, nat_lt, List, [], ◌∷◌, ◌++◌, length, map, filter, count_by, fold, All, AllPairs, ◌+◌, ◌&&◌, int_lt, int_le, if◌then◌else◌, find, Option, None, Some, option_map}
use Rattle.std.specs.Int.{int_min}
use Rattle.rail_model.specs.declared.stair.Use.{Use}
use Rattle.rail_model.specs.declared.limits.TheConstants.{RUNS, CONNECTIONS, PATH_HOPS, GREATEST_MOMENT_S}
pub use Rattle.rail_model.specs.Moment.{IsMoment}
use Rattle.rail_model.specs.Name.{NamesRise, is_same}
use Rattle.plan_model.specs.Types.{CutRow, Cut}
use Rattle.plan_model.specs.Members.{place_names, block_count, place_count, member, member_count, uses_place, comes_before}
use Rattle.std.specs.List.{filter_map, enumerate_from}
use Rattle.rail_model.specs.declared.items.Run.{Run}
use Rattle.rail_model.specs.declared.items.Section.{Section}
use Rattle.rail_model.specs.declared.items.Connection.{Connection}
use Rattle.rail_model.specs.declared.tables.Tables.{Tables}
use Rattle.rail_model.specs.Blocking.{stairway}
pub use Rattle.rail_model.specs.Tables.{no_run, run_named, last_arrival}
use Rattle.rail_model.specs.Tables.{number_of, block_name, path_in}

-- a row, and a cut at each row, with this stamp
abbrev pub stamped_row : ℕ → CutRow → CutRow
stamped_row stamp row = record row { stamp = stamp }

abbrev pub stamped : ℕ → Cut → Cut
stamped stamp cut = record cut { rows = map (stamped_row stamp) cut.rows }

-- stamps are no part of a cut's value: two cuts have one value where they are equal with all stamps set to 0
abbrev pub IsSameCut : Cut → Cut → Type 0
IsSameCut a b = stamped 0 a ≡ stamped 0 b

-- the least of some numbers, and 0 of none
abbrev pub least : List ℤ → ℤ
least [] = pos 0
least (x ∷ xs) = fold int_min x xs

-- the uses of blocks, and of connections
abbrev pub is_block : Cut → ℕ → Bool
is_block cut place = nat_lt place (block_count cut)

abbrev pub block_uses : Cut → CutRow → List Use
block_uses cut row = filter (λ u. is_block cut u.block) row.uses

abbrev pub connection_uses : Cut → CutRow → List Use
connection_uses cut row = filter (λ u. not (is_block cut u.block)) row.uses

-- a moment of trains that are moved: from -2^50 to 2^50 seconds
pub record IsBounded (t : ℤ) : Type 0 where
  pub after : (pos 0 -ℤ pos (2 ^ 50)) ≤ℤ t
  pub before : t ≤ℤ pos (2 ^ 50)

-- a use of a sound cut: it is of a place of the cut, keeps it for some time, and its moments are within the limit
pub record IsSoundUse (cut : Cut) (u : Use) : Type 0 where
  pub place : u.block < place_count cut
  pub some_time : u.start <ℤ u.«end»
  pub starts : IsMoment u.start
  pub ends : IsMoment u.«end»

-- a row of a sound cut: it has 1 to 256 uses of blocks and then those of connections, each of another place; its
-- entry is the least start on a block, and lies in the window
pub record IsSoundRow (cut : Cut) (row : CutRow) : Type 0 where
  pub some_block : 0 < length (block_uses cut row)
  pub most_blocks : length (block_uses cut row) ≤ PATH_HOPS
  pub blocks_first : row.uses ≡ block_uses cut row ++ connection_uses cut row
  pub places_differ : AllPairs (λ u v. u.block ≢ v.block) row.uses
  pub each : All (IsSoundUse cut) row.uses
  pub entry : row.entry ≡ least (map (λ u. u.start) (block_uses cut row))
  pub from_window : pos cut.section.from_s ≤ℤ row.entry
  pub to_window : row.entry <ℤ pos cut.section.to_s

-- a sound cut: its window, its places and its rows are within the limits, the names of places differ, the names of
-- rows rise, each row is sound, and each connection is used by two rows
pub record IsSoundCut (cut : Cut) : Type 0 where
  pub window : cut.section.from_s < cut.section.to_s
  pub window_start : pos cut.section.from_s ≤ℤ GREATEST_MOMENT_S
  pub some_block : 0 < block_count cut
  pub most_blocks : block_count cut ≤ PATH_HOPS
  pub most_connections : length cut.connections ≤ CONNECTIONS
  pub most_rows : length cut.rows ≤ RUNS
  pub places_differ : AllPairs (λ a b. a ≢ b) (place_names cut)
  pub names_rise : NamesRise (λ r. r.name) cut.rows
  pub each : All (IsSoundRow cut) cut.rows
  pub two_rows : (c : ℕ) → block_count cut ≤ c → c < place_count cut → count_by (λ r. uses_place r c) cut.rows ≡ 2

-- no two uses are of one place
abbrev pub AreOfOtherPlaces : List Use → Type 0
AreOfOtherPlaces uses = AllPairs (λ u v. u.block ≢ v.block) uses

-- the uses of blocks, whose positions are below this number, stand before those of connections
abbrev pub AreBlocksFirst : ℕ → List Use → Type 0
AreBlocksFirst blocks uses =
    uses ≡ filter (λ u. nat_lt u.block blocks) uses ++ filter (λ u. not (nat_lt u.block blocks)) uses

-- what an engine asks of a row: its times are moments, and its uses are of so many places
pub record IsUsable (places : ℕ) (row : CutRow) : Type 0 where
  pub entry : IsMoment row.entry
  pub starts : All (λ u. IsMoment u.start) row.uses
  pub ends : All (λ u. IsMoment u.«end») row.uses
  pub there : All (λ u. u.block < places) row.uses

-- the members of a sound cut have moments within the limit, at places of the cut
abbrev pub MembersAreUsable : Type 0
MembersAreUsable =
    (cut : Cut) (i : ℕ) → IsSoundCut cut → i < member_count cut → IsUsable (place_count cut) (member cut i)

module _ (tables : Tables) (section : Section) where
  -- the position of a block in the section's list, or the list's length where it isn't there
  abbrev pub position_in_section : ℕ → ℕ
  position_in_section block = number_of (λ n. n) section.blocks (block_name tables block)

  -- a use of a stairway, with its block by this position
  abbrev pub use_in_section : Use → Use
  use_in_section u = record u { block = position_in_section u.block }

  -- a run's uses of the section's blocks, in the order of its path
  abbrev pub section_uses : Run → List Use
  section_uses run =
      filter (λ u. nat_lt u.block (length section.blocks)) (map use_in_section (stairway (path_in tables run)))

  -- a run's entry to the section: the least start of these uses
  abbrev pub entry_of : Run → ℤ
  entry_of run = least (map (λ u. u.start) (section_uses run))

  -- a run is a member where it uses a block of the section and enters within the window
  abbrev pub is_member : Run → Bool
  is_member run =
      nat_lt 0 (length (section_uses run))
      && int_le (pos section.from_s) (entry_of run) && int_lt (entry_of run) (pos section.to_s)

  -- a connection binds where both its runs are members and the first's entry here is before the second's own start or,
  -- at one moment, its name is the lesser
  abbrev pub binds : Connection → Bool
  binds c =
      is_member (run_named tables c.first) && is_member (run_named tables c.second)
      && comes_before (entry_of (run_named tables c.first)) c.first (pos (run_named tables c.second).start_s) c.second

  abbrev pub binding_connections : List Connection
  binding_connections = filter binds tables.connections

  -- a run's use of a connection at a place of the cut: as the first run from its entry until the minimum after its
  -- last arrival, as the second run the one second at its start
  abbrev pub connection_use : Run → ℕ × Connection → Option Use
  connection_use run (place, c) =
      if is_same c.first run.name
      then Some (record { block = place; start = entry_of run; «end» = pos (last_arrival tables run + c.minimum_s) })
      else if is_same c.second run.name
      then Some (record { block = place; start = pos run.start_s; «end» = pos (run.start_s + 1) })
      else None

  -- its uses of the connections that bind, which follow the section's blocks
  abbrev pub uses_of_connections : Run → List Use
  uses_of_connections run =
      filter_map (connection_use run) (enumerate_from (length section.blocks) binding_connections)

  -- a member's row
  abbrev pub row_of : Run → CutRow
  row_of r = record { name = r.name; stamp = 0; entry = entry_of r; uses = section_uses r ++ uses_of_connections r }

  -- the section's cut
  abbrev pub section_cut : Cut
  section_cut = record {
    section = section;
    connections = map (λ c. c.name) binding_connections;
    rows = map row_of (filter is_member tables.runs);
  }

-- the cut of the section of a name, with 0 for its stamps; absent where the section isn't there
abbrev pub cut_of : Tables → List ℕ → Option Cut
cut_of tables name = option_map (section_cut tables) (find (λ s. is_same s.name name) tables.sections)

-- Connections that bind: what they add to the rows of their two runs.
use Rattle.std.specs.Prelude.{◌≡◌, ℕ, ◌+◌, ◌<◌, pos, true, List, [], ◌∷◌, ◌++◌, length, slice_set, slice_index_or}
use Rattle.std.specs.List.{filter_map, enumerate_from}
use Rattle.rail_model.specs.declared.items.Section.{Section}
use Rattle.rail_model.specs.declared.items.Connection.{Connection}
use Rattle.rail_model.specs.declared.tables.Tables.{Tables}
use Rattle.rail_model.specs.declared.stair.Use.{Use}
use Rattle.rail_model.specs.Tables.{no_run, run_named, last_arrival}
use Rattle.plan_model.specs.declared.cut.CutRow.{CutRow}
use Rattle.plan_model.specs.Members.{no_member}
use Rattle.plan_model.specs.Cut.{entry_of, is_member, binds, connection_use}
use Rattle.section_cut.specs.declared.members.Member.{Member}
use Rattle.section_cut.specs.declared.connections.Bound.{Bound}
use Rattle.section_cut.specs.Members.{members_of}

-- a row with a use more, and rows with a use more in one of them
abbrev pub with_use : CutRow → Use → CutRow
with_use row u = record row { uses = row.uses ++ u ∷ [] }

abbrev pub use_added : List CutRow → ℕ → Use → List CutRow
use_added rows i u = slice_set rows i (with_use (slice_index_or rows i no_member) u)

-- the uses of a place by the two runs of a connection that binds
abbrev pub first_use : Bound → ℕ → Use
first_use bound place = record { block = place; start = bound.entry; «end» = bound.until }

abbrev pub second_use : Bound → ℕ → Use
second_use bound place = record { block = place; start = pos bound.start_s; «end» = pos (bound.start_s + 1) }

-- rows with both
abbrev pub both_added : List CutRow → Bound → ℕ → List CutRow
both_added rows bound place =
    use_added (use_added rows bound.first_row (first_use bound place)) bound.second_row (second_use bound place)

module _ (tables : Tables) (section : Section) where
  -- a row with its run's uses of some connections, in their order
  abbrev pub with_connections : List Connection → CutRow → CutRow
  with_connections some row = record row {
    uses = row.uses
        ++ filter_map (connection_use tables section (run_named tables row.name))
        (enumerate_from (length section.blocks) some);
  }

  -- the run of a name is a member: this one, with its row and its entry
  pub record IsMember (name : List ℕ) (member : Member) : Type 0 where
    pub is : is_member tables section (run_named tables name) ≡ true
    pub there : member.row < length (members_of tables section)
    pub row : (slice_index_or (members_of tables section) member.row no_run).name ≡ name
    pub entry : member.entry ≡ entry_of tables section (run_named tables name)

  -- what is found of a connection that binds: the rows of its runs, and the moments of their uses
  pub record IsBound (c : Connection) (bound : Bound) : Type 0 where
    pub binds : binds tables section c ≡ true
    pub first_there : bound.first_row < length (members_of tables section)
    pub first : (slice_index_or (members_of tables section) bound.first_row no_run).name ≡ c.first
    pub second_there : bound.second_row < length (members_of tables section)
    pub second : (slice_index_or (members_of tables section) bound.second_row no_run).name ≡ c.second
    pub entry : bound.entry ≡ entry_of tables section (run_named tables c.first)
    pub until : bound.until ≡ pos (last_arrival tables (run_named tables c.first) + c.minimum_s)
    pub start : bound.start_s ≡ (run_named tables c.second).start_s

-- An edit of a connection: what it leaves of the tables, and the use that another minimum changes.
use Rattle.std.specs.Prelude.{◌≡◌, ◌==◌, ℕ, ℤ, if◌then◌else◌, All, List, find, map, Option, Some, None}
use Rattle.rail_model.specs.declared.items.Item.{Item}
use Rattle.rail_model.specs.declared.items.Item.TheVariants as item
use Rattle.rail_model.specs.declared.items.Connection.{Connection}
use Rattle.rail_model.specs.declared.edit.Kind.{Kind}
use Rattle.rail_model.specs.declared.edit.Kind.TheVariants as kind
use Rattle.rail_model.specs.declared.edit.Edit.{Edit}
use Rattle.rail_model.specs.declared.edit.Edit.TheVariants as edit
use Rattle.rail_model.specs.declared.tables.Tables.{Tables}
use Rattle.rail_model.specs.declared.stair.Use.{Use}
use Rattle.rail_model.specs.Rules.{with_changed}
use Rattle.rail_model.specs.Name.{is_same}
use Rattle.section_cut.specs.declared.one_connection.EditedConnection.{EditedConnection}
use Rattle.section_cut.specs.OneRun.{before, behind}

-- the connection that an item is, and that items of a kind are, by its name
abbrev pub connection_of_item : Item → Option (List ℕ)
connection_of_item (item.Block b) = None
connection_of_item (item.Signal s) = None
connection_of_item (item.Route r) = None
connection_of_item (item.Run r) = None
connection_of_item (item.Section s) = None
connection_of_item (item.Connection c) = Some c.name

abbrev pub connection_of_kind : Kind → List ℕ → Option (List ℕ)
connection_of_kind kind.Block n = None
connection_of_kind kind.Signal n = None
connection_of_kind kind.Route n = None
connection_of_kind kind.Run n = None
connection_of_kind kind.Section n = None
connection_of_kind kind.Connection n = Some n

-- the name of the connection that an edit puts, changes or drops, if it is an edit of a connection
abbrev pub connection_edited : Edit → Option (List ℕ)
connection_edited (edit.Put x) = connection_of_item x
connection_edited (edit.Change x) = connection_of_item x
connection_edited (edit.Drop k n) = connection_of_kind k n

-- the tables differ in this connection alone; and what it is by the later ones, if it is there
pub record IsEditedConnection (earlier later : Tables) (edited : EditedConnection) : Type 0 where
  pub others : later ≡ record earlier { connections = later.connections }
  pub front : before (λ c. c.name) edited.name later.connections ≡ before (λ c. c.name) edited.name earlier.connections
  pub back : behind (λ c. c.name) edited.name later.connections ≡ behind (λ c. c.name) edited.name earlier.connections
  pub after : edited.after ≡ find (λ c. is_same c.name edited.name) later.connections

-- a connection, if it has the name of another, is of the same runs
abbrev pub IsOfSameRuns : Connection → Connection → Type 0
IsOfSameRuns c x = x.name ≡ c.name → (x.first ≡ c.first) × (x.second ≡ c.second)

-- the tables differ in the minimum of this connection alone
pub record IsMinimumChanged (earlier later : Tables) (c : Connection) : Type 0 where
  pub others : later ≡ record earlier { connections = later.connections }
  pub changed : later.connections ≡ with_changed (λ x. x.name) earlier.connections c
  pub runs : All (IsOfSameRuns c) earlier.connections

-- a use, and uses of which that of a place ends at this moment
abbrev pub ending : ℕ → ℤ → Use → Use
ending place until u = if u.block == place then record u { «end» = until } else u

abbrev pub uses_ending : ℕ → ℤ → List Use → List Use
uses_ending place until uses = map (ending place until) uses

-- What an edit of a run, a section or a connection leaves of tables.
use Rattle.std.proofs.Common.{◌≡◌, ℕ, List, Option, Some, refl, sym, ap, ◌∙◌, subst}
use Rattle.std.specs.Prelude.{find, option_map}
use Rattle.rail_model.specs.declared.items.Run.{Run}
use Rattle.rail_model.specs.declared.items.Section.{Section}
use Rattle.plan_model.specs.Cut.{section_cut, cut_of}
use Rattle.rail_model.specs.declared.items.Item.{Item}
use Rattle.rail_model.specs.declared.items.Item.TheVariants as item
use Rattle.rail_model.specs.declared.edit.Kind.{Kind}
use Rattle.rail_model.specs.declared.edit.Kind.TheVariants as kind
use Rattle.rail_model.specs.declared.edit.Edit.{Edit}
use Rattle.rail_model.specs.declared.edit.Edit.TheVariants as edit
use Rattle.rail_model.specs.declared.stair.Stair.{Stair}
use Rattle.rail_model.specs.declared.tables.Tables.{Tables}
use Rattle.rail_model.specs.Name.{is_same}
use Rattle.rail_model.specs.Blocking.{stair_of}
use Rattle.rail_model.specs.Tables.{path_in}
use Rattle.rail_model.specs.Rules.{after_put, after_change, after_drop, after}
use Rattle.rail_model.specs.declared.items.Connection.{Connection}
use Rattle.section_cut.specs.declared.one_connection.EditedConnection.{EditedConnection}
use Rattle.section_cut.specs.EditedConnection.{connection_of_item, connection_of_kind, connection_edited, IsEditedConnection}
use Rattle.section_cut.specs.OneRun.{run_of_item, run_of_kind, run_edited, before, behind, IsOneRun}
use Rattle.section_cut.specs.Reach.{section_of_item, section_of_kind, section_edited, IsOneSection}
use Rattle.section_cut.proofs.Around.{found_still, put_front, put_back, change_front, change_back, drop_front, drop_back}

-- all but the run of a name stays
record OthersStay (earlier later : Tables) (name : List ℕ) : Type 0 where
  same : later ≡ record earlier { runs = later.runs }
  front : before (λ (r : Run). r.name) name later.runs ≡ before (λ (r : Run). r.name) name earlier.runs
  back : behind (λ (r : Run). r.name) name later.runs ≡ behind (λ (r : Run). r.name) name earlier.runs

module _ (tables : Tables) (name : List ℕ) where
  by_put : (x : Item) → run_of_item x ≡ Some name → OthersStay tables (after_put tables x) name
  by_put (item.Block b) e = absurd (cc)
  by_put (item.Signal s) e = absurd (cc)
  by_put (item.Route r) e = absurd (cc)
  by_put (item.Run r) e =
      let named : r.name ≡ name = cc in
      subst (OthersStay tables (after_put tables (item.Run r))) named
      (record { same = refl; front = put_front (λ (x : Run). x.name) r tables.runs; back = put_back (λ (x : Run). x.name) r tables.runs })
  by_put (item.Section s) e = absurd (cc)
  by_put (item.Connection c) e = absurd (cc)

  by_change : (x : Item) → run_of_item x ≡ Some name → OthersStay tables (after_change tables x) name
  by_change (item.Block b) e = absurd (cc)
  by_change (item.Signal s) e = absurd (cc)
  by_change (item.Route r) e = absurd (cc)
  by_change (item.Run r) e =
      let named : r.name ≡ name = cc in
      subst (OthersStay tables (after_change tables (item.Run r))) named
      (record { same = refl; front = change_front (λ (x : Run). x.name) r tables.runs; back = change_back (λ (x : Run). x.name) r tables.runs })
  by_change (item.Section s) e = absurd (cc)
  by_change (item.Connection c) e = absurd (cc)

  by_drop : (k : Kind) (n : List ℕ) → run_of_kind k n ≡ Some name → OthersStay tables (after_drop tables k n) name
  by_drop kind.Block n e = absurd (cc)
  by_drop kind.Signal n e = absurd (cc)
  by_drop kind.Route n e = absurd (cc)
  by_drop kind.Run n e =
      let named : n ≡ name = cc in
      subst (OthersStay tables (after_drop tables kind.Run n)) named
      (record { same = refl; front = drop_front (λ (x : Run). x.name) n tables.runs; back = drop_back (λ (x : Run). x.name) n tables.runs })
  by_drop kind.Section n e = absurd (cc)
  by_drop kind.Connection n e = absurd (cc)

  others_stay : (x : Edit) → run_edited x ≡ Some name → OthersStay tables (after tables x) name
  others_stay (edit.Put x) e = by_put x e
  others_stay (edit.Change x) e = by_change x e
  others_stay (edit.Drop k n) e = by_drop k n e

-- an edit of a run is one of this run alone
pub one_run : (earlier later : Tables) (x : Edit) (name : List ℕ) (its : Option Stair) → later ≡ after earlier x → run_edited x ≡ Some name
    → its ≡ option_map (λ run. stair_of (path_in later run)) (find (λ r. is_same r.name name) later.runs)
    → IsOneRun earlier later name its
one_run earlier later x name its is edited stair =
    let stay = subst (λ (t : Tables). OthersStay earlier t name) (sym is) (others_stay earlier name x edited) in
    record { others = stay.same; front = stay.front; back = stay.back; stair = stair }

-- ---- an edit of a section

module _ (tables : Tables) (name : List ℕ) where
  section_put : (x : Item) → section_of_item x ≡ Some name → IsOneSection tables (after_put tables x) name
  section_put (item.Block b) e = absurd (cc)
  section_put (item.Signal s) e = absurd (cc)
  section_put (item.Route r) e = absurd (cc)
  section_put (item.Run r) e = absurd (cc)
  section_put (item.Section s) e =
      let named : s.name ≡ name = cc in
      subst (IsOneSection tables (after_put tables (item.Section s))) named
      (record { others = refl; front = put_front (λ (x : Section). x.name) s tables.sections; back = put_back (λ (x : Section). x.name) s tables.sections })
  section_put (item.Connection c) e = absurd (cc)

  section_changed : (x : Item) → section_of_item x ≡ Some name → IsOneSection tables (after_change tables x) name
  section_changed (item.Block b) e = absurd (cc)
  section_changed (item.Signal s) e = absurd (cc)
  section_changed (item.Route r) e = absurd (cc)
  section_changed (item.Run r) e = absurd (cc)
  section_changed (item.Section s) e =
      let named : s.name ≡ name = cc in
      subst (IsOneSection tables (after_change tables (item.Section s))) named
      (record { others = refl; front = change_front (λ (x : Section). x.name) s tables.sections; back = change_back (λ (x : Section). x.name) s tables.sections })
  section_changed (item.Connection c) e = absurd (cc)

  section_dropped : (k : Kind) (n : List ℕ) → section_of_kind k n ≡ Some name → IsOneSection tables (after_drop tables k n) name
  section_dropped kind.Block n e = absurd (cc)
  section_dropped kind.Signal n e = absurd (cc)
  section_dropped kind.Route n e = absurd (cc)
  section_dropped kind.Run n e = absurd (cc)
  section_dropped kind.Section n e =
      let named : n ≡ name = cc in
      subst (IsOneSection tables (after_drop tables kind.Section n)) named
      (record { others = refl; front = drop_front (λ (x : Section). x.name) n tables.sections; back = drop_back (λ (x : Section). x.name) n tables.sections })
  section_dropped kind.Connection n e = absurd (cc)

  section_after : (x : Edit) → section_edited x ≡ Some name → IsOneSection tables (after tables x) name
  section_after (edit.Put x) e = section_put x e
  section_after (edit.Change x) e = section_changed x e
  section_after (edit.Drop k n) e = section_dropped k n e

pub one_section : (earlier later : Tables) (x : Edit) (name : List ℕ) → later ≡ after earlier x → section_edited x ≡ Some name
    → IsOneSection earlier later name
one_section earlier later x name is edited =
    subst (λ (t : Tables). IsOneSection earlier t name) (sym is) (section_after earlier name x edited)

-- a section of another name is the same after it, and so is its cut
pub others_untouched : (earlier later : Tables) (edited name : List ℕ) → IsOneSection earlier later edited → (edited ≡ name → ⊥)
    → cut_of later name ≡ cut_of earlier name
others_untouched earlier later edited name one other =
    ap (λ (t : Tables). option_map (section_cut t) (find (λ (s : Section). is_same s.name name) later.sections)) one.others
    ∙ ap (option_map (section_cut earlier)) (found_still (λ (s : Section). s.name) edited earlier.sections later.sections one.front one.back name other)

-- ---- an edit of a connection

-- all but the connection of a name stays
record OtherConnectionsStay (earlier later : Tables) (name : List ℕ) : Type 0 where
  same : later ≡ record earlier { connections = later.connections }
  front : before (λ c. c.name) name later.connections ≡ before (λ c. c.name) name earlier.connections
  back : behind (λ c. c.name) name later.connections ≡ behind (λ c. c.name) name earlier.connections

module _ (tables : Tables) (name : List ℕ) where
  connection_put : (x : Item) → connection_of_item x ≡ Some name → OtherConnectionsStay tables (after_put tables x) name
  connection_put (item.Block b) e = absurd (cc)
  connection_put (item.Signal s) e = absurd (cc)
  connection_put (item.Route r) e = absurd (cc)
  connection_put (item.Run r) e = absurd (cc)
  connection_put (item.Section s) e = absurd (cc)
  connection_put (item.Connection c) e =
      let named : c.name ≡ name = cc in
      subst (OtherConnectionsStay tables (after_put tables (item.Connection c))) named
      (record { same = refl; front = put_front (λ (x : Connection). x.name) c tables.connections; back = put_back (λ (x : Connection). x.name) c tables.connections })

  connection_changed : (x : Item) → connection_of_item x ≡ Some name → OtherConnectionsStay tables (after_change tables x) name
  connection_changed (item.Block b) e = absurd (cc)
  connection_changed (item.Signal s) e = absurd (cc)
  connection_changed (item.Route r) e = absurd (cc)
  connection_changed (item.Run r) e = absurd (cc)
  connection_changed (item.Section s) e = absurd (cc)
  connection_changed (item.Connection c) e =
      let named : c.name ≡ name = cc in
      subst (OtherConnectionsStay tables (after_change tables (item.Connection c))) named
      (record { same = refl; front = change_front (λ (x : Connection). x.name) c tables.connections; back = change_back (λ (x : Connection). x.name) c tables.connections })

  connection_dropped : (k : Kind) (n : List ℕ) → connection_of_kind k n ≡ Some name → OtherConnectionsStay tables (after_drop tables k n) name
  connection_dropped kind.Block n e = absurd (cc)
  connection_dropped kind.Signal n e = absurd (cc)
  connection_dropped kind.Route n e = absurd (cc)
  connection_dropped kind.Run n e = absurd (cc)
  connection_dropped kind.Section n e = absurd (cc)
  connection_dropped kind.Connection n e =
      let named : n ≡ name = cc in
      subst (OtherConnectionsStay tables (after_drop tables kind.Connection n)) named
      (record { same = refl; front = drop_front (λ (x : Connection). x.name) n tables.connections; back = drop_back (λ (x : Connection). x.name) n tables.connections })

  connection_after : (x : Edit) → connection_edited x ≡ Some name → OtherConnectionsStay tables (after tables x) name
  connection_after (edit.Put x) e = connection_put x e
  connection_after (edit.Change x) e = connection_changed x e
  connection_after (edit.Drop k n) e = connection_dropped k n e

pub one_connection : (earlier later : Tables) (x : Edit) (edited : EditedConnection) → later ≡ after earlier x → connection_edited x ≡ Some edited.name
    → edited.after ≡ find (λ c. is_same c.name edited.name) later.connections → IsEditedConnection earlier later edited
one_connection earlier later x edited is named found =
    let stay = subst (λ (t : Tables). OtherConnectionsStay earlier t edited.name) (sym is) (connection_after earlier edited.name x named) in
    record { others = stay.same; front = stay.front; back = stay.back; after = found }

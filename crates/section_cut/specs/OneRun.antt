-- An edit of one run: what it leaves of the tables, and the row that it reaches.
use Rattle.std.specs.Prelude.{◌≡◌, ℕ, List, ◌++◌, filter, find, map, length, nat_lt, Option, Some, None, option_map, option_and_then, IfSome, false}
use Rattle.std.specs.Option.{option_to_list}
use Rattle.rail_model.specs.declared.items.Item.{Item}
use Rattle.rail_model.specs.declared.items.Item.TheVariants as item
use Rattle.rail_model.specs.declared.edit.Kind.{Kind}
use Rattle.rail_model.specs.declared.edit.Kind.TheVariants as kind
use Rattle.rail_model.specs.declared.edit.Edit.{Edit}
use Rattle.rail_model.specs.declared.edit.Edit.TheVariants as edit
use Rattle.rail_model.specs.declared.stair.Stair.{Stair}
use Rattle.rail_model.specs.declared.tables.Tables.{Tables}
use Rattle.rail_model.specs.Name.{is_same, is_before}
use Rattle.rail_model.specs.Blocking.{stair_of}
use Rattle.rail_model.specs.Tables.{path_in}
use Rattle.rail_model.specs.declared.items.Section.{Section}
use Rattle.rail_model.specs.declared.stair.Use.{Use}
use Rattle.plan_model.specs.Cut.{use_in_section}
use Rattle.line_tables.specs.Passing.{passes_section}
use Rattle.section_cut.specs.Members.{member_row}
use Rattle.plan_model.specs.declared.cut.CutRow.{CutRow}
use Rattle.plan_model.specs.declared.cut.Cut.{Cut}

-- the run that an item is, and that items of a kind are, by its name
abbrev pub run_of_item : Item → Option (List ℕ)
run_of_item (item.Block b) = None
run_of_item (item.Signal s) = None
run_of_item (item.Route r) = None
run_of_item (item.Run r) = Some r.name
run_of_item (item.Section s) = None
run_of_item (item.Connection c) = None

abbrev pub run_of_kind : Kind → List ℕ → Option (List ℕ)
run_of_kind kind.Block n = None
run_of_kind kind.Signal n = None
run_of_kind kind.Route n = None
run_of_kind kind.Run n = Some n
run_of_kind kind.Section n = None
run_of_kind kind.Connection n = None

-- the name of the run that an edit puts, changes or drops, if it is an edit of a run
abbrev pub run_edited : Edit → Option (List ℕ)
run_edited (edit.Put x) = run_of_item x
run_edited (edit.Change x) = run_of_item x
run_edited (edit.Drop k n) = run_of_kind k n

-- of items those with names before this one, and those with names after it
abbrev pub before : {X : Type 0} → (X → List ℕ) → List ℕ → List X → List X
before name n items = filter (λ x. is_before (name x) n) items

abbrev pub behind : {X : Type 0} → (X → List ℕ) → List ℕ → List X → List X
behind name n items = filter (λ x. is_before n (name x)) items

-- the items of other names with this one at its place, if there is one
abbrev pub with_one : {X : Type 0} → (X → List ℕ) → List ℕ → Option X → List X → List X
with_one name n one items = before name n items ++ (option_to_list one ++ behind name n items)

-- a cut with this row for the run of a name, if there is one
abbrev pub cut_with : List ℕ → Option CutRow → Cut → Cut
cut_with n row cut = record cut { rows = with_one (λ r. r.name) n row cut.rows }

-- the tables differ in the run of a name alone; and the run's stair by the later ones, if it is there
pub record IsOneRun (earlier later : Tables) (name : List ℕ) (its : Option Stair) : Type 0 where
  pub others : later ≡ record earlier { runs = later.runs }
  pub front : before (λ r. r.name) name later.runs ≡ before (λ r. r.name) name earlier.runs
  pub back : behind (λ r. r.name) name later.runs ≡ behind (λ r. r.name) name earlier.runs
  pub stair : its ≡ option_map (λ run. stair_of (path_in later run)) (find (λ r. is_same r.name name) later.runs)

-- of a stairway's uses those of the section's blocks, by their positions there
abbrev pub uses_of_section : Tables → Section → List Use → List Use
uses_of_section tables section uses =
    filter (λ u. nat_lt u.block (length section.blocks)) (map (use_in_section tables section) uses)

-- the row that a stair gives in a section, if there is a stair and its run is a member
abbrev pub row_of_stair : Tables → Section → ℕ → Option Stair → Option CutRow
row_of_stair tables section stamp stair =
    option_and_then (λ s. member_row section s.run stamp (uses_of_section tables section s.uses)) stair

-- the run of a name, if it is there, passes no block of a section
abbrev pub PassesBy : Tables → Section → List ℕ → Type 0
PassesBy tables section name =
    IfSome (find (λ r. is_same r.name name) tables.runs) (λ run. passes_section tables section run ≡ false)

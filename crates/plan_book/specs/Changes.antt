-- What an edit makes of what is known of sections.
use Rattle.std.specs.Prelude.{◌≡◌, ℕ, ◌<◌, List, length, true, All, IfSome, Option, option_map, slice_index_or}
use Rattle.rail_model.specs.declared.tables.Tables.{Tables}
use Rattle.rail_model.specs.Name.{NamesRise}
use Rattle.rail_model.specs.Rules.{is_named}
use Rattle.plan_model.specs.declared.cut.Cut.{Cut}
use Rattle.plan_model.specs.Cut.{stamped, IsSoundCut, cut_of}
use Rattle.section_cut.specs.declared.cut_changes.CutChange.{CutChange}
use Rattle.section_cut.specs.declared.cut_changes.CutChange.TheVariants as cut_change
use Rattle.plan_book.specs.declared.changes.ShelfChange.{ShelfChange}
use Rattle.plan_book.specs.declared.changes.ShelfChange.TheVariants as change
use Rattle.section_cut.specs.Change.{IsChange, HasPlace, with_row, with_inserted, with_removed}
use Rattle.plan_book.specs.declared.shelf.Shelf.{Shelf}
use Rattle.plan_book.specs.Stored.{cut_in, in_own, IsOwnAnd, IsSpareFor, TakesRow}
use Rattle.plan_book.specs.Shelves.{shelf_of, kept_cut}

-- what an edit makes of a shelf's cut is what it makes of the section's cut
abbrev pub cut_change_of : ShelfChange → CutChange
cut_change_of change.Untouched = cut_change.Untouched
cut_change_of (change.Touched cut) = cut_change.Touched (option_map cut_in cut)
cut_change_of (change.Row place row) = cut_change.Row place row
cut_change_of (change.Inserted place row spare) = cut_change.Inserted place row
cut_change_of (change.Removed place) = cut_change.Removed place

-- the cut that it makes, if it makes one, is sound
abbrev pub IsSoundChange : CutChange → Type 0
IsSoundChange cut_change.Untouched = Unit {0}
IsSoundChange (cut_change.Touched cut) = IfSome cut IsSoundCut
IsSoundChange (cut_change.Row place row) = Unit {0}
IsSoundChange (cut_change.Inserted place row) = Unit {0}
IsSoundChange (cut_change.Removed place) = Unit {0}

-- a shelf after the edit of a number that makes this of the cut, which nobody else holds
abbrev pub with_own : ℕ → (Cut → Cut) → Shelf → Shelf
with_own number made s = record s { touched = number; cut = option_map (in_own made) s.cut }

-- a shelf after the edit of a number: where the edit touches its section, it has the section's new cut, or one row of
-- its cut changed, came or went
abbrev pub changed : ℕ → Shelf → ShelfChange → Shelf
changed number s change.Untouched = s
changed number s (change.Touched cut) = record s { touched = number; cut = cut }
changed number s (change.Row place row) = with_own number (with_row place row) s
changed number s (change.Inserted place row spare) = with_own number (with_inserted place row) s
changed number s (change.Removed place) = with_own number (with_removed place) s

-- a shelf has its section's cut by these tables
abbrev pub HasCutOf : Tables → Shelf → Type 0
HasCutOf tables s = cut_of tables s.name ≡ option_map (stamped 0) (kept_cut s)

-- what is known of each name has its section's cut by these tables
abbrev pub HaveCuts : Tables → ℕ → List Shelf → Type 0
HaveCuts tables first shelves =
    (name : List ℕ) → cut_of tables name ≡ option_map (stamped 0) (kept_cut (shelf_of first shelves name))

-- a row that is to come into a cut brings memory for the cut's rows and itself
abbrev pub HasSpare : Option Cut → ShelfChange → Type 0
HasSpare cut change.Untouched = Unit {0}
HasSpare cut (change.Touched later) = Unit {0}
HasSpare cut (change.Row place row) = Unit {0}
HasSpare cut (change.Inserted place row spare) = IfSome cut (λ c. IsSpareFor (length c.rows) spare)
HasSpare cut (change.Removed place) = Unit {0}

-- what the edit of a number, between two tables, makes of the cut of a shelf's section
pub record IsChangeOf (before after : Tables) (number : ℕ) (s : Shelf) (c : ShelfChange) : Type 0 where
  pub change : IsChange (cut_of before s.name) (cut_of after s.name) number (kept_cut s) (cut_change_of c)
  pub spare : HasSpare (kept_cut s) c

-- what it makes of the cut of each shelf
pub record AreChanges (before after : Tables) (number : ℕ) (shelves : List Shelf) (changes : List ShelfChange) : Type 0 where
  pub count : length changes ≡ length shelves
  pub each : (k : ℕ) (s : Shelf) (c : ShelfChange) → k < length shelves
      → IsChangeOf before after number (slice_index_or shelves k s) (slice_index_or changes k c)

-- shelves that differ at most in who may hold their cuts
pub record IsAlike (old new : Shelf) : Type 0 where
  pub name : new.name ≡ old.name
  pub touched : new.touched ≡ old.touched
  pub published : new.published ≡ old.published
  pub cut : kept_cut new ≡ kept_cut old

pub record AreAlike (old new : List Shelf) : Type 0 where
  pub count : length new ≡ length old
  pub each : (k : ℕ) (s : Shelf) → k < length old → IsAlike (slice_index_or old k s) (slice_index_or new k s)

-- the cut of a shelf can be changed so: where one row changes, comes or goes, the cut has its place, and nobody else
-- holds it
abbrev pub HasItsPlace : Shelf → ShelfChange → Type 0
HasItsPlace s change.Untouched = Unit {0}
HasItsPlace s (change.Touched cut) = Unit {0}
HasItsPlace s (change.Row place row) = IfSome (kept_cut s) (HasPlace place)
HasItsPlace s (change.Inserted place row spare) = IfSome (kept_cut s) (TakesRow place spare)
HasItsPlace s (change.Removed place) = IfSome (kept_cut s) (HasPlace place)

abbrev pub IsReady : Shelf → ShelfChange → Type 0
IsReady s change.Untouched = Unit {0}
IsReady s (change.Touched cut) = Unit {0}
IsReady s (change.Row place row) = IfSome s.cut (IsOwnAnd (HasPlace place))
IsReady s (change.Inserted place row spare) = IfSome s.cut (IsOwnAnd (TakesRow place spare))
IsReady s (change.Removed place) = IfSome s.cut (IsOwnAnd (HasPlace place))

-- what holds of each shelf and its change
abbrev pub HoldsOfEach : (Shelf → ShelfChange → Type 0) → List Shelf → List ShelfChange → Type 0
HoldsOfEach holds shelves changes =
    (k : ℕ) (s : Shelf) (c : ShelfChange) → k < length shelves
    → holds (slice_index_or shelves k s) (slice_index_or changes k c)

-- each shelf is changed
pub record AreChanged (number : ℕ) (shelves : List Shelf) (changes : List ShelfChange) (later : List Shelf) : Type 0 where
  pub count : length later ≡ length shelves
  pub each : (k : ℕ) (s : Shelf) (c : ShelfChange) → k < length shelves
      → slice_index_or later k s ≡ changed number (slice_index_or shelves k s) (slice_index_or changes k c)

-- shelves of more names, which stand in the order of names, and say what was known without them, whoever may hold
-- the cuts
pub record Widens (first : ℕ) (old new : List Shelf) : Type 0 where
  pub rise : NamesRise (λ s. s.name) new
  pub known : (name : List ℕ) → IsAlike (shelf_of first old name) (shelf_of first new name)

-- each section of the tables has a shelf
abbrev pub HaveAll : Tables → List Shelf → Type 0
HaveAll tables shelves = All (λ x. is_named (λ (s : Shelf). s.name) shelves x.name ≡ true) tables.sections

-- shelves keep their names
abbrev pub Keeps : List Shelf → List Shelf → Type 0
Keeps old new = (name : List ℕ) → is_named (λ (s : Shelf). s.name) old name ≡ true
    → is_named (λ (s : Shelf). s.name) new name ≡ true

-- each section of the later tables has a shelf, this is what the edit makes of the cuts, and they can be changed so
pub record WillChange (before after : Tables) (number : ℕ) (shelves : List Shelf) (changes : List ShelfChange) : Type 0 where
  pub all : HaveAll after shelves
  pub made : AreChanges before after number shelves changes
  pub ready : HoldsOfEach IsReady shelves changes

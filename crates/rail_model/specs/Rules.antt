-- The rules that refuse an edit, the tables after edits, and sound tables.
use Rattle.std.specs.Prelude.{ℕ, not, if◌then◌else◌, List, [], ◌∷◌, ◌++◌, map, filter, Bool, true, false, ◌&&◌, ◌||◌, ◌==◌, nat_le, length, Option, Some, None, ◌≡◌, ◌+◌, fold, option_map, ◌≤◌, IsTrue, All}
use Rattle.rail_model.specs.Types.{Item, Kind, Edit, Tables, Route, Rule}
use Rattle.rail_model.specs.declared.items.Item.TheVariants as item
use Rattle.rail_model.specs.declared.edit.Kind.TheVariants as kind
use Rattle.rail_model.specs.declared.edit.Edit.TheVariants as edit
use Rattle.rail_model.specs.Name.{is_before, is_same, has_repeat, NamesRise}
use Rattle.std.specs.List.{list_any, list_all}
use Rattle.rail_model.specs.declared.edit.Rule.TheVariants.{Range, Twice, Unknown, Limit, Count, InUse}
use Rattle.rail_model.specs.declared.limits.TheConstants.{BLOCKS, SIGNALS, ROUTES, RUNS, SECTIONS, CONNECTIONS}
use Rattle.rail_model.specs.Tables.{signal_named, route_named}
use Rattle.rail_model.specs.Within.{is_within}
use Rattle.std.specs.Option.{option_or}

-- tables without items
abbrev pub no_tables : Tables
no_tables = record { blocks = []; signals = []; routes = []; runs = []; sections = []; connections = [] }

-- the items with one more, in the order of their names
abbrev pub with_item : {X : Type 0} → (X → List ℕ) → List X → X → List X
with_item name items x =
    filter (λ y. is_before (name y) (name x)) items ++ (x ∷ filter (λ y. is_before (name x) (name y)) items)

-- the items with this one in the place of the one of its name
abbrev pub with_changed : {X : Type 0} → (X → List ℕ) → List X → X → List X
with_changed name items x = map (λ y. if is_same (name y) (name x) then x else y) items

-- the items without the one of a name
abbrev pub without : {X : Type 0} → (X → List ℕ) → List X → List ℕ → List X
without name items n = filter (λ y. not (is_same (name y) n)) items

-- a put adds the item
abbrev pub after_put : Tables → Item → Tables
after_put tables (item.Block b) = record tables { blocks = with_item (λ x. x.name) tables.blocks b }
after_put tables (item.Signal s) = record tables { signals = with_item (λ x. x.name) tables.signals s }
after_put tables (item.Route r) = record tables { routes = with_item (λ x. x.name) tables.routes r }
after_put tables (item.Run r) = record tables { runs = with_item (λ x. x.name) tables.runs r }
after_put tables (item.Section s) = record tables { sections = with_item (λ x. x.name) tables.sections s }
after_put tables (item.Connection c) = record tables { connections = with_item (λ x. x.name) tables.connections c }

-- a change replaces the item of its name
abbrev pub after_change : Tables → Item → Tables
after_change tables (item.Block b) = record tables { blocks = with_changed (λ x. x.name) tables.blocks b }
after_change tables (item.Signal s) = record tables { signals = with_changed (λ x. x.name) tables.signals s }
after_change tables (item.Route r) = record tables { routes = with_changed (λ x. x.name) tables.routes r }
after_change tables (item.Run r) = record tables { runs = with_changed (λ x. x.name) tables.runs r }
after_change tables (item.Section s) = record tables { sections = with_changed (λ x. x.name) tables.sections s }
after_change tables (item.Connection c) = record tables { connections = with_changed (λ x. x.name) tables.connections c }

-- a drop takes the item out
abbrev pub after_drop : Tables → Kind → List ℕ → Tables
after_drop tables kind.Block n = record tables { blocks = without (λ x. x.name) tables.blocks n }
after_drop tables kind.Signal n = record tables { signals = without (λ x. x.name) tables.signals n }
after_drop tables kind.Route n = record tables { routes = without (λ x. x.name) tables.routes n }
after_drop tables kind.Run n = record tables { runs = without (λ x. x.name) tables.runs n }
after_drop tables kind.Section n = record tables { sections = without (λ x. x.name) tables.sections n }
after_drop tables kind.Connection n = record tables { connections = without (λ x. x.name) tables.connections n }

abbrev pub after : Tables → Edit → Tables
after tables (edit.Put x) = after_put tables x
after tables (edit.Change x) = after_change tables x
after tables (edit.Drop k n) = after_drop tables k n

-- ---- names

-- the name is there among items
abbrev pub is_named : {X : Type 0} → (X → List ℕ) → List X → List ℕ → Bool
is_named name items n = list_any (λ x. is_same (name x) n) items

-- the tables have an item of this kind and name
abbrev pub has : Tables → Kind → List ℕ → Bool
has tables kind.Block n = is_named (λ b. b.name) tables.blocks n
has tables kind.Signal n = is_named (λ s. s.name) tables.signals n
has tables kind.Route n = is_named (λ r. r.name) tables.routes n
has tables kind.Run n = is_named (λ r. r.name) tables.runs n
has tables kind.Section n = is_named (λ s. s.name) tables.sections n
has tables kind.Connection n = is_named (λ c. c.name) tables.connections n

-- the tables have a block, a signal, a route, a run or a section of this name
abbrev pub has_block : Tables → List ℕ → Bool
has_block tables n = has tables kind.Block n

abbrev pub has_signal : Tables → List ℕ → Bool
has_signal tables n = has tables kind.Signal n

abbrev pub has_route : Tables → List ℕ → Bool
has_route tables n = has tables kind.Route n

abbrev pub has_run : Tables → List ℕ → Bool
has_run tables n = has tables kind.Run n

abbrev pub has_section : Tables → List ℕ → Bool
has_section tables n = has tables kind.Section n

-- a name stands among names
abbrev pub lists : List (List ℕ) → List ℕ → Bool
lists names n = list_any (λ m. is_same m n) names

-- ---- tests of an item

-- the kind of an item, and its name
abbrev pub kind_of_item : Item → Kind
kind_of_item (item.Block b) = kind.Block
kind_of_item (item.Signal s) = kind.Signal
kind_of_item (item.Route r) = kind.Route
kind_of_item (item.Run r) = kind.Run
kind_of_item (item.Section s) = kind.Section
kind_of_item (item.Connection c) = kind.Connection

abbrev pub name_of_item : Item → List ℕ
name_of_item (item.Block b) = b.name
name_of_item (item.Signal s) = s.name
name_of_item (item.Route r) = r.name
name_of_item (item.Run r) = r.name
name_of_item (item.Section s) = s.name
name_of_item (item.Connection c) = c.name

-- the item's name is taken: it is there in its kind, or a block and a connection would share it
abbrev pub is_taken : Tables → Item → Bool
is_taken tables (item.Block b) = has tables kind.Block b.name || has tables kind.Connection b.name
is_taken tables (item.Connection c) = has tables kind.Connection c.name || has tables kind.Block c.name
is_taken tables x = has tables (kind_of_item x) (name_of_item x)

-- the item's kind has its greatest number of items
abbrev pub is_full : Tables → Item → Bool
is_full tables (item.Block b) = nat_le BLOCKS (length tables.blocks)
is_full tables (item.Signal s) = nat_le SIGNALS (length tables.signals)
is_full tables (item.Route r) = nat_le ROUTES (length tables.routes)
is_full tables (item.Run r) = nat_le RUNS (length tables.runs)
is_full tables (item.Section s) = nat_le SECTIONS (length tables.sections)
is_full tables (item.Connection c) = nat_le CONNECTIONS (length tables.connections)

-- each name that the item refers to is there: a signal's block, a route's signals, a run's route, a section's blocks, a
-- connection's two runs
abbrev pub refers_to_known : Tables → Item → Bool
refers_to_known tables (item.Block b) = true
refers_to_known tables (item.Signal s) = has tables kind.Block s.block
refers_to_known tables (item.Route r) = list_all (has tables kind.Signal) r.signals
refers_to_known tables (item.Run r) = has tables kind.Route r.route
refers_to_known tables (item.Section s) = list_all (has tables kind.Block) s.blocks
refers_to_known tables (item.Connection c) = has tables kind.Run c.first && has tables kind.Run c.second

-- two places of a route have signals of one block
abbrev pub repeats_block : Tables → Route → Bool
repeats_block tables r = has_repeat (map (λ n. (signal_named tables n).block) r.signals)

-- the item names something twice: a route has two signals of one block, a section one block or a connection one run twice
abbrev pub repeats : Tables → Item → Bool
repeats tables (item.Route r) = repeats_block tables r
repeats tables (item.Section s) = has_repeat s.blocks
repeats tables (item.Connection c) = is_same c.first c.second
repeats tables x = false

-- a run hasn't one leg for each signal of its route
abbrev pub miscounts_legs : Tables → Item → Bool
miscounts_legs tables (item.Run r) = not (length r.legs == length (route_named tables r.route).signals)
miscounts_legs tables x = false

-- ---- tests of a change and of a drop

-- with the changed signal in the place of the old one, a route that lists it would have two signals of one block
abbrev pub makes_repeat : Tables → Item → Bool
makes_repeat tables (item.Signal s) =
    list_any (λ r. lists r.signals s.name
    && repeats_block (record tables { signals = with_changed (λ x. x.name) tables.signals s }) r) tables.routes
makes_repeat tables x = false

-- a run on the changed route hasn't one leg for each of its signals
abbrev pub makes_miscount : Tables → Item → Bool
makes_miscount tables (item.Route r) =
    list_any (λ run. is_same run.route r.name && not (length run.legs == length r.signals)) tables.runs
makes_miscount tables x = false

-- another item names the one of this kind and name: a signal or a section its block, a route its signal, a run its route, a
-- connection its run
abbrev pub is_used : Tables → Kind → List ℕ → Bool
is_used tables kind.Block n =
    list_any (λ s. is_same s.block n) tables.signals || list_any (λ s. lists s.blocks n) tables.sections
is_used tables kind.Signal n = list_any (λ r. lists r.signals n) tables.routes
is_used tables kind.Route n = list_any (λ r. is_same r.route n) tables.runs
is_used tables kind.Run n = list_any (λ c. is_same c.first n || is_same c.second n) tables.connections
is_used tables k n = false

-- ---- the first rule that refuses an edit, in this order

abbrev pub rule_of_put : Tables → Item → Option Rule
rule_of_put tables x =
    if not (is_within x) then Some Range
    else if is_taken tables x then Some Twice
    else if is_full tables x then Some Limit
    else if not (refers_to_known tables x) then Some Unknown
    else if repeats tables x then Some Twice
    else if miscounts_legs tables x then Some Count
    else None

abbrev pub rule_of_change : Tables → Item → Option Rule
rule_of_change tables x =
    if not (is_within x) then Some Range
    else if not (has tables (kind_of_item x) (name_of_item x)) then Some Unknown
    else if not (refers_to_known tables x) then Some Unknown
    else if repeats tables x || makes_repeat tables x then Some Twice
    else if miscounts_legs tables x || makes_miscount tables x then Some Count
    else None

abbrev pub rule_of_drop : Tables → Kind → List ℕ → Option Rule
rule_of_drop tables k n =
    if not (has tables k n) then Some Unknown
    else if is_used tables k n then Some InUse
    else None

abbrev pub rule_of : Tables → Edit → Option Rule
rule_of tables (edit.Put x) = rule_of_put tables x
rule_of tables (edit.Change x) = rule_of_change tables x
rule_of tables (edit.Drop k n) = rule_of_drop tables k n

-- the tables after edits, made one after the other
abbrev pub after_edits : Tables → List Edit → Tables
after_edits tables edits = fold after tables edits

-- an edit that is refused: its place in a list of edits, from 0, and the rule
pub record Refused : Type 0 where
  pub place : ℕ
  pub rule : Rule

-- a refused edit's place and rule, where the list has one edit more in front
abbrev pub one_further : Refused → Refused
one_further refused = record refused { place = refused.place + 1 }

-- the first of some edits that a rule refuses, where those before it are made
abbrev pub first_refused : Tables → List Edit → Option Refused
first_refused tables [] = None
first_refused tables (e ∷ edits) =
    option_or (option_map (λ rule. record { place = 0; rule = rule }) (rule_of tables e))
    (option_map one_further (first_refused (after tables e) edits))

-- no rule refuses one of the edits
abbrev pub AreAccepted : Tables → List Edit → Type 0
AreAccepted tables edits = first_refused tables edits ≡ None

-- no rule but that of its own name being there would refuse an item of the tables
pub record Stands (tables : Tables) (x : Item) : Type 0 where
  pub within : IsTrue (is_within x)
  pub known : IsTrue (refers_to_known tables x)
  pub no_repeat : IsTrue (not (repeats tables x))
  pub count : IsTrue (not (miscounts_legs tables x))

-- the items of one kind: their names rise, there are no more of them than may be, and each one stands
pub record AreSound {X : Type 0} (tables : Tables) (kind : X → Item) (name : X → List ℕ) (limit : ℕ) (items : List X) : Type 0 where
  pub names : NamesRise name items
  pub most : length items ≤ limit
  pub each : All (λ x. Stands tables (kind x)) items

-- sound tables: each kind is sound, and no connection has the name of a block
pub record IsSound (tables : Tables) : Type 0 where
  pub blocks : AreSound tables item.Block (λ x. x.name) BLOCKS tables.blocks
  pub signals : AreSound tables item.Signal (λ x. x.name) SIGNALS tables.signals
  pub routes : AreSound tables item.Route (λ x. x.name) ROUTES tables.routes
  pub runs : AreSound tables item.Run (λ x. x.name) RUNS tables.runs
  pub sections : AreSound tables item.Section (λ x. x.name) SECTIONS tables.sections
  pub connections : AreSound tables item.Connection (λ x. x.name) CONNECTIONS tables.connections
  pub apart : All (λ c. has tables kind.Block c.name ≡ false) tables.connections

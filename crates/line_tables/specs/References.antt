-- What refuses an item for itself, and what for what it refers to.
use Rattle.std.specs.Prelude.{ℕ, List, if◌then◌else◌, not, nat_lt, Option, Some, None, ⊤}
use Rattle.rail_model.specs.declared.items.Item.{Item}
use Rattle.rail_model.specs.declared.items.Item.TheVariants as item
use Rattle.rail_model.specs.declared.edit.Rule.{Rule}
use Rattle.rail_model.specs.declared.edit.Rule.TheVariants.{Range, Limit, Unknown, Twice, Count, InUse}
use Rattle.rail_model.specs.declared.tables.Tables.{Tables}
use Rattle.rail_model.specs.Rules.{is_taken, is_full, refers_to_known, repeats, miscounts_legs, rule_of_put, rule_of_change}
use Rattle.rail_model.specs.Within.{is_within}
use Rattle.line_tables.specs.KeyCounts.{count_of}

-- the item is no route
abbrev pub IsNoRoute : Item → Type 0
IsNoRoute (item.Block b) = ⊤
IsNoRoute (item.Signal s) = ⊤
IsNoRoute (item.Route r) = ⊥
IsNoRoute (item.Run r) = ⊤
IsNoRoute (item.Section s) = ⊤
IsNoRoute (item.Connection c) = ⊤

-- the item may not be put for its own numbers, for its name, or because its kind has its greatest number of items
abbrev pub rule_of_item : Tables → Item → Option Rule
rule_of_item tables x =
    if not (is_within x) then Some Range
    else if is_taken tables x then Some Twice
    else if is_full tables x then Some Limit
    else None

-- something that the item refers to isn't there, or stands in it twice
abbrev pub rule_of_references : Tables → Item → Option Rule
rule_of_references tables x =
    if not (refers_to_known tables x) then Some Unknown
    else if repeats tables x then Some Twice
    else None

-- the item may not be put or changed for what it refers to, or a run for how many legs it has
abbrev pub rule_of_parts : Tables → Item → Option Rule
rule_of_parts tables x =
    if not (refers_to_known tables x) then Some Unknown
    else if repeats tables x then Some Twice
    else if miscounts_legs tables x then Some Count
    else None

-- an item may not be dropped because none stands under its name, or because others refer to its key
abbrev pub rule_of_key : List ℕ → Option ℕ → Option Rule
rule_of_key uses None = Some Unknown
rule_of_key uses (Some k) = if nat_lt 0 (count_of uses k) then Some InUse else None

-- the rule that is told before an item is put or changed: what a route refers to is looked up when it is put or changed,
-- and a signal and its block when the signal is changed
abbrev pub rule_before_put : Tables → Item → Option Rule
rule_before_put tables (item.Block b) = rule_of_put tables (item.Block b)
rule_before_put tables (item.Signal s) = rule_of_put tables (item.Signal s)
rule_before_put tables (item.Route r) = rule_of_item tables (item.Route r)
rule_before_put tables (item.Run r) = rule_of_put tables (item.Run r)
rule_before_put tables (item.Section s) = rule_of_put tables (item.Section s)
rule_before_put tables (item.Connection c) = rule_of_put tables (item.Connection c)

abbrev pub rule_before_change : Tables → Item → Option Rule
rule_before_change tables (item.Block b) = rule_of_change tables (item.Block b)
rule_before_change tables (item.Signal s) = if not (is_within (item.Signal s)) then Some Range else None
rule_before_change tables (item.Route r) = if not (is_within (item.Route r)) then Some Range else None
rule_before_change tables (item.Run r) = rule_of_change tables (item.Run r)
rule_before_change tables (item.Section s) = rule_of_change tables (item.Section s)
rule_before_change tables (item.Connection c) = rule_of_change tables (item.Connection c)

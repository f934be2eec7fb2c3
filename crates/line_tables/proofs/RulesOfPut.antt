-- The rules of a put: those of the item itself, and then those of what it refers to.
use Rattle.std.proofs.Common.{◌≡◌, Bool, true, false, not, if◌then◌else◌, Option, Some, None, refl}
use Rattle.rail_model.specs.declared.items.Route.{Route}
use Rattle.rail_model.specs.declared.items.Item.{Item}
use Rattle.rail_model.specs.declared.items.Item.TheVariants as item
use Rattle.rail_model.specs.declared.edit.Rule.{Rule}
use Rattle.rail_model.specs.declared.edit.Rule.TheVariants.{Range, Limit, Twice}
use Rattle.rail_model.specs.declared.tables.Tables.{Tables}
use Rattle.rail_model.specs.Rules.{is_taken, is_full, rule_of_put}
use Rattle.rail_model.specs.Within.{is_within}
use Rattle.line_tables.specs.References.{rule_of_item, rule_of_references, rule_of_parts}

-- what comes after the tests of the item itself
told_then : (a b c : Bool) (rest : Option Rule) → (if not a then Some Range else if b then Some Twice else if c then Some Limit else None) ≡ None → (if not a then Some Range else if b then Some Twice else if c then Some Limit else rest) ≡ rest
told_then false b c rest h = absurd (cc)
told_then true true c rest h = absurd (cc)
told_then true false true rest h = absurd (cc)
told_then true false false rest h = refl

-- an item that is not refused for itself is refused for its parts, or not at all
pub refused_next : (t : Tables) (x : Item) → rule_of_item t x ≡ None → rule_of_put t x ≡ rule_of_parts t x
refused_next t x = told_then (is_within x) (is_taken t x) (is_full t x) (rule_of_parts t x)

-- a route that is not refused for itself is refused for what it refers to, or not at all
pub refused_then : (t : Tables) (x : Route) → rule_of_item t (item.Route x) ≡ None → rule_of_put t (item.Route x) ≡ rule_of_references t (item.Route x)
refused_then t x h =
    told_then (is_within (item.Route x)) (is_taken t (item.Route x)) (is_full t (item.Route x)) (rule_of_references t (item.Route x)) h

-- The rules of a change of a signal and of a route.
use Rattle.std.proofs.Common.{◌≡◌, Bool, true, false, not, if◌then◌else◌, Some, None, refl, ◌∙◌}
use Rattle.std.proofs.Math.Bool.{or-false}
use Rattle.rail_model.specs.declared.items.Route.{Route}
use Rattle.rail_model.specs.declared.items.Signal.{Signal}
use Rattle.rail_model.specs.declared.items.Item.{Item}
use Rattle.rail_model.specs.declared.items.Item.TheVariants as item
use Rattle.rail_model.specs.declared.edit.Rule.TheVariants.{Unknown, Twice, Count}
use Rattle.rail_model.specs.declared.tables.Tables.{Tables}
use Rattle.rail_model.specs.Rules.{has_signal, has_block, has_route, has, kind_of_item, name_of_item, refers_to_known, repeats, makes_repeat, miscounts_legs, makes_miscount, rule_of_change}
use Rattle.rail_model.specs.Within.{is_within}
use Rattle.line_tables.specs.References.{rule_of_parts}

-- an item that is there, and whose change touches no other item, is refused for its parts, or not at all
pub refused_last : (t : Tables) (x : Item) → is_within x ≡ true → has t (kind_of_item x) (name_of_item x) ≡ true → makes_repeat t x ≡ false → makes_miscount t x ≡ false → rule_of_change t x ≡ rule_of_parts t x
refused_last t x within there repeat miscount =
    rw (within, there, repeat, miscount, or-false (repeats t x), or-false (miscounts_legs t x)) refl

module _ (t : Tables) (s : Signal) (within : is_within (item.Signal s) ≡ true) where
  -- the signal is there, then its block, and then no route has two signals of one block
  in_order : rule_of_change t (item.Signal s) ≡ (if not (has_signal t s.name) then Some Unknown else if not (has_block t s.block) then Some Unknown else if makes_repeat t (item.Signal s) then Some Twice else None)
  in_order = rw within refl

  pub refused_signal : has_signal t s.name ≡ false → rule_of_change t (item.Signal s) ≡ Some Unknown
  refused_signal missing = in_order ∙ rw missing refl

  pub refused_block : has_signal t s.name ≡ true → has_block t s.block ≡ false → rule_of_change t (item.Signal s) ≡ Some Unknown
  refused_block there missing = in_order ∙ rw (there, missing) refl

  pub refused_repeat : has_signal t s.name ≡ true → has_block t s.block ≡ true → (twice : Bool) → makes_repeat t (item.Signal s) ≡ twice → rule_of_change t (item.Signal s) ≡ (if twice then Some Twice else None)
  refused_repeat there known twice is = in_order ∙ rw (there, known, is) refl

module _ (t : Tables) (r : Route) (within : is_within (item.Route r) ≡ true) where
  -- the route is there, then its signals, then no two of them are of one block, and then each run on it keeps its count
  route_in_order : rule_of_change t (item.Route r) ≡ (if not (has_route t r.name) then Some Unknown else if not (refers_to_known t (item.Route r)) then Some Unknown else if repeats t (item.Route r) then Some Twice else if makes_miscount t (item.Route r) then Some Count else None)
  route_in_order = rw (within, or-false (repeats t (item.Route r))) refl

  pub refused_route : has_route t r.name ≡ false → rule_of_change t (item.Route r) ≡ Some Unknown
  refused_route missing = route_in_order ∙ rw missing refl

  pub refused_unknown : has_route t r.name ≡ true → refers_to_known t (item.Route r) ≡ false → rule_of_change t (item.Route r) ≡ Some Unknown
  refused_unknown there missing = route_in_order ∙ rw (there, missing) refl

  pub refused_twice : has_route t r.name ≡ true → refers_to_known t (item.Route r) ≡ true → repeats t (item.Route r) ≡ true → rule_of_change t (item.Route r) ≡ Some Twice
  refused_twice there known twice = route_in_order ∙ rw (there, known, twice) refl

  pub refused_count : has_route t r.name ≡ true → refers_to_known t (item.Route r) ≡ true → repeats t (item.Route r) ≡ false → (wrong : Bool) → makes_miscount t (item.Route r) ≡ wrong → rule_of_change t (item.Route r) ≡ (if wrong then Some Count else None)
  refused_count there known once wrong is = route_in_order ∙ rw (there, known, once, is) refl

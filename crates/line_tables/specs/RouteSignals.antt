-- What is looked up of a route's signals.
use Rattle.std.specs.Prelude.{◌≡◌, ℕ, Some, List, map}
use Rattle.rail_model.specs.declared.items.Signal.{Signal}
use Rattle.line_tables.specs.declared.linked.Linked.{Linked}
use Rattle.line_tables.specs.declared.route_signals.RouteSignals.{RouteSignals}
use Rattle.line_tables.specs.Table.{key_of}
use Rattle.line_tables.specs.Links.{block_of, repeats_key}

-- the keys of the signals of these names and of their blocks, and whether a block stands twice among them
pub record AreSignalsOf (signals : List (ℕ × Linked Signal)) (names : List (List ℕ)) (found : RouteSignals) : Type 0 where
  pub keyed : map (key_of (λ e. e.item.name) signals) names ≡ map Some found.keys
  pub blocks : found.blocks ≡ map (block_of signals) found.keys
  pub twice : found.twice ≡ repeats_key found.blocks

-- What refuses a route, by what was found of its signals.
use Rattle.std.proofs.Common.{◌≡◌, ◌∙◌, sym}
use Rattle.rail_model.specs.declared.items.Block.{Block}
use Rattle.rail_model.specs.declared.items.Signal.{Signal}
use Rattle.rail_model.specs.declared.items.Route.{Route}
use Rattle.rail_model.specs.declared.items.Item.TheVariants as item
use Rattle.rail_model.specs.Rules.{repeats}
use Rattle.line_tables.specs.declared.linked.Linked.{Linked}
use Rattle.line_tables.specs.declared.route_signals.RouteSignals.{RouteSignals}
use Rattle.line_tables.specs.RouteSignals.{AreSignalsOf}
use Rattle.line_tables.specs.Table.{IsTable}
use Rattle.line_tables.specs.Inside.{WholeTables, tables_of, IsJoined}
use Rattle.line_tables.proofs.Meets.{repeats_by_key}

pub repeats_as_found : (t : WholeTables) → IsJoined t → IsTable (λ (e : Linked Signal). e.item.name) t.signals → IsTable (λ (b : Block). b.name) t.blocks → (x : Route) (found : RouteSignals) → AreSignalsOf t.signals x.signals found → repeats (tables_of t) (item.Route x) ≡ found.twice
repeats_as_found t j signal_table block_table x found is =
    repeats_by_key t j signal_table block_table x found.keys is.keyed ∙ sym (rw is.blocks at is.twice)

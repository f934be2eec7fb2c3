use Rattle.std.proofs.Common.{◌≡◌, ◌∙◌, ℕ, ap}
use Rattle.rail_model.specs.declared.items.Item.TheVariants as item
use Rattle.rail_model.specs.Rules.{with_item}
use Rattle.rail_model.proofs.Sound.{accepted}
use Rattle.line_tables.specs.declared.linked.Linked.{Linked}
use Rattle.line_tables.specs.Table.{named}
use Rattle.line_tables.specs.KeptRoutes.{all_with_names}
use Rattle.line_tables.specs.Inside.{whole_tables, tables_of}
use Rattle.line_tables.proofs.References.{entry}
use Rattle.line_tables.proofs.Views.{map-with_item}
use Rattle.line_tables.proofs.Known.{signal_knows}
use Rattle.line_tables.proofs.JoinedSignals.{signal_is_new, signal_put}
use Rattle.line_tables.proofs.KeptLine.{names_after_put, joined_with_signals}
use Rattle.line_tables.proofs.Labels.{signal_name}
use Rattle.line_tables.proofs.line_tables.LineTables.add_signal.Goals as goal

pub keys_of-requires : goal.keys_of-requires
keys_of-requires c =
    let t = whole_tables c.self.inside in
    let x = c.args.signal in
    let none = rw (← c.self.view_is) at c.requires in
    signal_knows t x (accepted (tables_of t) (item.Signal x) none).known

pub put_linked-requires : goal.put_linked-requires
put_linked-requires c = signal_is_new (whole_tables c.self.inside) c.args.signal (rw (← c.self.view_is) at c.requires)

-- the routes keep their signals' names
stay : (c : goal.In_ok-put_linked) → all_with_names (with_item (named signal_name) c.self.inside.signals (c.in_ok-put_linked.field-0, entry c.args.signal c.in_ok-refs.refs)) c.self.inside.routes ≡ (whole_tables c.self.inside).routes
stay c =
    let done = c.in_ok-put_linked.ensures in
    names_after_put c.self.inside c.self.invariant done.table c.in_ok-put_linked.field-0 (entry c.args.signal c.in_ok-refs.refs) (signal_is_new (whole_tables c.self.inside) c.args.signal (rw (← c.self.view_is) at c.requires)) done.fresh

pub invariant_of-self-2 : goal.invariant_of-self-2
invariant_of-self-2 c =
    let t = c.self.inside in
    let done = c.in_ok-put_linked.ensures in
    rw done.put
    (joined_with_signals t (with_item (named signal_name) t.signals (c.in_ok-put_linked.field-0, entry c.args.signal c.in_ok-refs.refs)) c.put_linked.new.uses t.route_sets (stay c)
    (signal_put (whole_tables t) c.in_ok-put_linked.field-0 c.args.signal c.in_ok-refs.refs c.put_linked.new.uses c.self.invariant done.table done.fresh (rw (← c.self.view_is) at c.requires) c.in_ok-refs.ensures.keys done.counted))

pub returns-clause-put : goal.returns-clause-put
returns-clause-put c =
    let t = whole_tables c.self.inside in
    let later = with_item (named signal_name) t.signals (c.in_ok-put_linked.field-0, entry c.args.signal c.in_ok-refs.refs) in
    rw (← c.self.view_is, c.in_ok-put_linked.ensures.put)
    (ap (λ l. tables_of (record t { signals = later; routes = l })) (stay c)
    ∙ ap (λ l. record (tables_of t) { signals = l }) (map-with_item (λ (e : ℕ × Linked _). e.1.item) (λ x. x.name) t.signals (c.in_ok-put_linked.field-0, entry c.args.signal c.in_ok-refs.refs)))

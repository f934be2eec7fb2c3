use Rattle.std.proofs.Common.{◌≡◌, ◌∙◌, ℕ, ap, arith}
use Rattle.rail_model.specs.Name.{is_same}
use Rattle.rail_model.specs.Rules.{without}
use Rattle.line_tables.specs.declared.linked.Linked.{Linked}
use Rattle.line_tables.specs.Table.{named}
use Rattle.line_tables.specs.KeptRoutes.{all_with_names}
use Rattle.line_tables.specs.Inside.{whole_tables, tables_of}
use Rattle.line_tables.proofs.Views.{map-without}
use Rattle.line_tables.proofs.Known.{refs_of_found}
use Rattle.line_tables.proofs.JoinedSignals.{signal_is_there, signal_drop}
use Rattle.line_tables.proofs.KeptLine.{names_after_drop_of, joined_with_signals}
use Rattle.line_tables.proofs.Labels.{signal_name}
use Rattle.line_tables.proofs.line_tables.LineTables.remove_signal.Goals as goal

pub take_linked-requires-clause-there : goal.take_linked-requires-clause-there
take_linked-requires-clause-there c = signal_is_there (whole_tables c.self.inside) c.args.name.now (rw (← c.self.view_is) at c.requires)

pub take_linked-requires-clause-counted_before : goal.take_linked-requires-clause-counted_before
take_linked-requires-clause-counted_before c e k h =
    let t = whole_tables c.self.inside in
    omega (arith, c.self.invariant.block_uses k, refs_of_found (λ u. is_same u.1.item.name c.args.name.now) t.signals e k h)

-- the routes keep their signals' names
stay : (c : goal.After-take_linked) → all_with_names (without (named signal_name) c.self.inside.signals c.args.name.now) c.self.inside.routes ≡ (whole_tables c.self.inside).routes
stay c =
    names_after_drop_of c.self.inside c.args.name.now c.self.invariant c.take_linked.ensures.table (rw (← c.self.view_is) at c.requires)

pub invariant_of-self : goal.invariant_of-self
invariant_of-self c =
    let t = c.self.inside in
    let done = c.take_linked.ensures in
    rw done.rest
    (joined_with_signals t (without (named signal_name) t.signals c.args.name.now) c.take_linked.new.uses t.route_sets (stay c)
    (signal_drop (whole_tables t) c.args.name.now c.take_linked.new.uses c.self.invariant done.table (rw (← c.self.view_is) at c.requires) done.counted))

pub returns : goal.returns
returns c =
    let t = whole_tables c.self.inside in
    rw (← c.self.view_is, c.take_linked.ensures.rest)
    (ap (λ l. tables_of (record t { signals = without (named signal_name) t.signals c.args.name.now; routes = l })) (stay c)
    ∙ ap (λ l. record (tables_of t) { signals = l }) (map-without (λ (e : ℕ × Linked _). e.1.item) (λ x. x.name) t.signals c.args.name.now))

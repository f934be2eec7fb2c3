use Rattle.std.proofs.Common.{ℕ, ap, arith}
use Rattle.rail_model.specs.Name.{is_same}
use Rattle.line_tables.specs.declared.linked.Linked.{Linked}
use Rattle.line_tables.specs.Inside.{whole_tables, tables_of}
use Rattle.line_tables.proofs.Views.{map-without}
use Rattle.line_tables.proofs.Known.{refs_of_found}
use Rattle.line_tables.proofs.JoinedTrains.{run_is_there, run_drop}
use Rattle.line_tables.proofs.line_tables.LineTables.remove_run.Goals as goal

pub take_linked-requires-clause-there : goal.take_linked-requires-clause-there
take_linked-requires-clause-there c = run_is_there (whole_tables c.self.inside) c.args.name.now (rw (← c.self.view_is) at c.requires)

pub take_linked-requires-clause-counted_before : goal.take_linked-requires-clause-counted_before
take_linked-requires-clause-counted_before c e k h =
    let t = whole_tables c.self.inside in
    omega (arith, c.self.invariant.route_uses k, refs_of_found (λ u. is_same u.1.item.name c.args.name.now) t.runs e k h)

pub invariant_of-self : goal.invariant_of-self
invariant_of-self c =
    let done = c.take_linked.ensures in
    rw done.rest (run_drop (whole_tables c.self.inside) c.args.name.now c.take_linked.new.uses c.self.invariant done.table (rw (← c.self.view_is) at c.requires) done.counted)

pub returns : goal.returns
returns c =
    let t = whole_tables c.self.inside in
    rw (← c.self.view_is, c.take_linked.ensures.rest)
    (ap (λ l. record (tables_of t) { runs = l }) (map-without (λ (e : ℕ × Linked _). e.1.item) (λ x. x.name) t.runs c.args.name.now))

use Rattle.std.proofs.Common.{ℕ, sym, ap, ◌∙◌}
use Rattle.rail_model.specs.declared.items.Item.TheVariants as item
use Rattle.rail_model.proofs.Sound.{accepted}
use Rattle.line_tables.specs.declared.linked.Linked.{Linked}
use Rattle.line_tables.specs.Inside.{whole_tables, tables_of, names_of_run}
use Rattle.line_tables.proofs.References.{entry}
use Rattle.line_tables.proofs.Views.{list_all_same, map-with_item}
use Rattle.line_tables.proofs.Known.{run_knows}
use Rattle.line_tables.proofs.KeptLine.{kept_named, kept_keys}
use Rattle.line_tables.proofs.JoinedTrains.{run_is_new, run_put}
use Rattle.line_tables.proofs.line_tables.LineTables.add_run.Goals as goal

pub keys_of-requires : goal.keys_of-requires
keys_of-requires c =
    let t = whole_tables c.self.inside in
    let x = c.args.run in
    let none = rw (← c.self.view_is) at c.requires in
    list_all_same _ _ (λ n. sym (kept_named c.self.inside n)) (names_of_run x)
    ∙ run_knows t x (accepted (tables_of t) (item.Run x) none).known

pub put_linked-requires : goal.put_linked-requires
put_linked-requires c = run_is_new (whole_tables c.self.inside) c.args.run (rw (← c.self.view_is) at c.requires)

pub invariant_of-self-2 : goal.invariant_of-self-2
invariant_of-self-2 c =
    let done = c.in_ok-put_linked.ensures in
    rw done.put (run_put (whole_tables c.self.inside) c.in_ok-put_linked.field-0 c.args.run c.in_ok-refs.refs c.put_linked.new.uses c.self.invariant done.table (rw (← c.self.view_is) at c.requires) (kept_keys c.self.inside (names_of_run c.args.run) ∙ c.in_ok-refs.ensures.keys) done.counted)

pub returns-clause-put : goal.returns-clause-put
returns-clause-put c =
    let t = whole_tables c.self.inside in
    rw (← c.self.view_is, c.in_ok-put_linked.ensures.put)
    (ap (λ l. record (tables_of t) { runs = l }) (map-with_item (λ (e : ℕ × Linked _). e.1.item) (λ x. x.name) t.runs (c.in_ok-put_linked.field-0, entry c.args.run c.in_ok-refs.refs)))

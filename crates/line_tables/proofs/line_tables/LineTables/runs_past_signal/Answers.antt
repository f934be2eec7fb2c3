use Rattle.std.proofs.Common.{ℕ, ◌∙◌, sym}
use Rattle.rail_model.specs.declared.items.Signal.{Signal}
use Rattle.line_tables.specs.declared.linked.Linked.{Linked}
use Rattle.line_tables.specs.Inside.{whole_tables}
use Rattle.line_tables.proofs.Views.{is_named-map}
use Rattle.line_tables.proofs.KeptLine.{kept_table}
use Rattle.line_tables.proofs.Passed.{one_route, signals_passed}
use Rattle.line_tables.proofs.line_tables.LineTables.runs_past_signal.Goals as goal

pub unwrap-key-requires : goal.unwrap-key-requires
unwrap-key-requires c =
    c.key_of.ensures.there ∙ sym (is_named-map (λ (e : ℕ × Linked Signal). e.1.item) (λ x. x.name) c.self.inside.signals c.args.name.now) ∙ rw (← c.self.view_is) at c.requires

pub runs_on-requires : goal.runs_on-requires
runs_on-requires c = one_route (whole_tables c.self.inside) c.self.invariant

pub returns : goal.returns
returns c =
    rw (← c.self.view_is)
    (signals_passed (whole_tables c.self.inside) c.self.invariant (kept_table c.self.inside c.learn_order.ensures) c.key_of.ensures.table c.args.name.now c.unwrap-key.result c.runs_on.result (sym c.key_of.ensures.key ∙ c.unwrap-key.ensures)
    (rw c.words.ensures at c.runs_on.ensures))

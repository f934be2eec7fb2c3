use Rattle.std.proofs.Common.{ℕ, ◌∙◌, sym}
use Rattle.rail_model.specs.declared.items.Run.{Run}
use Rattle.line_tables.specs.declared.linked.Linked.{Linked}
use Rattle.line_tables.proofs.Views.{is_named-map, number_of-map}
use Rattle.line_tables.proofs.line_tables.LineTables.run_number.Goals as goal

pub returns-in-Some-clause-there : goal.returns-in-Some-clause-there
returns-in-Some-clause-there c =
    rw (← c.self.view_is) (c.in-Some.ensures.there ∙ sym (is_named-map (λ (e : ℕ × Linked Run). e.1.item) (λ x. x.name) c.self.inside.runs c.args.name.now))

pub returns-in-Some-clause-number : goal.returns-in-Some-clause-number
returns-in-Some-clause-number c =
    rw (← c.self.view_is) (c.in-Some.ensures.number ∙ sym (number_of-map (λ (e : ℕ × Linked Run). e.1.item) (λ x. x.name) c.self.inside.runs c.args.name.now))

pub returns-in-None-clause-there : goal.returns-in-None-clause-there
returns-in-None-clause-there c =
    rw (← c.self.view_is) (c.in-None.ensures.there ∙ sym (is_named-map (λ (e : ℕ × Linked Run). e.1.item) (λ x. x.name) c.self.inside.runs c.args.name.now))

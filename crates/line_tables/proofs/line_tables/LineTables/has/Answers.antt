use Rattle.std.proofs.Common.{ℕ, ◌∙◌, sym}
use Rattle.rail_model.specs.declared.items.Block.{Block}
use Rattle.line_tables.specs.declared.linked.Linked.{Linked}
use Rattle.line_tables.proofs.Views.{is_named-map}
use Rattle.line_tables.proofs.KeptLine.{has_kept}
use Rattle.line_tables.proofs.line_tables.LineTables.has.Goals as goal

pub returns-in-Block : goal.returns-in-Block
returns-in-Block c =
    rw (← c.self.view_is, c.in-Block.is)
    (c.is_some.ensures ∙ c.key_of.ensures.there ∙ sym (is_named-map (λ (e : ℕ × Block). e.1) (λ x. x.name) c.self.inside.blocks c.args.name.now))

pub returns-in-Signal : goal.returns-in-Signal
returns-in-Signal c =
    rw (← c.self.view_is, c.in-Signal.is)
    (c.is_some-in-Signal.ensures ∙ c.key_of-in-Signal.ensures.there ∙ sym (is_named-map (λ (e : ℕ × Linked _). e.1.item) (λ x. x.name) c.self.inside.signals c.args.name.now))

pub returns-in-Route : goal.returns-in-Route
returns-in-Route c =
    rw (← c.self.view_is, c.in-Route.is)
    (c.is_some-in-Route.ensures ∙ c.key_of-in-Route.ensures.there ∙ sym (has_kept c.self.inside c.args.name.now))

pub returns-in-Run : goal.returns-in-Run
returns-in-Run c =
    rw (← c.self.view_is, c.in-Run.is)
    (c.is_some-in-Run.ensures ∙ c.key_of-in-Run.ensures.there ∙ sym (is_named-map (λ (e : ℕ × Linked _). e.1.item) (λ x. x.name) c.self.inside.runs c.args.name.now))

pub returns-in-Section : goal.returns-in-Section
returns-in-Section c =
    rw (← c.self.view_is, c.in-Section.is)
    (c.is_some-in-Section.ensures ∙ c.key_of-in-Section.ensures.there ∙ sym (is_named-map (λ (e : ℕ × Linked _). e.1.item) (λ x. x.name) c.self.inside.sections c.args.name.now))

pub returns-in-Connection : goal.returns-in-Connection
returns-in-Connection c =
    rw (← c.self.view_is, c.in-Connection.is)
    (c.is_some-in-Connection.ensures ∙ c.key_of-in-Connection.ensures.there ∙ sym (is_named-map (λ (e : ℕ × Linked _). e.1.item) (λ x. x.name) c.self.inside.connections c.args.name.now))

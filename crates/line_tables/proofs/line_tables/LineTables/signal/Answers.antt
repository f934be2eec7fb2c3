use Rattle.std.proofs.Common.{ℕ, refl, ◌∙◌, sym}
use Rattle.rail_model.specs.declared.items.Signal.{Signal}
use Rattle.rail_model.specs.Tables.{no_signal}
use Rattle.line_tables.specs.declared.linked.Linked.{Linked}
use Rattle.line_tables.proofs.Found.{found_by_key}
use Rattle.line_tables.proofs.Views.{is_named-map, item_named}
use Rattle.line_tables.proofs.line_tables.LineTables.signal.Goals as goal

pub get-requires : goal.get-requires
get-requires c =
    let y = found_by_key (λ (e : Linked Signal). e.item.name) c.self.inside.signals c.args.name.now c.in-Some.key c.key_of.ensures.table (sym c.in-Some.ensures.key) in
    rw (y.1.under) refl

pub returns-in-Some-clause-there : goal.returns-in-Some-clause-there
returns-in-Some-clause-there c =
    rw (← c.self.view_is) (c.in-Some.ensures.there ∙ sym (is_named-map (λ (e : ℕ × Linked Signal). e.1.item) (λ x. x.name) c.self.inside.signals c.args.name.now))

pub returns-in-Some-clause-signal : goal.returns-in-Some-clause-signal
returns-in-Some-clause-signal c =
    rw (← c.self.view_is)
    (sym
    (item_named (λ (e : Linked Signal). e.item) (λ x. x.name) c.self.inside.signals c.args.name.now c.in-Some.key c.get.result.now no_signal c.key_of.ensures.table
    (sym c.in-Some.ensures.key) c.get.ensures.item))

pub returns-in-None-clause-there : goal.returns-in-None-clause-there
returns-in-None-clause-there c =
    rw (← c.self.view_is) (c.in-None.ensures.there ∙ sym (is_named-map (λ (e : ℕ × Linked Signal). e.1.item) (λ x. x.name) c.self.inside.signals c.args.name.now))

use Rattle.std.proofs.Common.{◌≡◌, sym, ◌∙◌, subst}
use Rattle.std.specs.Prelude.{IfOk}
use Rattle.line_tables.proofs.RulesOfChange.{refused_last}
use Rattle.line_tables.proofs.line_tables.LineTables.rule_of_change.Goals as goal

pub returns : goal.returns
returns c =
    let within = sym c.is_within.ensures ∙ c.if-not-is_within.false in
    let there = sym (rw (c.kind.ensures, c.name.ensures) at c.has.ensures) ∙ c.if-not-has.false in
    let rule = refused_last c.args.self.now c.args.item.now within there c.requires.repeat c.requires.miscount in
    subst (λ r. IfOk c.rule_of_parts.result (λ told. told ≡ r)) (sym rule) c.rule_of_parts.ensures

use Rattle.std.proofs.Common.{◌≡◌, sym, ◌∙◌, subst}
use Rattle.std.specs.Prelude.{IfOk}
use Rattle.line_tables.proofs.RulesOfPut.{refused_next}
use Rattle.line_tables.proofs.line_tables.LineTables.rule_of_put.Goals as goal

pub returns : goal.returns
returns c =
    let rule = refused_next c.args.self.now c.args.item.now (sym c.rule_of_item.ensures ∙ c.in_default.is) in
    subst (λ r. IfOk c.rule_of_parts.result (λ told. told ≡ r)) (sym rule) c.rule_of_parts.ensures

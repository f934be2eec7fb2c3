use Rattle.std.proofs.Common.{List, sym, ap, ◌∙◌}
use Rattle.std.specs.Prelude.{position}
use Rattle.rail_model.specs.Name.{is_same}
use Rattle.plan_model.specs.declared.cut.CutRow.{CutRow}
use Rattle.capacity_cmd.specs.Ends.{row_named}
use Rattle.capacity_cmd.proofs.named.row_named.Goals as goal

pub returns-in-Some-clause-row : goal.returns-in-Some-clause-row
returns-in-Some-clause-row c =
    c.row_of_name.ensures.row
    ∙ ap (λ (rows : List CutRow). position (λ (r : CutRow). is_same r.name c.in-Some.run') rows) c.slice.ensures
    ∙ ap (row_named c.args.cut.now) (sym c.in-Some.is)

use Rattle.std.proofs.Common.{◌≡◌, Some, sym, ap, ◌∙◌}
use Rattle.std.specs.Prelude.{slice_get}
use Rattle.std.proofs.lemmas.Option.{slice_get_within, get_or_from_slice_get}
use Rattle.rail_model.proofs.NameOrder.{same_name}
use Rattle.plan_model.specs.declared.cut.CutRow.{CutRow}
use Rattle.plan_model.specs.Members.{no_member}
use Rattle.plan_repair.proofs.renewed.has_name.Goals as goal

pub returns-in-Some : goal.returns-in-Some
returns-in-Some c = λ same.
    let rows = c.args.rows.now in
    let row = c.in-Some.row.now in
    let found : slice_get rows c.args.at ≡ Some row = sym c.in-Some.ensures in
    record {
      there = slice_get_within rows c.args.at row found;
      name = ap (λ (r : CutRow). r.name) (get_or_from_slice_get rows c.args.at row no_member found)
          ∙ same_name row.name c.args.name.now (sym c.eq.ensures ∙ same);
    }

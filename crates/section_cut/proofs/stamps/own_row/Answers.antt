use Rattle.std.proofs.Common.{ap, ◌∙◌, arith}
use Rattle.std.proofs.lemmas.Bool.{both_ways}
use Rattle.std.proofs.lemmas.List.{get_or_default}
use Rattle.plan_model.specs.declared.cut.CutRow.{CutRow}
use Rattle.plan_model.specs.Members.{no_member}
use Rattle.section_cut.proofs.stamps.own_row.Goals as goal
use Rattle.section_cut.proofs.stamps.own_row.Goals.{else-at-rows-via-then-at-rows+else-same_name, else-at-rows-via-else-at-rows}

pub returns : goal.returns
returns c = λ there.
    let rows = c.args.rows.now in
    let at = c.args.at in
    elim c.else-at-rows.branch [
      | else-at-rows-via-then-at-rows+else-same_name w ↦
          both_ways w.same_name.result w.if-same_name.false
          (w.same_name.ensures.1 (ap (λ (r : CutRow). r.name) (get_or_default rows at w.index-rows-at.result no_member there.0) ∙ there.1))
      | else-at-rows-via-else-at-rows w ↦ omega (arith, there.0, w.if-at-rows.false)
    ]

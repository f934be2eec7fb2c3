use Rattle.std.proofs.Common.{get_or, length, ◌∷◌, [], ◌++◌, w64, sym, ap, ◌∙◌, rules, arith}
use Rattle.std.proofs.lemmas.Int.{to_z-of_z}
use Rattle.plan_model.specs.Members.{no_use}
use Rattle.section_cut.specs.Positions.{with_position}
use Rattle.section_cut.proofs.Placing.{uses_in_yes, uses_in_no}
use Rattle.section_cut.proofs.positions.gather.Goals as goal
use Rattle.section_cut.proofs.positions.gather.Goals.{then-block-blocks+in_ok-push, else-block-blocks}

pub loop-one-preserved : goal.loop-one-preserved
loop-one-preserved c =
    let uses = c.args.uses.now in
    let i = c.loop-one.one-index in
    let one = get_or uses i no_use in
    elim c.if-block-blocks.branch [
      | then-block-blocks+in_ok-push w ↦
          let start = to_z-of_z w64 one.start (search rules) in
          let end = to_z-of_z w64 one.«end» (search rules) in
          let pushed = rw (start, end) at w.in_ok-push.ensures.items in
          ap (λ v. v.items) w.found-is ∙ pushed ∙ ap (λ us. us ++ with_position c.args.table.positions.now one ∷ []) c.loop-one.invariant
          ∙ sym (uses_in_yes c.args.table.positions.now (length c.args.table.section.now.blocks) uses i no_use c.loop-one-test.true (omega (arith, w.if-block-blocks.true)))
      | else-block-blocks w ↦
          ap (λ v. v.items) w.found-is ∙ c.loop-one.invariant
          ∙ sym (uses_in_no c.args.table.positions.now (length c.args.table.section.now.blocks) uses i no_use c.loop-one-test.true (omega (arith, w.if-block-blocks.false)))
    ]

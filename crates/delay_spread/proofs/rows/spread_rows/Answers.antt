use Rattle.std.proofs.Common.{[], ◌∷◌, sym, ap, ◌∙◌, subst}
use Rattle.row_text.specs.Adds.{AddsAll, AddsFirst}
use Rattle.row_text.proofs.Adds.{adds_stopped, first_added}
use Rattle.answer_parts.proofs.Added.{then_adds}
use Rattle.plan_model.specs.declared.cut.Cut.{Cut}
use Rattle.delay_spread.specs.Spreading.{held_rows, knock_on_row, AreHeld}
use Rattle.delay_spread.proofs.Tied.{are_held}
use Rattle.delay_spread.proofs.rows.spread_rows.Goals as goal

pub held_rows-requires : goal.held_rows-requires
held_rows-requires c =
    subst (λ k. AreHeld k c.slice.result.now) (sym c.of.ensures)
    (subst (AreHeld c.args.cut.now) (sym c.slice.ensures) (are_held c.args.cut.now c.args.spread.now c.requires.spread))

pub returns-in_err-held_rows : goal.returns-in_err-held_rows
returns-in_err-held_rows c =
    let spread = c.args.spread.now in
    let same =
    ap (λ (k : Cut). held_rows k c.slice.result.now) c.of.ensures ∙ ap (held_rows c.args.cut.now) c.slice.ensures in
    adds_stopped _ c.from_residual.result c.from_residual.ensures.1
    (first_added (knock_on_row spread.late spread.sum ∷ [])
    (subst (AddsFirst c.args.sheet.now c.held_rows.new.sheet) same c.in_err-held_rows.ensures))

pub returns : goal.returns
returns c =
    let spread = c.args.spread.now in
    let same =
    ap (λ (k : Cut). held_rows k c.slice.result.now) c.of.ensures ∙ ap (held_rows c.args.cut.now) c.slice.ensures in
    then_adds c.knock_on_row.new.sheet (knock_on_row spread.late spread.sum ∷ []) c.knock_on_row.result
    (subst (AddsAll c.args.sheet.now c.held_rows.new.sheet) same c.in_ok-held_rows.ensures) c.knock_on_row.ensures

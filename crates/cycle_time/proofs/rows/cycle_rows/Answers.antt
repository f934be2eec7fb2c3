use Rattle.std.proofs.Common.{◌≡◌, [], ◌∷◌, length, sym, ap, subst, ◌∙◌}
use Rattle.std.specs.Prelude.{All}
use Rattle.row_text.specs.Adds.{AddsAll, AddsFirst, Adds}
use Rattle.row_text.proofs.Adds.{adds_stopped, first_added}
use Rattle.answer_parts.proofs.Added.{then_adds}
use Rattle.plan_model.specs.declared.cut.Cut.{Cut}
use Rattle.plan_model.specs.Members.{member_count}
use Rattle.cycle_time.specs.Cycle.{period_row, train_rows, IsStepWithin}
use Rattle.cycle_time.proofs.Told.{told}
use Rattle.cycle_time.proofs.rows.cycle_rows.Goals as goal

pub returns-in_err-period_row : goal.returns-in_err-period_row
returns-in_err-period_row c =
    let cut = c.args.cut.now in
    let cycle = c.args.cycle.now in
    adds_stopped _ c.from_residual.result c.from_residual.ensures.1
    (first_added (train_rows cut cycle.entries cycle.ring)
    (subst (λ n. AddsFirst c.args.sheet.now c.period_row.new.sheet (period_row cut.section.name cycle.period n ∷ [])) c.len.ensures.count
    c.in_err-period_row.ensures))

pub train_rows-requires-clause-count : goal.train_rows-requires-clause-count
train_rows-requires-clause-count c =
    ap length c.slice.ensures ∙ (told c.args.cut.now c.requires.sound c.args.cycle.now c.requires.shown).0
    ∙ ap member_count (sym c.of.ensures)

pub train_rows-requires-clause-steps : goal.train_rows-requires-clause-steps
train_rows-requires-clause-steps c =
    subst (λ k. All (IsStepWithin k) c.slice-2.result.now) (sym c.of.ensures)
    (subst (All (IsStepWithin c.args.cut.now)) (sym c.slice-2.ensures)
    (told c.args.cut.now c.requires.sound c.args.cycle.now c.requires.shown).1)

pub returns : goal.returns
returns c =
    let cut = c.args.cut.now in
    let cycle = c.args.cycle.now in
    let same : train_rows c.of.result c.slice.result.now c.slice-2.result.now ≡ train_rows cut cycle.entries cycle.ring =
    ap (λ (k : Cut). train_rows k c.slice.result.now c.slice-2.result.now) c.of.ensures
    ∙ ap (λ es. train_rows cut es c.slice-2.result.now) c.slice.ensures
    ∙ ap (train_rows cut cycle.entries) c.slice-2.ensures in
    then_adds c.train_rows.new.sheet (train_rows cut cycle.entries cycle.ring) c.train_rows.result
    (subst (λ n. AddsAll c.args.sheet.now c.period_row.new.sheet (period_row cut.section.name cycle.period n ∷ [])) c.len.ensures.count
    c.in_ok-period_row.ensures)
    (subst (Adds c.train_rows.result c.period_row.new.sheet c.train_rows.new.sheet) same c.train_rows.ensures)

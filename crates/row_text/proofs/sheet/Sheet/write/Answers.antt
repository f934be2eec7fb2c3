use Rattle.std.proofs.Common.{sym, ap, ◌∙◌}
use Rattle.std.proofs.lemmas.List.{take-map}
use Rattle.std.proofs.lemmas.Result.{err_from_is_err_and}
use Rattle.row_text.specs.FieldText.{text_of}
use Rattle.row_text.proofs.sheet.Sheet.write.Goals as goal

pub returns-in_err-push-clause-begun : goal.returns-in_err-push-clause-begun
returns-in_err-push-clause-begun c =
    let is = err_from_is_err_and c.from_residual.result c.from_residual.ensures.1 in
    let same = ap (λ sheet. sheet.row) c.in_err-push.ensures.err in
    rw is.1
    (c.loop-field.field-index, same ∙ c.loop-field.invariant.row ∙ sym (take-map text_of c.loop-field.field-index c.args.fields.now))

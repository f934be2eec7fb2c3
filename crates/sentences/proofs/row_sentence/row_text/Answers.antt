use Rattle.std.proofs.Common.{◌≡◌, Some, inr}
use Rattle.std.proofs.lemmas.Result.{IfOk-weaker}
use Rattle.std.specs.String.{string_bytes}
use Rattle.sentences.specs.Told.{IsOfRow, of_row}
use Rattle.sentences.proofs.row_sentence.row_text.Goals as goal

pub returns-in-Some : goal.returns-in-Some
returns-in-Some c =
    let line = c.in-Some.at.line in
    let why = string_bytes c.in_ok-why.why in
    IfOk-weaker c.in_line.result (λ text. string_bytes text ≡ of_row c.args.number (Some line) why) (λ text. IsOfRow c.args.number (string_bytes text))
    (λ text is. inr (Some line, (why, is))) c.in_line.ensures

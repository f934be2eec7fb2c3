use Rattle.std.proofs.Common.{sym, ◌∙◌}
use Rattle.rail_model.proofs.NameTests.{printable_is_plain_text}
use Rattle.rail_model.proofs.name.is_plain_text.Goals as goal

pub returns-then-is_printable : goal.returns-then-is_printable
returns-then-is_printable c =
    let printable = c.if-is_printable.true in
    printable ∙ sym (printable_is_plain_text c.args.bytes.now (sym c.is_printable.ensures ∙ printable))

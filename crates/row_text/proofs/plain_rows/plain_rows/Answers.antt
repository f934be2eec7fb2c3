use Rattle.std.proofs.Common.{◌≡◌, sym, ◌∙◌, rules}
use Rattle.csv.specs.Reading.{strip_bom}
use Rattle.row_text.specs.PlainRows.{HasCutAll, so_far}
use Rattle.row_text.proofs.PlainReads.{rows_of-plain, strip_bom-none}
use Rattle.row_text.proofs.plain_rows.plain_rows.Goals as goal

pub of_cuts-requires : goal.of_cuts-requires
of_cuts-requires c =
    let all : HasCutAll c.args.text.now (so_far c.in-Some.cut) = search rules in
    record { rise = all.fits.rise; each = all.fits.each }

pub returns-in-Some : goal.returns-in-Some
returns-in-Some c =
    let text = c.args.text.now in
    let all : HasCutAll text (so_far c.in-Some.cut) = search rules in
    let whole : strip_bom text ≡ text = strip_bom-none text (λ e. cc (rw c.if-starts_with_mark.false at (c.starts_with_mark.ensures.1 e))) in
    c.of_cuts.ensures ∙ sym all.rows ∙ sym (rows_of-plain text all.no_quote whole)

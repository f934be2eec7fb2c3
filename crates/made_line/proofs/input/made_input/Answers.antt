use Rattle.std.proofs.Common.{◌++◌, map, ap, ◌∙◌, arith}
use Rattle.row_text.specs.declared.line.Line.TheVariants as line
use Rattle.made_line.specs.Base.{base_edits}
use Rattle.made_line.specs.Text.{lines_of_scripts, rows_of}
use Rattle.made_line.proofs.HowMany.{length_scripts}
use Rattle.made_line.proofs.Written.{all_rows}
use Rattle.made_line.proofs.input.made_input.Goals as goal

pub write_scripts-requires : goal.write_scripts-requires
write_scripts-requires c = rw c.in_ok-made_scripts.ensures (omega (arith, length_scripts c.args.n))

pub returns : goal.returns
returns c =
    let scripts = c.in_ok-made_scripts.field-0 in
    c.from_vec.ensures ∙ c.into_text.ensures
    ∙ all_rows c.args.n c.write_scripts.new.sheet.rows
    (c.in_ok-write_scripts.ensures
    ∙ ap (λ rows. rows ++ rows_of (lines_of_scripts scripts))
    (c.in_ok-write_edits.ensures ∙ ap (λ rows. rows ++ rows_of (map line.Edit c.slice.result.now)) c.new-sheet.ensures.rows)
    ∙ ap (λ edits. rows_of (map line.Edit edits) ++ rows_of (lines_of_scripts scripts)) (c.slice.ensures ∙ c.in_ok-base_edits.ensures)
    ∙ ap (λ all. rows_of (map line.Edit (base_edits c.args.n)) ++ rows_of (lines_of_scripts all)) c.in_ok-made_scripts.ensures)

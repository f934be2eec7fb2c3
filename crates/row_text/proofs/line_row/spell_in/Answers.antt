use Rattle.std.proofs.Common.{◌≡◌, true, rules}
use Rattle.row_text.specs.Lines.{row_in, has_times_in}
use Rattle.row_text.proofs.Again.{read_in-row_in}
use Rattle.row_text.proofs.line_row.spell_in.Goals as goal

pub returns-clause-again : goal.returns-clause-again
returns-clause-again c = λ spelled.
    let row : c.push_line.new.row ≡ row_in c.args.version c.args.line.now = search rules in
    let times : has_times_in c.args.version c.args.line.now ≡ true = search rules in
    rw row (read_in-row_in c.args.version c.args.line.now spelled times)

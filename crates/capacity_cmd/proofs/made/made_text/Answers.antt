use Rattle.std.proofs.Common.{◌≡◌, ℕ, List, ◌∙◌, subst}
use Rattle.std.proofs.lemmas.Result.{IfOk-weaker}
use Rattle.rail_model.specs.declared.tables.Tables.{Tables}
use Rattle.row_text.specs.SheetRows.{Row, text_of_rows}
use Rattle.capacity_report.specs.Answers.{AreAnswers}
use Rattle.capacity_cmd.specs.Ends.{made_rows, IsMadeText}
use Rattle.capacity_cmd.specs.Counted.{counted_rows}
use Rattle.capacity_cmd.proofs.Counted.{all_counted}
use Rattle.capacity_cmd.proofs.made.made_text.Goals as goal

pub counts_of_book-requires : goal.counts_of_book-requires
counts_of_book-requires g c = c.in_ok-book.ensures.current

pub returns : goal.returns
returns g c =
    let n = c.args.n in
    let base = c.in_ok-base.ensures in
    let last = c.in_ok-last.ensures in
    let rows = λ (made : ℕ) (b l : List Row). text_of_rows (made_rows n b made l) in
    IfOk-weaker c.text_of_counts.result (λ text. text.items
    ≡ rows c.edits_made.result (counted_rows c.in_ok-base.base) (counted_rows c.in_ok-last.last))
    (λ text. IsMadeText n text.items)
    (λ text is. record {
      base = base.answers;
      base_are = subst (λ (t : Tables). AreAnswers t t.sections base.answers) c.in_ok-tables.ensures.whole (all_counted _ _ base);
      journal = c.in_ok-book.book;
      session = c.in_ok-book.ensures;
      last = last.answers;
      last_are = all_counted _ _ last;
      text_is = is
          ∙ (λ i. rows (c.edits_made.ensures i) (counted_rows (base.counted_is i)) (counted_rows (last.counted_is i)));
    })
    c.text_of_counts.ensures

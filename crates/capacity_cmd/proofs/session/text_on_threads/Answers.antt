use Rattle.std.proofs.lemmas.Result.{IfOk-weaker}
use Rattle.capacity_cmd.specs.Ends.{IsSessionText, IsJournalText}
use Rattle.capacity_cmd.proofs.Reports.{journal_with}
use Rattle.capacity_cmd.proofs.session.text_on_threads.Goals as goal

pub text_of_book-requires : goal.text_of_book-requires
text_of_book-requires g c = (record { shared = c.type_bounds.sync-R.shared }, c.in_ok-book.ensures.current)

pub returns : goal.returns
returns g c =
    let given = c.args.given in
    let journal = c.in_ok-book.book in
    IfOk-weaker c.text_of_book.result (IsJournalText journal)
    (IsSessionText given.tables given.at given.scripts c.args.workers)
    (λ text is. (
      journal,
      journal_with c.args.workers given.at given.tables given.scripts journal c.requires.some c.in_ok-book.ensures,
      is,
    ))
    c.text_of_book.ensures

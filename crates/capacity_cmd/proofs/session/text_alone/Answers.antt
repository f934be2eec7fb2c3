use Rattle.std.proofs.lemmas.Result.{IfOk-weaker}
use Rattle.capacity_cmd.specs.Ends.{IsSessionText, IsJournalText}
use Rattle.capacity_cmd.proofs.session.text_alone.Goals as goal

pub text_of_book-requires : goal.text_of_book-requires
text_of_book-requires g c = (record { shared = c.type_bounds.sync-typeof-rt.shared }, c.in_ok-book.ensures.session.current)

pub returns : goal.returns
returns g c =
    let given = c.args.given in
    IfOk-weaker c.text_of_book.result (IsJournalText c.in_ok-book.book)
    (IsSessionText given.tables given.at given.scripts 0)
    (λ text is. (c.in_ok-book.book, c.in_ok-book.ensures, is)) c.text_of_book.ensures

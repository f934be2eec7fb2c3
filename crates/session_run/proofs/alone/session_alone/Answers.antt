use Rattle.std.proofs.Common.{sym, subst}
use Rattle.section_worker.specs.Keeping.{KeepsWhatWasRead}
use Rattle.session_run.proofs.Keeping.{keeps_nothing}
use Rattle.session_run.proofs.InTurn.{starts_untouched, still_untouched, is_session_after}
use Rattle.session_run.proofs.alone.session_alone.Goals as goal

pub answer_first-requires-clause-kept : goal.answer_first-requires-clause-kept
answer_first-requires-clause-kept g c κs inside =
    subst (λ w. KeepsWhatWasRead w c.in_ok-book.book) (sym c.new-worker.ensures) (keeps_nothing 0 1 0 c.in_ok-book.book)

pub do_scripts-requires-clause-none : goal.do_scripts-requires-clause-none
do_scripts-requires-clause-none g c =
    still_untouched c.in_ok-book.book c.answer_first.new.book c.in_ok-answer_first.ensures.ok
    (starts_untouched c.args.tables c.args.at c.args.scripts c.in_ok-book.book c.in_ok-book.ensures)

pub returns : goal.returns
returns g c =
    is_session_after c.args.tables c.args.at c.args.scripts c.in_ok-book.book c.answer_first.new.book c.do_scripts.new.book
    c.in_ok-book.ensures c.in_ok-answer_first.ensures.ok c.in_ok-do_scripts.ensures

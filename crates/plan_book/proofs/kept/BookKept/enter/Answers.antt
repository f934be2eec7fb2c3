use Rattle.std.proofs.Common.{◌+◌, ◌<◌, ◌∙◌, ap, sym, subst}
use Rattle.plan_model.specs.Journal.{issued}
use Rattle.plan_book.proofs.Entering.{book-entered}
use Rattle.plan_book.proofs.kept.BookKept.enter.Goals as goal

pub invariant_of-self-2 : goal.invariant_of-self-2
invariant_of-self-2 c =
    let b = c.self.inside in
    rw c.in_ok-push.ensures.ok
    (book-entered b.journal b.tables b.first b.at b.passes b.shelves b.done.items c.args.by c.self.invariant
    (subst (λ j. c.args.by < issued j) (sym c.self.view_is) c.requires.issued))

pub returns-clause-issues : goal.returns-clause-issues
returns-clause-issues c =
    let b = c.self.inside in
    ap issued c.in_ok-push.ensures.ok
    ∙ sym
    (book-entered b.journal b.tables b.first b.at b.passes b.shelves b.done.items c.args.by c.self.invariant
    (subst (λ j. c.args.by < issued j) (sym c.self.view_is) c.requires.issued)).passes_are
    ∙ ap (λ n. n + 1) (c.self.invariant.passes_are ∙ ap issued c.self.view_is)

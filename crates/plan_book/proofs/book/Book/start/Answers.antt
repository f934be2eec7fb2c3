use Rattle.std.proofs.Common.{◌≡◌, length, replicate, ap, ◌∙◌}
use Rattle.plan_book.proofs.Starting.{book_first}
use Rattle.plan_book.proofs.book.Book.start.Goals as goal

pub invariant_of-result : goal.invariant_of-result
invariant_of-result c =
    let zeros : c.in_ok-done.done.items ≡ replicate (length c.args.scripts) 0 = c.in_ok-done.ensures.items_if_clones_equal (λ y e. e) ∙ ap (λ n. replicate n 0) c.len.ensures in
    rw (c.in_ok-journal.ensures.same, c.in_ok-of.ensures)
    (book_first c.args.tables c.args.at c.args.scripts c.in_ok-shelves.shelves c.in_ok-done.done.items c.in_ok-journal.ensures.sound
    c.requires.planners c.requires.tasks c.requires.at c.in_ok-shelves.ensures zeros)

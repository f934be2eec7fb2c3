use Rattle.plan_book.proofs.Alike.{alike_widens, sound_cuts}
use Rattle.plan_book.proofs.Edited.{book-wider}
use Rattle.plan_book.proofs.book.Book.share.Goals as goal

pub share_cuts-requires : goal.share_cuts-requires
share_cuts-requires c =
    let b = c.self.inside in
    sound_cuts b.journal b.first b.shelves c.self.invariant.shelves_are

pub invariant_of-self : goal.invariant_of-self
invariant_of-self c =
    let b = c.self.inside in
    book-wider b.journal b.tables b.first b.at b.passes b.shelves c.share_cuts.new.shelves b.done.items c.self.invariant
    (alike_widens b.shelves c.share_cuts.new.shelves c.share_cuts.ensures b.first c.self.invariant.shelves_are.rise)

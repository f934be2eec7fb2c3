use Rattle.std.proofs.Common.{rules}
use Rattle.std.specs.Cmp.Lexicographic.{slice_cmp}
use Rattle.std.specs.Ordering.{nat_cmp}
use Rattle.std.proofs.lemmas.Fn.{always_returns_same}
use Rattle.plan_book.specs.declared.shelf.Shelf.{Shelf}
use Rattle.plan_book.proofs.Found.{searched_is}
use Rattle.plan_book.proofs.shelf.place_of.Goals as goal

-- the closure compares each shelf's name with the name that is sought
pub returns : goal.returns
returns c =
    let n = c.args.name.now in
    searched_is c.args.shelves.now n c.binary_search_by.result c.requires c.binary_search_by.ensures.bound
    (c.binary_search_by.ensures.position (λ (s : Shelf). slice_cmp nat_cmp s.name n) (always_returns_same _ _ _ (λ a r q k. search rules)))

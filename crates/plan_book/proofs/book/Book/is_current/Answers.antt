use Rattle.plan_model.specs.Outcome.{section_name}
use Rattle.plan_book.proofs.Latest.{latest_is_current, current_has_latest}
use Rattle.plan_book.proofs.book.Book.is_current.Goals as goal

pub returns : goal.returns
returns c =
    let j = c.args.self.now in
    let name = section_name j c.args.number in
    let s = c.shelf.result.now in
    let told = c.shelf.ensures in
    let by_shelf = c.has_latest.ensures in (
      λ yes. latest_is_current j name s told.is_journal told.shelf (by_shelf.0 yes),
      λ current. by_shelf.1 (current_has_latest j name s told.is_journal told.shelf current),
    )

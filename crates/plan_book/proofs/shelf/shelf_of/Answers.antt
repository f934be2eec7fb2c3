use Rattle.std.proofs.Common.{sym}
use Rattle.std.proofs.lemmas.Option.{slice_get_read}
use Rattle.plan_book.proofs.Found.{found_at, not_found}
use Rattle.plan_book.proofs.shelf.shelf_of.Goals as goal
use Rattle.std.proofs.Common.{refl}

pub returns-in-Ok : goal.returns-in-Ok
returns-in-Ok c =
    let shelves = c.args.shelves.now in
    sym (found_at shelves c.args.name.now c.in-Ok.place c.index-shelves-place.result c.in-Ok.ensures.number
    (slice_get_read shelves _ c.in-Ok.place c.index-shelves-place.result refl c.in-Ok.ensures.within c.index-shelves-place.is))

pub returns-in-Err : goal.returns-in-Err
returns-in-Err c = sym (not_found c.args.shelves.now c.args.name.now c.in-Err.field-0 c.in-Err.ensures)

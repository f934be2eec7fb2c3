use Rattle.std.proofs.Common.{◌≡◌, ◌<◌, length, refl, sym, ap, ◌∙◌, arith}
use Rattle.std.proofs.lemmas.List.{get_or_read}
use Rattle.std.proofs.lemmas.Option.{slice_get_read}
use Rattle.rail_model.proofs.NameOrder.{same_name}
use Rattle.rail_model.proofs.Places.{number_of-found}
use Rattle.plan_book.proofs.Found.{label, found_at}
use Rattle.plan_book.proofs.shelf.shelf_near.Goals as goal

-- no other shelf has the name of the one at the place
pub returns-in-Some : goal.returns-in-Some
returns-in-Some c =
    let shelves = c.args.shelves.now in
    let n = c.args.name.now in
    let near = c.args.near in
    let s = c.in-Some.shelf.now in
    let at = c.in-Some.ensures.lookup in
    let within : near < length shelves = omega arith in
    let named : s.name ≡ n = same_name s.name n (sym c.if-eq.ensures) in
    let number = number_of-found label shelves n near c.requires within (λ d. ap label (sym (get_or_read shelves near s within at.1 d)) ∙ named) in
    sym (found_at shelves n near s (sym number) (slice_get_read shelves _ near s refl within at.1))

use Rattle.std.proofs.Common.{◌∙◌, sym, subst, ap, refl}
use Rattle.std.specs.Option.{option_copied}
use Rattle.plan_model.specs.Outcome.{IsDone}
use Rattle.plan_book.specs.Shelves.{AreShelves}
use Rattle.plan_book.proofs.Adding.{shelf_found, done_found, verdict_is}
use Rattle.plan_book.proofs.book.Book.verdict.Goals as goal

pub unreachable-requires : goal.unreachable-requires
unreachable-requires c =
    let are = subst (AreShelves c.self.inside.journal c.self.inside.first) (sym c.slice.ensures) c.self.invariant.shelves_are in
    let found = sym c.shelf_of.ensures ∙ ap option_copied c.in_default.is in
    let is = subst (λ j. IsDone j c.args.done.now) (sym c.self.view_is) c.requires in
    done_found c.self.inside.journal c.self.inside.first c.slice.result.now c.args.done.now.section are c.args.done.now c.self.invariant.first_is refl is found

pub returns : goal.returns
returns c =
    let are = subst (AreShelves c.self.inside.journal c.self.inside.first) (sym c.slice.ensures) c.self.invariant.shelves_are in
    let found = sym c.shelf_of.ensures ∙ ap option_copied c.in-Some.is in
    let is = subst (λ j. IsDone j c.args.done.now) (sym c.self.view_is) c.requires in
    rw (← c.self.view_is)
    (verdict_is c.self.inside.journal c.in-Some.shelf.now c.args.done.now c.self.invariant.is_journal
    (shelf_found c.self.inside.journal c.self.inside.first c.slice.result.now c.args.done.now.section are c.in-Some.shelf.now found) is
    c.verdict_of.result c.verdict_of.ensures)

use Rattle.std.proofs.Common.{◌∙◌, ap, sym, subst, refl, ◌++◌, ◌∷◌, []}
use Rattle.plan_model.specs.declared.journal.Entry.{Entry}
use Rattle.plan_model.specs.declared.journal.Act.TheVariants as act
use Rattle.plan_model.specs.Legal.{IsNext, MayBePublished}
use Rattle.plan_book.specs.Shelves.{AreShelves, IsPlaceOf}
use Rattle.plan_book.proofs.Found.{not_found}
use Rattle.plan_book.proofs.Adding.{done_found}
use Rattle.plan_book.proofs.Publications.{book-published}
use Rattle.plan_book.proofs.book.Book.add_published.Goals as goal

pub unreachable-requires : goal.unreachable-requires
unreachable-requires c =
    let b = c.self.inside in
    let d = c.args.done in
    let are = subst (AreShelves b.journal b.first) (sym c.slice.ensures) c.self.invariant.shelves_are in
    let may = subst (λ j. MayBePublished j d.section d.at d.answer) (sym c.self.view_is) c.requires.may in
    done_found b.journal b.first c.slice.result.now d.section are d c.self.invariant.first_is refl may.done
    (not_found c.slice.result.now d.section c.in_default.field-0 c.in_default.ensures)

pub invariant_of-self-2 : goal.invariant_of-self-2
invariant_of-self-2 c =
    let b = c.self.inside in
    let d = c.args.done in
    let e : Entry = record { pass = c.args.who; act = act.Published d.section d.at d.answer } in
    let same = c.in_ok-push.ensures.ok ∙ ap (λ x. b.journal ++ x ∷ []) c.published_entry.ensures in
    let next : IsNext b.journal e = subst (λ j. IsNext j e) (sym c.self.view_is) (record { pass = c.requires.issued; follows = c.requires.may }) in
    let there = subst (λ s. IsPlaceOf s d.section c.in-Ok.place) c.slice.ensures c.in-Ok.ensures in
    rw (same, c.len.ensures.count)
    (book-published b.journal b.tables b.first b.at b.passes b.shelves b.done.items c.args.who d.section d.at d.answer c.in-Ok.place
    c.get_mut.result.now c.self.invariant next there c.get_mut.ensures.item)

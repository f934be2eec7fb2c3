use Rattle.std.proofs.Common.{◌≡◌, ◌<◌, ◌∙◌, None, Some, length, sym, subst, ap}
use Rattle.std.specs.Prelude.{slice_get}
use Rattle.std.specs.Option.{option_copied}
use Rattle.std.proofs.lemmas.Option.{get_or_from_slice_get}
use Rattle.rail_model.specs.declared.items.Section.{Section}
use Rattle.rail_model.specs.Tables.{no_section, section_at}
use Rattle.plan_model.specs.Journal.{tables_of}
use Rattle.plan_model.specs.Legal.{cut_now}
use Rattle.plan_model.specs.Outcome.{section_name}
use Rattle.plan_book.specs.Shelves.{AreShelves, IsShelf}
use Rattle.rail_model.specs.declared.tables.Tables.{Tables}
use Rattle.plan_book.proofs.Adding.{shelf_found, none_found}
use Rattle.plan_book.proofs.Sections.{cut_not_missing}
use Rattle.plan_book.proofs.book.Book.shelf.Goals as goal

pub unreachable-requires : goal.unreachable-requires
unreachable-requires c =
    let b = c.self.inside in
    let n = c.args.number in
    let name = c.section.result.now.name in
    let name_is : section_name b.journal n ≡ name =
    ap (λ t. (section_at t n).name) (sym c.self.invariant.tables_are)
    ∙ ap (λ (s : Section). s.name) (get_or_from_slice_get b.tables.sections n c.section.result.now no_section (subst (λ (t : Tables). slice_get t.sections n ≡ Some c.section.result.now) c.tables.ensures c.section.ensures)) in
    let there : n < length (tables_of b.journal).sections = subst (λ j. n < length (tables_of j).sections) (sym c.self.view_is) c.requires in
    let are = subst (AreShelves b.journal b.first) (sym c.slice.ensures) c.self.invariant.shelves_are in
    let found = sym c.shelf_near.ensures ∙ ap option_copied c.in_default.is in
    let none = (none_found b.journal b.first c.slice.result.now name are found).cut.value in
    cut_not_missing b.journal n c.self.invariant.is_journal there (subst (λ m. cut_now b.journal m ≡ None) (sym name_is) none)

pub returns-clause-shelf : goal.returns-clause-shelf
returns-clause-shelf c =
    let b = c.self.inside in
    let n = c.args.number in
    let name = c.section.result.now.name in
    let name_is : section_name b.journal n ≡ name =
    ap (λ t. (section_at t n).name) (sym c.self.invariant.tables_are)
    ∙ ap (λ (s : Section). s.name) (get_or_from_slice_get b.tables.sections n c.section.result.now no_section (subst (λ (t : Tables). slice_get t.sections n ≡ Some c.section.result.now) c.tables.ensures c.section.ensures)) in
    let are = subst (AreShelves b.journal b.first) (sym c.slice.ensures) c.self.invariant.shelves_are in
    let found = sym c.shelf_near.ensures ∙ ap option_copied c.in-Some.is in
    subst (λ j. IsShelf j (section_name j n) c.in-Some.shelf.now) c.self.view_is
    (subst (λ m. IsShelf b.journal m c.in-Some.shelf.now) (sym name_is)
    (shelf_found b.journal b.first c.slice.result.now name are c.in-Some.shelf.now found))

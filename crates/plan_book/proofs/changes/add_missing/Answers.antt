use Rattle.std.proofs.Common.{◌≡◌, subst, sym, arith}
use Rattle.std.specs.Prelude.{All, true}
use Rattle.std.proofs.lemmas.List.{take_all}
use Rattle.std.proofs.lemmas.List.Elements.{All-more}
use Rattle.std.proofs.lemmas.Option.{get_or_from_slice_get}
use Rattle.rail_model.specs.declared.items.Section.{Section}
use Rattle.rail_model.specs.Rules.{is_named}
use Rattle.rail_model.specs.Tables.{no_section}
use Rattle.plan_book.specs.declared.shelf.Shelf.{Shelf}
use Rattle.plan_book.proofs.Widening.{widens_further}
use Rattle.plan_book.proofs.changes.add_missing.Goals as goal

pub loop-number-preserved : goal.loop-number-preserved
loop-number-preserved c =
    let sections = c.args.tables.now.sections in
    let n = c.loop-number.number in
    let new = c.add_shelf.new.shelves in
    let made = c.in_ok-add_shelf.ensures in
    let here = get_or_from_slice_get sections n c.section.result.now no_section c.section.ensures in
    record {
      same = widens_further c.args.first c.args.shelves.now c.loop-number.shelves new c.loop-number.invariant.same made.same;
      all =
          All-more (λ (x : Section). is_named (λ (s : Shelf). s.name) new x.name ≡ true) sections n no_section
          (omega (arith, c.loop-number-test.true, c.sections-number-end.ensures.count))
          (λ k d l. made.kept _ (c.loop-number.invariant.all k d l))
          (subst (λ (x : Section). is_named (λ (s : Shelf). s.name) new x.name ≡ true) (sym here) made.there);
    }

pub returns-clause-all : goal.returns-clause-all
returns-clause-all c =
    let sections = c.args.tables.now.sections in
    subst (All (λ (x : Section). is_named (λ (s : Shelf). s.name) c.loop-number.shelves x.name ≡ true))
    (take_all c.loop-number.number sections (omega (arith, c.loop-number-test.false, c.sections-number-end.ensures.count)))
    c.loop-number.invariant.all

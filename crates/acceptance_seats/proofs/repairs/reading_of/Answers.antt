use Rattle.std.proofs.Common.{sym, ap, ◌∙◌, subst}
use Rattle.std.specs.Prelude.{IfSome}
use Rattle.rail_model.specs.declared.items.Section.{Section}
use Rattle.rail_model.proofs.NameOrder.{same_name}
use Rattle.plan_model.specs.Outcome.{IsNextReading}
use Rattle.acceptance_seats.proofs.Agreeing.{agrees}
use Rattle.acceptance_seats.proofs.repairs.reading_of.Goals as goal

pub returns-then-eq : goal.returns-then-eq
returns-then-eq c =
    let book = c.args.book.now in
    let next = subst (λ r. IfSome r (IsNextReading 0 1 book)) c.in-Some.is c.in_ok-reading.ensures in
    let same = same_name c.section.result.now.name c.section-2.result.now (sym c.eq.ensures ∙ c.if-eq.true) in (
      next,
      agrees book c.in-Some.reading c.args.keep.now c.journal-journal.ensures.is_journal c.requires next
          (sym (ap (λ (s : Section). s.name) c.section.ensures) ∙ same ∙ c.section-2.ensures),
    )

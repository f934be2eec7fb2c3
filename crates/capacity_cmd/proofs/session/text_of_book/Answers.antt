use Rattle.std.proofs.Common.{refl}
use Rattle.plan_model.specs.Journal.{tables_of}
use Rattle.capacity_cmd.proofs.Reports.{journal_written}
use Rattle.capacity_cmd.proofs.session.text_of_book.Goals as goal

pub journal_text-requires : goal.journal_text-requires
journal_text-requires g c = (
  record { shared = c.type_bounds.sync-typeof-rt.shared },
  rw c.into_journal.ensures.same c.into_journal.ensures.is_journal.legal,
)

pub returns : goal.returns
returns g c =
    journal_written c.args.book _ (tables_of c.args.book) _ _ _ c.into_journal.ensures.same refl c.in_ok-text.ensures
    c.in_ok-report.ensures c.in_ok-push.ensures.ok

use Rattle.std.proofs.Common.{◌<◌, ◌+◌, ◌∙◌, length, ap, sym, subst, arith, Vec, Global}
use Rattle.std.proofs.lemmas.Bool.{false≢true}
use Rattle.rail_model.specs.declared.tables.Tables.{Tables}
use Rattle.plan_model.specs.declared.reading.Reading.{Reading}
use Rattle.plan_model.specs.Journal.{tables_of}
use Rattle.plan_model.specs.Legal.{IsJournal}
use Rattle.plan_book.specs.Reading.{AreOpenBelow}
use Rattle.plan_book.proofs.OpenReadings.{none_read, none_more, one_more}
use Rattle.plan_book.proofs.book.Book.readings.Goals as goal
use Rattle.plan_book.proofs.book.Book.readings.Goals.{then-not-is_current+in_ok-reading+in_ok-push, else-not-is_current}

pub loop-number-init : goal.loop-number-init
loop-number-init c = rw c.new-readings.ensures.items (none_read c.args.self.now)

pub loop-number-preserved : goal.loop-number-preserved
loop-number-preserved c =
    let j = c.args.self.now in
    let n = c.loop-number.number in
    let there : n < length (tables_of j).sections =
    omega (arith, c.loop-number-test.true, c.sections-number-end.ensures.count, ap (λ (t : Tables). length t.sections) c.tables.ensures) in
    elim c.if-not-is_current.branch [
      | then-not-is_current+in_ok-reading+in_ok-push w ↦
          subst (λ rs. AreOpenBelow j (n + 1) rs) (sym (ap (λ (v : Vec Reading Global). v.items) w.readings-is ∙ w.in_ok-push.ensures.items))
          (one_more j n c.loop-number.readings.items c.loop-number.invariant w.in_ok-reading.field-0 w.in_ok-reading.ensures
          (subst IsJournal c.self.view_is c.self.invariant.is_journal) there (λ current. false≢true (sym w.if-not-is_current.true ∙ c.is_current.ensures.1 current)))
      | else-not-is_current w ↦
          subst (λ rs. AreOpenBelow j (n + 1) rs) (sym (ap (λ (v : Vec Reading Global). v.items) w.readings-is))
          (none_more j n c.loop-number.readings.items c.loop-number.invariant (c.is_current.ensures.0 w.if-not-is_current.false))
    ]

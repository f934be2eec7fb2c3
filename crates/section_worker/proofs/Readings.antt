-- The answer of a reading may be published also after uses were taken of the reading.
use Rattle.std.proofs.Common.{◌≡◌, ℕ, List, refl, sym, subst}
use Rattle.plan_model.specs.declared.answer.Answer.{Answer}
use Rattle.plan_model.specs.declared.journal.Entry.{Entry}
use Rattle.plan_model.specs.Answer.{IsAnswer}
use Rattle.plan_model.specs.Reading.{Shown}
use Rattle.plan_model.specs.Outcome.{IsNextReading, IsDone}
use Rattle.plan_model.proofs.Readings.{reading_done}
use Rattle.section_worker.specs.Turn.{done_of}

pub done_later : (share of : ℕ) (journal : List Entry) (shown later : Shown) (answer : Answer)
    → IsNextReading share of journal shown → later.cut ≡ shown.cut → later.at ≡ shown.at → IsAnswer shown.cut answer
    → IsDone journal (done_of later answer)
done_later share of journal shown later answer next same_cut same_at is =
    subst (λ d. IsDone journal d)
    (λ k. record { section = (sym same_cut k).section.name; at = sym same_at k; answer = answer })
    (reading_done share of journal shown next (done_of shown answer) (record { section = refl; at = refl; answer = is }))

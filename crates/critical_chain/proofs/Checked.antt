-- A plan that is what its entries make of a cut is the compressed timetable where they are a schedule, and each train
-- without a touch enters at the window's start.
use Rattle.std.proofs.Common.{◌≡◌, ℕ, List, [], inl, inr, refl, sym, ap, subst, ◌∙◌}
use Rattle.std.specs.Prelude.{ℤ, unwrap_or}
use Rattle.std.specs.Ordering.{int_eq}
use Rattle.std.proofs.lemmas.Bool.{cases_Bool}
use Rattle.std.proofs.lemmas.Bool.Decides.{Decides-int_eq}
use Rattle.plan_model.specs.declared.cut.Cut.{Cut}
use Rattle.plan_model.specs.declared.answer.Tie.{Tie}
use Rattle.plan_model.specs.declared.answer.Tie.TheVariants.{Start, After}
use Rattle.plan_model.specs.declared.answer.Plan.{Plan}
use Rattle.plan_model.specs.Cut.{IsSoundCut}
use Rattle.plan_model.specs.Disorder.{remaining}
use Rattle.plan_model.specs.Schedule.{window_start, window_floor, entry_at, IsLeast, tie_of, touch}
use Rattle.plan_model.specs.Laws.{IsTied}
use Rattle.plan_model.specs.Answer.{plan_of, IsCompressed}
use Rattle.plan_model.proofs.Tied.{tied_is_least}
use Rattle.plan_model.proofs.LeastTied.{least_is_tied}
use Rattle.plan_model.proofs.Unique.{entries_are}
use Rattle.critical_chain.specs.Checked.{entries_of, IsChecked, CheckedIsCompressed}
use Rattle.critical_chain.proofs.Ties.{bound, touched_by}
use Rattle.critical_chain.proofs.First.{touched}

module _ (cut : Cut) (entries : List ℤ) (j : ℕ) where
  -- a train is tied where its tie says so
  pub tied_by : (tie : Tie) → tie_of cut entries j ≡ tie
      → (tie_of cut entries j ≡ Start → entry_at entries j ≡ window_start cut) → IsTied cut entries j
  tied_by Start is starts = inl (starts is)
  tied_by (After i block) is starts =
      inr (i, (bound cut entries i block j is).member, touched_by cut entries i block j is)

  -- one that is tied and whose tie is Start enters at the window's start
  starts_by : IsSoundCut cut → IsTied cut entries j → tie_of cut entries j ≡ Start → entry_at entries j ≡ window_start cut
  starts_by sound tied is =
      elim (cases_Bool (int_eq (entry_at entries j) (window_start cut))) [
        | inl e ↦ (Decides-int_eq (entry_at entries j) (window_start cut)).0 e
        | inr ne ↦ elim tied [
          | inl e ↦ e
          | inr (i, l, t) ↦
              let by = touched cut entries sound j i l t in
              let none : unwrap_or (touch cut entries j) Start ≡ Start = rw ne at is in
              let same : After by.0 by.1 ≡ Start = sym (ap (λ o. unwrap_or o Start) by.2) ∙ none in
              absurd (cc)
        ]
      ]

compressed : (cut : Cut) (plan : Plan) → remaining cut ≡ [] → IsChecked cut plan → IsCompressed cut plan
compressed cut plan none checked =
    let entries = entries_of plan in (
      entries,
      tied_is_least cut (window_floor cut) entries none checked.schedule
          (λ j l. tied_by cut entries j (tie_of cut entries j) refl (checked.starts j l)),
      checked.plan_of,
    )

checked : (cut : Cut) (plan : Plan) → IsSoundCut cut → IsCompressed cut plan → IsChecked cut plan
checked cut plan sound (entries, least, same) =
    let is : entries ≡ entries_of plan = sym (entries_are cut entries plan least.schedule.count same) in
    let by = subst (λ es. IsLeast cut es) is least in
    record {
      plan_of = subst (λ es. plan ≡ plan_of cut es) is same;
      schedule = by.schedule;
      starts = λ j l. starts_by cut (entries_of plan) j sound (least_is_tied cut (window_floor cut) (entries_of plan) sound by j l);
    }

pub checked_is_compressed : CheckedIsCompressed
checked_is_compressed cut plan sound none = (compressed cut plan none, checked cut plan sound)

-- With so many copies there is one least schedule, and so one filled occupancy.
use Rattle.std.proofs.Common.{◌≡◌, ℕ, ◌<◌, List, sym, ap, ◌∙◌, arith}
use Rattle.std.specs.Prelude.{ℤ, pos, ◌++◌}
use Rattle.std.proofs.lemmas.List.{ext_get_or}
use Rattle.rail_model.proofs.Numbers.{le_both_ways}
use Rattle.plan_model.specs.declared.cut.Cut.{Cut}
use Rattle.plan_model.specs.Members.{member_count}
use Rattle.plan_model.specs.Schedule.{entry_at}
use Rattle.plan_model.specs.Answer.{occupancy}
use Rattle.path_fill.specs.Filling.{IsLeastFilled, with_copies}
use Rattle.path_fill.specs.Laws.{FilledOccupancyIsUnique}

module _ (cut : Cut) (r count : ℕ) (entries copies other others : List ℤ)
    (one : IsLeastFilled cut r count entries copies) (two : IsLeastFilled cut r count other others) where
  same_entries : entries ≡ other
  same_entries =
      ext_get_or (pos 0) entries other (one.filled.schedule.count ∙ sym two.filled.schedule.count)
      (λ i l.
      let li : i < member_count cut = omega (arith, l, one.filled.schedule.count) in
      le_both_ways (entry_at entries i) (entry_at other i) (one.least other others two.many two.filled i li)
      (two.least entries copies one.many one.filled i li))

  same_copies : copies ≡ others
  same_copies =
      ext_get_or (pos 0) copies others (one.many ∙ sym two.many)
      (λ i l.
      let li : i < count = omega (arith, l, one.many) in
      le_both_ways (entry_at copies i) (entry_at others i) (one.least_copies other others two.many two.filled i li)
      (two.least_copies entries copies one.many one.filled i li))

pub filled_occupancy_is_unique : FilledOccupancyIsUnique
filled_occupancy_is_unique cut r count time last (entries, copies, one, is) (other, others, two, also) =
    let e = same_entries cut r count entries copies other others one two in
    let f = same_copies cut r count entries copies other others one two in
    is
    ∙ ap (λ es. occupancy (with_copies cut r count) (es ++ copies)) e
    ∙ ap (λ cs. occupancy (with_copies cut r count) (other ++ cs)) f
    ∙ sym also

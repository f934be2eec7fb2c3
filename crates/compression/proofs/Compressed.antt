-- What the laws of schedules say of a compressed timetable.
use Rattle.std.proofs.Common.{◌<◌, get_or, sym, ap, subst, ◌∙◌, arith}
use Rattle.std.specs.Prelude.{pos, ◌-ℤ◌, ◌≤ℤ◌, All}
use Rattle.std.proofs.lemmas.List.Elements.{All-map}
use Rattle.std.proofs.lemmas.List.FromFn.{length-range_with_len, get_or-range_with_len}
use Rattle.plan_model.specs.declared.cut.Cut.{Cut}
use Rattle.plan_model.specs.declared.answer.Placed.{Placed}
use Rattle.plan_model.specs.declared.answer.Plan.{Plan}
use Rattle.plan_model.specs.Members.{member_count, members}
use Rattle.plan_model.specs.Cut.{IsSoundCut}
use Rattle.plan_model.specs.Schedule.{entry_at}
use Rattle.plan_model.specs.Answer.{occupancy, IsClosingEntry, placed_at, entries_of, IsCompressed}
use Rattle.plan_model.proofs.Planned.{none_is_later}
use Rattle.plan_model.proofs.Closing.{occupancy_is_to_closing}
use Rattle.plan_model.proofs.Reaching.{occupancy_reaches_closing}
use Rattle.plan_model.proofs.Unique.{entries_are}
use Rattle.compression.specs.Promise.{HasNoneLater, ReachesToClosing, ReachesEachClosing}

pub none_later : (cut : Cut) (plan : Plan) → IsSoundCut cut → IsCompressed cut plan → HasNoneLater cut plan
none_later cut plan sound (entries, least, same) free keeps =
    let n = member_count cut in
    subst (λ (p : Plan). All (λ (q : Placed). q.entry ≤ℤ q.planned) p.placed) (sym same)
    (All-map (λ (q : Placed). q.entry ≤ℤ q.planned) (placed_at cut entries) (members cut)
    (λ k d l.
    let lk : k < n = omega (arith, l, length-range_with_len 0 n) in
    none_is_later cut entries sound free keeps least (get_or (members cut) k d)
    (omega (arith, lk, get_or-range_with_len 0 n k d lk))))

pub reaches_to_closing : (cut : Cut) (plan : Plan) → IsSoundCut cut → IsCompressed cut plan
    → ReachesToClosing cut plan
reaches_to_closing cut plan sound (entries, least, same) c entry opens closing =
    let e = entries_are cut entries plan least.schedule.count same in
    ap (λ (p : Plan). pos p.occupancy) same
    ∙ occupancy_is_to_closing cut entries c entry sound least.schedule opens
    (subst (λ es. IsClosingEntry cut es c entry) e closing)
    ∙ ap (λ es. entry -ℤ entry_at es c) (sym e)

pub reaches_each_closing : (cut : Cut) (plan : Plan) → IsCompressed cut plan → ReachesEachClosing cut plan
reaches_each_closing cut plan (entries, least, same) c entry closing =
    let e = entries_are cut entries plan least.schedule.count same in
    let at = occupancy_reaches_closing cut entries c entry (subst (λ es. IsClosingEntry cut es c entry) e closing) in
    subst (λ n. (entry -ℤ entry_at (entries_of plan) c) ≤ℤ pos n) (sym (ap (λ (p : Plan). p.occupancy) same))
    (subst (λ es. (entry -ℤ entry_at es c) ≤ℤ pos (occupancy cut entries)) (sym e) at)

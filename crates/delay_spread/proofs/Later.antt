-- How much later a train enters than its floor.
use Rattle.std.proofs.Common.{◌≡◌, ℕ, ◌<◌, ◌≤◌, List, length, inl, inr, arith}
use Rattle.std.specs.Prelude.{ℤ, pos, ◌+ℤ◌, ◌-ℤ◌, ◌≤ℤ◌, ◌^◌, All}
use Rattle.std.proofs.lemmas.Bool.{cases_lt}
use Rattle.std.proofs.lemmas.Int.{ints}
use Rattle.std.proofs.lemmas.List.{get_or_past, get_or-map}
use Rattle.plan_model.specs.declared.cut.CutRow.{CutRow}
use Rattle.plan_model.specs.declared.cut.Cut.{Cut}
use Rattle.plan_model.specs.Members.{member, member_count, no_member}
use Rattle.plan_model.specs.Cut.{IsBounded, IsMoment}
use Rattle.plan_model.specs.Schedule.{entry_at, IsScheduleFrom}
use Rattle.plan_model.specs.Planned.{planned_entries}
use Rattle.plan_model.proofs.Closing.{abs_is, not_negative}
use Rattle.delay_spread.specs.declared.spreading.TheConstants.{GREATEST_DELAY_S}
use Rattle.delay_spread.specs.Spreading.{delay_at, delayed_floor, later_by}
use Rattle.delay_spread.specs.Laws.{NoneIsKnockedOn, EntersByItsKnockOn}

-- by a delayed schedule it enters at its floor and so much later
pub later_is : (entry planned : ℤ) (delay : ℕ) → (planned +ℤ pos delay) ≤ℤ entry
    → pos (later_by planned delay entry) ≡ entry -ℤ (planned +ℤ pos delay)
later_is entry planned delay h = abs_is (entry -ℤ (planned +ℤ pos delay)) (not_negative (planned +ℤ pos delay) entry h)

pub small : (entry planned : ℤ) (delay : ℕ) → IsBounded entry → IsMoment planned → delay ≤ GREATEST_DELAY_S
    → (planned +ℤ pos delay) ≤ℤ entry → later_by planned delay entry ≤ 2 ^ 51
small entry planned delay bounded moment limit h =
    let is = later_is entry planned delay h in
    omega (arith, ints, is, bounded.before, moment.after)

pub enters_by_its_knock_on : EntersByItsKnockOn
enters_by_its_knock_on cut delays entries schedule i l =
    let is = later_is (entry_at entries i) (member cut i).entry (delay_at delays i) (schedule.from i l) in
    omega (arith, ints, is)

-- ---- no train is delayed

-- the planned entries, one by one
planned_at : (cut : Cut) (i : ℕ) → i < member_count cut → entry_at (planned_entries cut) i ≡ (member cut i).entry
planned_at cut i l = get_or-map (λ (r : CutRow). r.entry) cut.rows i no_member (pos 0) l

undelayed : (delays : List ℕ) → All (λ d. d ≡ 0) delays → (i : ℕ) → delay_at delays i ≡ 0
undelayed delays none i =
    elim (cases_lt i (length delays)) [
      | inl l ↦ none i 0 l
      | inr past ↦ get_or_past delays i 0 past
    ]

none_later : (entry planned : ℤ) (delay : ℕ) → delay ≡ 0 → (planned +ℤ pos delay) ≤ℤ entry → entry ≤ℤ planned
    → later_by planned delay entry ≡ 0
none_later entry planned delay none h l =
    let is = later_is entry planned delay h in
    omega (arith, ints, is, none, h, l)

pub none_is_knocked_on : NoneIsKnockedOn
none_is_knocked_on cut delays entries none planned least i l =
    let at = planned_at cut in
    let other : IsScheduleFrom cut (delayed_floor cut delays) (planned_entries cut) = record {
      count = planned.count;
      from = λ j lj. omega (arith, ints, at j lj, undelayed delays none j);
      order = planned.order;
    } in
    let early = least.least (planned_entries cut) other i l in
    none_later (entry_at entries i) (member cut i).entry (delay_at delays i) (undelayed delays none i)
    (least.schedule.from i l) (omega (arith, ints, early, at i l))

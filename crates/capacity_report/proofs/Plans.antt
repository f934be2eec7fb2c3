-- What the rows of a compressed timetable rest on, from what it is.
use Rattle.std.proofs.Common.{◌≡◌, ℕ, ◌<◌, List, length, refl, sym, subst, arith, length-append}
use Rattle.std.specs.Prelude.{ℤ, ◌==◌, not, Option, None, Some, All, IfSome, filter, option_and_then}
use Rattle.std.specs.List.{list_any, list_all}
use Rattle.std.specs.Ordering.{int_eq}
use Rattle.std.proofs.lemmas.Int.{ints}
use Rattle.std.proofs.lemmas.List.FromFn.{length-map-range_with_len, get_or-map-range_with_len}
use Rattle.rail_model.specs.Name.{is_before}
use Rattle.plan_model.specs.declared.cut.Cut.{Cut}
use Rattle.plan_model.specs.declared.answer.Tie.{Tie}
use Rattle.plan_model.specs.declared.answer.Tie.TheVariants.{Start, After}
use Rattle.plan_model.specs.declared.answer.Plan.{Plan}
use Rattle.plan_model.specs.declared.answer.Answer.TheVariants as answer
use Rattle.plan_model.specs.Members.{place_name, place_count, block_count, blocks, member, member_count, members, no_member, uses_place}
use Rattle.plan_model.specs.Cut.{IsSoundCut}
use Rattle.plan_model.specs.Schedule.{IsSchedule, end_by, tie_of}
use Rattle.plan_model.specs.Answer.{occupancy, busiest, critical, time_kept, used_blocks, users, last_member, last_end, placed_at, plan_of}
use Rattle.plan_model.proofs.MemberTests.{filter-has, in_range}
use Rattle.critical_chain.specs.Chain.{IsPlan}
use Rattle.critical_chain.proofs.Ties.{bound, found}
use Rattle.capacity_report.specs.Answers.{IsAnswerOfSome}
use Rattle.capacity_report.specs.Shown.{IsTieOf, IsTrainOf, IsShown}

module _ (cut : Cut) (entries : List ℤ) (sound : IsSoundCut cut) (schedule : IsSchedule cut entries) where
  count : length (plan_of cut entries).placed ≡ member_count cut
  count = length-map-range_with_len (placed_at cut entries) 0 (member_count cut)

  tie_there : (i : ℕ) (t : Tie) → tie_of cut entries i ≡ t → IsTieOf (plan_of cut entries) t
  tie_there i Start e = tt
  tie_there i (After j block) e =
      let b = bound cut entries j block i e in
      (omega (arith, b.member, count), b.place)

  train_there : (i : ℕ) → i < member_count cut → IsTrainOf (plan_of cut entries) (placed_at cut entries i)
  train_there i l = record {
    planned = omega (arith, ints, (sound.each i no_member l).from_window);
    entry = omega (arith, ints, schedule.from i l);
    tie = tie_there i (tie_of cut entries i) refl;
  }

  trains_there : All (IsTrainOf (plan_of cut entries)) (plan_of cut entries).placed
  trains_there i d l =
      let here : i < member_count cut = omega (arith, l, count) in
      subst (IsTrainOf (plan_of cut entries))
      (sym (get_or-map-range_with_len (placed_at cut entries) 0 (member_count cut) i i d here (omega arith)))
      (train_there i here)

  -- a used block, and a member that uses a block
  busiest_there : (o : Option ℕ) → busiest cut entries ≡ o → IfSome o (λ b. b < place_count cut)
  busiest_there None e = tt
  busiest_there (Some b) e =
      let some = filter (λ c. time_kept cut entries c == occupancy cut entries) (used_blocks cut) in
      let one = found (λ c. list_all (λ d. not (is_before (place_name cut d) (place_name cut c))) some) some b e in
      let used = filter-has (λ c. time_kept cut entries c == occupancy cut entries) (used_blocks cut) b one.0 in
      let block = filter-has (λ c. list_any (λ i. uses_place (member cut i) c) (members cut)) (blocks cut) b used.0 in
      omega (arith, in_range 0 (block_count cut) b block.0, length-append cut.section.blocks cut.connections)

  last_there : (block i : ℕ) → last_member cut entries block ≡ Some i → i < member_count cut
  last_there block i e =
      let one = found (λ j. int_eq (end_by cut entries j block) (last_end cut entries block)) (users cut block) i e in
      let user = filter-has (λ j. uses_place (member cut j) block) (members cut) i one.0 in
      omega (arith, in_range 0 (member_count cut) i user.0)

  critical_there : (o : Option ℕ) (b : Option ℕ) → option_and_then (last_member cut entries) b ≡ o → IfSome o (λ i. i < length (plan_of cut entries).placed)
  critical_there None b e = tt
  critical_there (Some i) None e = absurd (cc)
  critical_there (Some i) (Some b) e = omega (arith, last_there b i e, count)

  shown_by : IsShown (plan_of cut entries)
  shown_by = record {
    window = sound.window;
    trains = trains_there;
    busiest = busiest_there (busiest cut entries) refl;
    critical = critical_there (critical cut entries) (busiest cut entries) refl;
  }

-- a plan can be shown
pub shown : (plan : Plan) → IsPlan plan → IsShown plan
shown plan is = subst IsShown (sym is.1.2.2) (shown_by is.0 is.1.2.0 is.1.0 is.1.2.1.schedule)

-- the plan of an answer is one
pub plan_in : (plan : Plan) → IsAnswerOfSome (answer.Ordered plan) → IsPlan plan
plan_in plan a = (a.cut, (a.sound, a.is.2, a.is.3))

pub shown_in : (plan : Plan) → IsAnswerOfSome (answer.Ordered plan) → IsShown plan
shown_in plan a = shown plan (plan_in plan a)

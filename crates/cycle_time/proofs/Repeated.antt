-- Periods in which entries repeat: longer ones, and the occupancy time; and that a cut has one cycle but for its ring.
use Rattle.std.proofs.Common.{◌≡◌, ℕ, zero, suc, ◌<◌, ◌≤◌, sym, subst, ◌∙◌, arith}
use Rattle.std.specs.Prelude.{ℤ, pos, ◌+ℤ◌, ◌-ℤ◌, ◌≤ℤ◌, nat_abs}
use Rattle.std.proofs.lemmas.Int.{ints}
use Rattle.std.proofs.lemmas.List.{ext_get_or}
use Rattle.rail_model.proofs.Numbers.{le_both_ways}
use Rattle.plan_model.specs.declared.cut.Cut.{Cut}
use Rattle.plan_model.specs.Members.{member_count}
use Rattle.plan_model.specs.Schedule.{entry_at, start_by, end_by}
use Rattle.plan_model.specs.Answer.{users, used_blocks, first_start, last_end, time_kept, occupancy}
use Rattle.plan_model.proofs.Users.{is_user, is_used}
use Rattle.plan_model.proofs.Greatest.{above_each, below_each, longest_above}
use Rattle.cycle_time.specs.declared.found.Cycle.{Cycle}
use Rattle.cycle_time.specs.Cycle.{IsRepeating, IsShownOf, IsCycle}
use Rattle.cycle_time.specs.Laws.{LongerRepeats, ScheduleRepeats, PeriodIsWithinOccupancy, AreAlike, CyclesAreAlike}
use Rattle.cycle_time.proofs.Answered.{no_lesser}

-- ---- longer periods

pub longer_repeats : LongerRepeats
longer_repeats cut period longer entries l repeats = record {
  schedule = repeats.schedule;
  again = λ i j block li lj lb ui uj. omega (arith, ints, l, repeats.again i j block li lj lb ui uj);
}

-- ---- the occupancy time

-- what ends by the last end ends no longer after a start than the block is kept
within : (end last first start : ℤ) (most : ℕ) → end ≤ℤ last → first ≤ℤ start → nat_abs (last -ℤ first) ≤ most
    → end ≤ℤ (start +ℤ pos most)
within end last first start most p q l = grind (arith, ints)

pub schedule_repeats : ScheduleRepeats
schedule_repeats cut entries schedule = record {
  schedule = schedule;
  again = λ i j block li lj lb ui uj.
      within (end_by cut entries i block) (last_end cut entries block) (first_start cut entries block)
      (start_by cut entries j block) (occupancy cut entries)
      (above_each (λ k. end_by cut entries k block) (users cut block) i (is_user cut i block li ui))
      (below_each (λ k. start_by cut entries k block) (users cut block) j (is_user cut j block lj uj))
      (longest_above (time_kept cut entries) (used_blocks cut) block (is_used cut i block li lb ui));
}

pub period_is_within_occupancy : PeriodIsWithinOccupancy
period_is_within_occupancy cut cycle entries is schedule =
    no_lesser cut cycle is (occupancy cut entries) entries (schedule_repeats cut entries schedule)

-- ---- one period, and the same entries

module _ (cut : Cut) (cycle other : Cycle) where
  alike_of : (n : ℕ) → IsCycle cut cycle → IsCycle cut other → IsShownOf n cut cycle → IsShownOf n cut other
      → AreAlike cycle other
  alike_of zero p q still same = record {
    period = still.period ∙ sym same.period;
    entries = still.entries ∙ sym same.entries;
  }
  alike_of (suc more) p q shows same =
      let one : cycle.period ≡ other.period =
      omega (
        arith,
        no_lesser cut cycle p other.period other.entries same.repeats,
        no_lesser cut other q cycle.period cycle.entries shows.repeats,
      ) in
      record {
        period = one;
        entries = ext_get_or (pos 0) cycle.entries other.entries
            (shows.repeats.schedule.count ∙ sym same.repeats.schedule.count) (λ i l.
            let here : i < member_count cut = omega (arith, l, shows.repeats.schedule.count) in
            le_both_ways (entry_at cycle.entries i) (entry_at other.entries i)
            (p.least other.entries (subst (λ n. IsRepeating cut n other.entries) (sym one) same.repeats) i here)
            (q.least cycle.entries (subst (λ n. IsRepeating cut n cycle.entries) one shows.repeats) i here));
      }

pub cycles_are_alike : CyclesAreAlike
cycles_are_alike cut cycle other p q = alike_of cut cycle other (member_count cut) p q p.shown q.shown

-- Each number of copies fills a sound cut that has a least schedule.
use Rattle.std.proofs.Common.{◌≡◌, ℕ, zero, suc, ◌<◌, List, inl, inr, refl, sym, subst, arith}
use Rattle.std.specs.Prelude.{ℤ, pos, ◌+ℤ◌, ◌-ℤ◌, ◌≤ℤ◌, nat_abs, Bool}
use Rattle.std.proofs.lemmas.Int.{ints}
use Rattle.plan_model.specs.declared.cut.Cut.{Cut}
use Rattle.plan_model.specs.Members.{block_count, member, member_count, uses_place, use_at}
use Rattle.plan_model.specs.Cut.{IsSoundCut}
use Rattle.plan_model.specs.Schedule.{window_start, window_floor, start_at, end_by, IsLeast}
use Rattle.plan_model.specs.Answer.{occupancy}
use Rattle.plan_model.proofs.Closing.{abs_is}
use Rattle.compression.proofs.SomeLeast.{least_is_there}
use Rattle.path_fill.specs.Filling.{IsFilledOccupancy}
use Rattle.path_fill.specs.Laws.{FilledOccupancyIsThere}
use Rattle.path_fill.specs.Search.{where_used, greater, time_at, kept_to, filled_time, IsGreatest}
use Rattle.path_fill.proofs.Best.{none_yet, one_more}
use Rattle.path_fill.proofs.FirstCopy.{IsFirstCopy, starts_after, asked_by}
use Rattle.path_fill.proofs.Filled.{own_is, filled_is}

-- some places have a greatest number
some_greatest : (test : ℕ → Bool) (f : ℕ → ℤ) (from : ℤ) (n : ℕ) → (best : ℤ) × IsGreatest test f n from best
some_greatest test f from zero = (from, none_yet test f from)
some_greatest test f from (suc n) =
    let before = some_greatest test f from n in
    let best = greater before.0 (where_used (test n) (f n)) in (
      best,
      subst (λ m. IsGreatest test f m from best) (omega arith)
          (one_more test f from n before.0 (where_used (test n) (f n)) before.1 refl),
    )

-- the same, of numbers above 0
some_number : (test : ℕ → Bool) (f : ℕ → ℤ) (n : ℕ) → (best : ℕ) × IsGreatest test f n (pos 0) (pos best)
some_number test f n =
    let some = some_greatest test f (pos 0) n in
    (nat_abs some.0, subst (IsGreatest test f n (pos 0)) (sym (abs_is some.0 some.1.above)) some.1)

-- ---- the first copy

from_start : (until s e w y : ℤ) → until ≡ s -ℤ e +ℤ w → w ≤ℤ y → (until -ℤ (s -ℤ e)) ≤ℤ y
from_start until s e w y a b = omega (arith, ints, a, b)

module _ (cut : Cut) (r : ℕ) (entries : List ℤ) where
  -- until when members use a block, and no earlier than a copy that enters at the window's start comes there
  abbrev latest : (b : ℕ) → (best : ℤ) × IsGreatest (λ j. uses_place (member cut j) b) (λ j. end_by cut entries j b)
      (member_count cut) (start_at (member cut r) (window_start cut) b) best
  latest b =
      some_greatest (λ j. uses_place (member cut j) b) (λ j. end_by cut entries j b)
      (start_at (member cut r) (window_start cut) b) (member_count cut)

  -- when a copy can enter after these uses
  abbrev asks : ℕ → ℤ
  asks b = (latest b).0 -ℤ ((use_at (member cut r) b).start -ℤ (member cut r).entry)

  some_first : (entry : ℤ) × IsFirstCopy cut r entries entry
  some_first =
      let row = member cut r in
      let all = some_greatest (uses_place row) asks (window_start cut) (block_count cut) in (
        all.0,
        record {
          from = all.1.above;
          after_all = λ j b lj lb uj ur.
              starts_after (end_by cut entries j b) (latest b).0 (use_at row b).start row.entry all.0
              ((latest b).1.each j lj uj) (all.1.each b lb ur);
          least = λ other from after.
              elim all.1.reached [
                | inl e ↦ subst (λ x. x ≤ℤ other) (sym e) from
                | inr (b, lb, ur, e) ↦
                    let s = (use_at row b).start in
                    subst (λ x. x ≤ℤ other) (sym e)
                    (elim (latest b).1.reached [
                      | inl start ↦ from_start (latest b).0 s row.entry (window_start cut) other start from
                      | inr (j, lj, uj, last) ↦
                          asked_by (latest b).0 s row.entry other
                          (subst (λ x. x ≤ℤ start_at row other b) (sym last) (after j b lj lb uj ur))
                    ])
              ];
        },
      )

-- ---- the filled occupancies

-- the two numbers that tell the filled occupancy with each number of copies
pub record IsFilledBy (cut : Cut) (r alone first headway : ℕ) : Type 0 where
  pub filled : (count : ℕ) → IsFilledOccupancy cut r count (filled_time alone first headway count)

pub some_fill : (cut : Cut) → IsSoundCut cut → (r : ℕ) → r < member_count cut → (entries : List ℤ) → IsLeast cut entries
    → (first : ℕ) × (headway : ℕ) × IsFilledBy cut r (occupancy cut entries) first headway
some_fill cut sound r there entries least =
    let row = member cut r in
    let entry = some_first cut r entries in
    let kept = some_number (uses_place row) (kept_to cut r entries entry.0) (block_count cut) in
    let times = some_number (uses_place row) (time_at cut r) (block_count cut) in
    let own = own_is cut sound r there times.0 times.1 in (
      kept.0,
      times.0,
      record {
        filled = filled_is cut sound r there entries least entry.0 times.0 entry.1 own.0 kept.0 kept.1;
      },
    )

pub filled_occupancy_is_there : FilledOccupancyIsThere
filled_occupancy_is_there cut r count sound there none =
    let (entries, least) = least_is_there cut (window_floor cut) sound none in
    let (first, headway, all) = some_fill cut sound r there entries least in
    (filled_time (occupancy cut entries) first headway count, all.filled count)

-- Each sound cut whose trains have an order has a cycle. In a period the trains are raised one by one, until their entries
-- repeat or a ring refuses it; the first period that none refuses is that of the cycle.
use Rattle.std.proofs.Common.{◌≡◌, ℕ, zero, suc, ◌+◌, ◌*◌, ◌<◌, ◌≤◌, ◌==◌, List, [], ◌∷◌, ◌++◌, length, map, take, drop, reverse, get_or, inl, inr, refl, subst, arith}
use Rattle.std.specs.Prelude.{ℤ, pos, ◌+ℤ◌, ◌-ℤ◌, ◌*ℤ◌, ◌≤ℤ◌, ◌<ℤ◌, ◌⊎◌, nat_abs, slice_set, replicate, sum_by, All, Option, None, Some}
use Rattle.std.specs.List.{position_or_len}
use Rattle.std.proofs.lemmas.Bool.{cases_lt}
use Rattle.std.proofs.lemmas.Int.{ints}
use Rattle.std.proofs.lemmas.List.{take-append-drop, get_or-set_same, length-append}
use Rattle.std.proofs.lemmas.List.Elements.{All-nil, All-cons, All-weaker, All-replicate, All-set, All-get_or}
use Rattle.std.proofs.lemmas.List.Sorted.{IsPermutation-append_comm, IsPermutation-reverse}
use Rattle.std.specs.List.Sorted.{IsPermutation}
use Rattle.std.proofs.lemmas.List.Sums.{sum_by-set}
use Rattle.plan_model.specs.declared.cut.Cut.{Cut}
use Rattle.plan_model.specs.Members.{member_count}
use Rattle.plan_model.specs.Disorder.{remaining}
use Rattle.plan_model.specs.Cut.{IsSoundCut}
use Rattle.plan_model.specs.Schedule.{window_start, entry_at}
use Rattle.cycle_time.specs.declared.demand.Demand.{Demand}
use Rattle.cycle_time.specs.declared.found.Step.{Step}
use Rattle.cycle_time.specs.declared.least_period.LeastPeriod.{LeastPeriod}
use Rattle.cycle_time.specs.Demands.{asks}
use Rattle.cycle_time.specs.Cycle.{IsLeastRepeating}
use Rattle.cycle_time.specs.Raising.{cause_at, AreRaised, IsRaisedBy}
use Rattle.cycle_time.specs.Rings.{to_of, step_of, no_demand, AreCauses, IsBehind, IsTurned, weights, laps, IsLoop, IsLimit, IsLeastPeriod}
use Rattle.cycle_time.specs.Laws.{CycleIsThere}
use Rattle.cycle_time.proofs.Refused.{nat_times, mono}
use Rattle.cycle_time.proofs.Raised.{least, raised_more}
use Rattle.cycle_time.proofs.Behind.{IsTrail, no_trail, short, trail_more, ends_at, goes_round}
use Rattle.cycle_time.proofs.Trails.{light, weights_most, are_causes}
use Rattle.cycle_time.proofs.Settled.{start_raised, soon_again, round_asks}
use Rattle.cycle_time.proofs.Limits.{found_it}
use Rattle.cycle_time.proofs.Turned.{is_turned}
use Rattle.cycle_time.proofs.Answered.{still_is, found_is, ring_there}
use Rattle.cycle_time.proofs.SomeDemand.{AsksForMore, repeats_or}

-- ---- the trail behind a train

module _ (causes : List (Option Demand)) (are : AreCauses causes) (top : ℕ) (there : top < length causes) where
  -- it ends, or comes to a ring
  abbrev Behind : Type 0
  Behind = (o : Option (List Demand)) × IsBehind causes top o

  abbrev Follows : ℕ → Type 0
  Follows fuel =
      (trail : List Demand) (train : ℕ) → IsTrail causes top trail train → length causes < fuel + length trail → Behind

  further : (fuel : ℕ) → Follows fuel → (trail : List Demand) (train : ℕ) → IsTrail causes top trail train
      → length causes < suc fuel + length trail → (o : Option Demand) → cause_at causes train ≡ o → Behind
  further fuel follows trail train is l None c = (None, ends_at causes are top trail train is c)
  further fuel follows trail train is l (Some e) c =
      let at = position_or_len (λ t. t == train) (map to_of trail) in
      elim (cases_lt at (length trail)) [
        | inl lt ↦ (Some (drop at trail), goes_round causes are top trail train at there is refl lt)
        | inr past ↦
            follows (trail ++ e ∷ []) e.step.from (trail_more causes are top trail train e at is c refl past)
            (omega (arith, l, length-append trail (e ∷ [])))
      ]

  follow : (fuel : ℕ) → Follows fuel
  follow zero trail train is l = absurd (omega (arith, l, short causes are top trail train is))
  follow (suc fuel) trail train is l = further fuel (follow fuel) trail train is l (cause_at causes train) refl

  behind : Behind
  behind = follow (suc (length causes)) [] top (no_trail causes are top there) (omega arith)

-- ---- one period

-- a ring of demands that a period doesn't give enough
abbrev AsksFor : Cut → ℕ → List Demand → Type 0
AsksFor cut period ring = IsLoop cut ring × ((pos (laps ring) *ℤ pos period) <ℤ weights ring)

module _ (cut : Cut) (sound : IsSoundCut cut) (none : remaining cut ≡ []) (period : ℕ) where
  abbrev n : ℕ
  n = member_count cut

  -- no train is raised further, unless a ring is behind it
  abbrev most : ℤ
  most = window_start cut +ℤ pos (n * 200000000)

  -- how much later the trains could enter, in all
  abbrev room : List ℤ → ℕ
  room entries = sum_by (λ x. nat_abs (most +ℤ pos 200000000 -ℤ x)) entries

  -- what comes of the period
  abbrev Comes : Type 0
  Comes = ((entries : List ℤ) × IsLeastRepeating cut period entries) ⊎ ((ring : List Demand) × AsksFor cut period ring)

  -- entries that are raised further
  record Higher (entries : List ℤ) : Type 0 where
    after : List ℤ
    causes : List (Option Demand)
    raised : AreRaised cut period after causes
    near : All (λ x. x ≤ℤ most) after
    less : room after < room entries

  less_room : (x v from a : ℤ) → x <ℤ v → v ≡ from +ℤ a → a ≤ℤ pos 200000000 → from ≤ℤ most
      → nat_abs (most +ℤ pos 200000000 -ℤ v) < nat_abs (most +ℤ pos 200000000 -ℤ x)
  less_room x v from a l is small near = omega (arith, ints, l, is, small, near)

  after_raise : (entries after : List ℤ) (causes : List (Option Demand)) (top : ℕ) → AreRaised cut period after causes → top < n
      → (entry_at after top ≤ℤ most → All (λ x. x ≤ℤ most) after) → room after < room entries
      → (o : Option (List Demand)) → IsBehind causes top o → Comes ⊎ Higher entries
  after_raise entries after causes top raised there near less (Some ring) round =
      inl (inr (ring, round_asks cut sound none period after causes ring raised round))
  after_raise entries after causes top raised there near less None ends = inr (record {
    after = after;
    causes = causes;
    raised = raised;
    near = near (soon_again cut period after causes top raised there ends);
    less = less;
  })

  -- along a demand that isn't kept
  raise : (entries : List ℤ) (causes : List (Option Demand)) → AreRaised cut period entries causes
      → All (λ x. x ≤ℤ most) entries → AsksForMore cut period entries → Comes ⊎ Higher entries
  raise entries causes (trails, raised) near more =
      let e = more.demand in
      let t = e.step.to in
      let v = entry_at entries e.step.from +ℤ asks period e in
      let after = slice_set entries t v in
      let causes_after = slice_set causes t (Some e) in
      let by : IsRaisedBy period e entries causes after causes_after =
      record { later = more.later; entries = refl; causes = refl } in
      let again = raised_more cut period entries causes e more.is_demand after causes_after by (trails, raised) in
      let there : t < length entries = omega (arith, more.is_demand.is_step.other_there, raised.count) in
      let from = All-get_or (λ x. x ≤ℤ most) entries e.step.from (pos 0)
      (omega (arith, more.is_demand.is_step.one_there, raised.count)) near in
      let summed = sum_by-set (λ x. nat_abs (most +ℤ pos 200000000 -ℤ x)) entries t v (pos 0) there in
      let lower = less_room (entry_at entries t) v (entry_at entries e.step.from) (asks period e) more.later refl
      (light cut period e more.is_demand) from in
      let trail = behind causes_after (are_causes cut period after causes_after again.0 again.1) t
      (omega (arith, more.is_demand.is_step.other_there, again.1.causes_count)) in
      after_raise entries after causes_after t again more.is_demand.is_step.other_there
      (λ a. All-set (λ x. x ≤ℤ most) entries t v (subst (λ x. x ≤ℤ most) (get_or-set_same entries t v (pos 0) there) a) near)
      (omega (arith, summed, lower)) trail.0 trail.1

  settle : (fuel : ℕ) (entries : List ℤ) (causes : List (Option Demand)) → AreRaised cut period entries causes
      → All (λ x. x ≤ℤ most) entries → room entries < fuel → Comes
  settle zero entries causes raised near l = absurd (omega (arith, l))
  settle (suc fuel) entries causes raised near l =
      elim (repeats_or cut sound period entries raised.1.count (λ i l. (raised.1.each i l).from)) [
        | inl repeats ↦ inl (entries, record { repeats = repeats; least = least cut period entries causes raised })
        | inr more ↦ elim (raise entries causes raised near more) [
          | inl comes ↦ comes
          | inr higher ↦ settle fuel higher.after higher.causes higher.raised higher.near (omega (arith, l, higher.less))
        ]
      ]

  comes : Comes
  comes =
      let entries = replicate n (window_start cut) in
      let causes : List (Option Demand) = replicate n None in
      settle (suc (room entries)) entries causes (start_raised cut period entries causes refl refl)
      (All-replicate (λ x. x ≤ℤ most) n (window_start cut) (omega (arith, ints))) (omega arith)

-- ---- the least period

-- a ring refuses short periods alone
within : (cut : Cut) (period : ℕ) (ring : List Demand) → AsksFor cut period ring → period < member_count cut * 200000000
within cut period ring asks =
    let most = weights_most cut ring asks.0.each in
    let least = mono period 1 (laps ring) asks.0.some in
    let times = nat_times (laps ring) period in
    let turned : laps ring * period ≡ period * laps ring = omega arith in
    omega (arith, ints, asks.1, asks.0.few, most, least, times, turned)

module _ (cut : Cut) (sound : IsSoundCut cut) (none : remaining cut ≡ []) (some : 0 < member_count cut) where
  abbrev SomeLeastPeriod : Type 0
  SomeLeastPeriod = (found : LeastPeriod) × IsLeastPeriod cut found

  tried : (period : ℕ) (ring : List Demand) → (period ≡ 0) ⊎ IsLimit cut period ring
      → SomeLeastPeriod ⊎ ((ring : List Demand) × AsksFor cut period ring)
  tried period ring limit =
      elim (comes cut sound none period) [
        | inr refused ↦ inr refused
        | inl least ↦
            inl (record { period = period; entries = least.0; ring = ring }, found_it cut sound some period ring limit least.0 least.1)
      ]

  next_limit : (period : ℕ) (ring : List Demand) → AsksFor cut period ring → IsLimit cut (period + 1) ring
  next_limit period ring asks =
      let same : pos period ≡ pos (period + 1) -ℤ pos 1 = omega (arith, ints) in
      record { is_loop = asks.0; more = subst (λ t. (pos (laps ring) *ℤ t) <ℤ weights ring) same asks.1 }

  search : (fuel period : ℕ) (ring : List Demand) → (period ≡ 0) ⊎ IsLimit cut period ring
      → member_count cut * 200000000 ≤ fuel + period → SomeLeastPeriod
  search zero period ring limit l =
      elim (tried period ring limit) [
        | inl found ↦ found
        | inr refused ↦ absurd (omega (arith, l, within cut period refused.0 refused.1))
      ]
  search (suc fuel) period ring limit l =
      elim (tried period ring limit) [
        | inl found ↦ found
        | inr refused ↦ search fuel (period + 1) refused.0 (inr (next_limit period refused.0 refused.1)) (omega (arith, l))
      ]

  found : SomeLeastPeriod
  found = search (member_count cut * 200000000) 0 [] (inl refl) (omega arith)

-- ---- its ring

-- the demand of a ring that leads to the least train
record IsLeastTo (ring : List Demand) : Type 0 where
  at : ℕ
  there : at < length ring
  least : All (λ (e : Demand). (get_or ring at no_demand).step.to ≤ e.step.to) ring

least_of : (e : Demand) (ring : List Demand) → IsLeastTo (e ∷ ring)
least_of e [] = record {
  at = 0;
  there = omega arith;
  least = All-cons (λ (d : Demand). e.step.to ≤ d.step.to) e [] (omega arith) (All-nil (λ (d : Demand). e.step.to ≤ d.step.to));
}
least_of e (d ∷ ring) =
    let rest = least_of d ring in
    let to = (get_or (d ∷ ring) rest.at no_demand).step.to in
    elim (cases_lt e.step.to to) [
      | inl l ↦ record {
        at = 0;
        there = omega arith;
        least = All-cons (λ (c : Demand). e.step.to ≤ c.step.to) e (d ∷ ring) (omega arith)
            (All-weaker (λ (c : Demand). to ≤ c.step.to) (λ (c : Demand). e.step.to ≤ c.step.to) (λ c h. omega (arith, h, l)) (d ∷ ring) rest.least);
      }
      | inr le ↦ record {
        at = suc rest.at;
        there = omega (arith, rest.there);
        least = All-cons (λ (c : Demand). to ≤ c.step.to) e (d ∷ ring) le rest.least;
      }
    ]

turned_of : (ring : List Demand) → 0 < length ring → (steps : List Step) × IsTurned ring steps
turned_of [] some = absurd (omega (arith, some))
turned_of (e ∷ demands) some =
    let ring = e ∷ demands in
    let first = least_of e demands in
    let turned = drop first.at ring ++ take first.at ring in (
      map step_of (reverse turned),
      is_turned ring turned (reverse turned) (map step_of (reverse turned)) first.at first.there first.least refl
          (subst (λ es. IsPermutation es turned) (take-append-drop first.at ring)
          (IsPermutation-append_comm (take first.at ring) (drop first.at ring)))
          refl (IsPermutation-reverse turned) refl,
    )

pub cycle_is_there : CycleIsThere
cycle_is_there cut sound not_opposite none =
    elim (cases_lt 0 (member_count cut)) [
      | inl some ↦
          let (it, is) = found cut sound none some in
          let (steps, turned) = turned_of it.ring (ring_there cut it is) in (
            record { period = it.period; entries = it.entries; ring = steps },
            record { not_opposite = not_opposite; none_remains = none; is_cycle = found_is cut some it is steps turned },
          )
      | inr z ↦ (
        record { period = 0; entries = []; ring = [] },
        record {
          not_opposite = not_opposite;
          none_remains = none;
          is_cycle = still_is cut (record { period = 0; entries = []; ring = [] }) (omega (arith, z))
              (record { period = refl; entries = refl; ring = refl });
        },
      )
    ]

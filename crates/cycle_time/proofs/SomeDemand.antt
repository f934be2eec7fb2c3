-- Entries repeat in a period, or there is a demand that they don't keep.
use Rattle.std.proofs.Common.{◌≡◌, ℕ, zero, suc, ◌<◌, true, false, List, length, inl, inr, refl, sym, subst, arith}
use Rattle.std.specs.Prelude.{ℤ, pos, ◌+ℤ◌, ◌-ℤ◌, ◌≤ℤ◌, ◌<ℤ◌, ◌⊎◌, Bool, IsTrue}
use Rattle.std.proofs.lemmas.Bool.{cases_Bool, cases_eq, both_ways}
use Rattle.std.proofs.lemmas.Int.{ints, by_lt_z}
use Rattle.plan_model.specs.declared.cut.Cut.{Cut}
use Rattle.plan_model.specs.Members.{block_count, place_count, member, member_count, uses_place, use_at, precedes}
use Rattle.plan_model.specs.Cut.{IsSoundCut, IsMoment}
use Rattle.plan_model.specs.Schedule.{window_start, entry_at, start_by, end_by}
use Rattle.plan_model.proofs.Sound.{usable, use_sound}
use Rattle.plan_model.proofs.Uses.{place_there}
use Rattle.train_order.proofs.Users.{users}
use Rattle.cycle_time.specs.declared.demand.Demand.{Demand}
use Rattle.cycle_time.specs.Cycle.{IsStep, IsRepeating}
use Rattle.cycle_time.specs.Demands.{step_on, demand_on, IsLight, IsDemand, asks}

-- each of the first numbers has a property, or something else holds
each_or : (P : ℕ → Type 0) (Other : Type 0) (n : ℕ) → ((k : ℕ) → k < n → P k ⊎ Other) → ((k : ℕ) → k < n → P k) ⊎ Other
each_or P Other zero test = inl (λ k l. absurd (omega (arith, l)))
each_or P Other (suc n) test =
    elim (test n (omega arith)) [
      | inr other ↦ inr other
      | inl last ↦ elim (each_or P Other n (λ k l. test k (omega (arith, l)))) [
        | inr other ↦ inr other
        | inl before ↦ inl (λ k l.
            elim (cases_eq k n) [ inl e ↦ subst P (sym e) last | inr ne ↦ before k (omega (arith, l, ne)) ])
      ]
    ]

light : (end entry start other : ℤ) → IsMoment end → IsMoment entry → IsMoment start → IsMoment other
    → IsLight ((end -ℤ entry) -ℤ (start -ℤ other))
light end entry start other e i s o = record {
  above = omega (arith, ints, e.after, i.before, s.before, o.after);
  below = omega (arith, ints, e.before, i.after, s.after, o.before);
}

same_later : (e s ei ej x y : ℤ) → (s -ℤ ej +ℤ y) <ℤ (e -ℤ ei +ℤ x) → y <ℤ (x +ℤ ((e -ℤ ei) -ℤ (s -ℤ ej)))
same_later e s ei ej x y h = omega (arith, ints, h)

next_later : (e s ei ej x y t : ℤ) → (s -ℤ ej +ℤ y +ℤ t) <ℤ (e -ℤ ei +ℤ x) → y <ℤ (x +ℤ ((e -ℤ ei) -ℤ (s -ℤ ej) -ℤ t))
next_later e s ei ej x y t h = omega (arith, ints, h)

-- a demand of a cut by which a train must enter later
pub record AsksForMore (cut : Cut) (period : ℕ) (entries : List ℤ) : Type 0 where
  pub demand : Demand
  pub is_demand : IsDemand cut demand
  pub later : entry_at entries demand.step.to <ℤ (entry_at entries demand.step.from +ℤ asks period demand)

module _ (cut : Cut) (sound : IsSoundCut cut) (period : ℕ) (entries : List ℤ) where
  abbrev n : ℕ
  n = member_count cut

  abbrev More : Type 0
  More = AsksForMore cut period entries

  demand_is : (i j place : ℕ) (next : Bool) → IsTrue (uses_place (member cut i) place) → IsTrue (uses_place (member cut j) place)
      → IsStep cut (step_on i j place next) → IsDemand cut (demand_on cut i j place next)
  demand_is i j place next ui uj step = record {
    is_step = step;
    weight_is = refl;
    light = light (use_at (member cut i) place).«end» (member cut i).entry (use_at (member cut j) place).start (member cut j).entry
        (use_sound cut sound i step.one_there place ui).ends (usable cut sound i step.one_there).entry
        (use_sound cut sound j step.other_there place uj).starts (usable cut sound j step.other_there).entry;
  }

  abbrev InOrder : ℕ → ℕ → ℕ → Type 0
  InOrder i j place =
      IsTrue (precedes (member cut i) (member cut j) place) → end_by cut entries i place ≤ℤ start_by cut entries j place

  abbrev Again : ℕ → ℕ → ℕ → Type 0
  Again i j block =
      IsTrue (uses_place (member cut i) block) → IsTrue (uses_place (member cut j) block)
      → end_by cut entries i block ≤ℤ (start_by cut entries j block +ℤ pos period)

  order_or : (i j place : ℕ) → i < n → j < n → InOrder i j place ⊎ More
  order_or i j place li lj =
      elim (cases_Bool (precedes (member cut i) (member cut j) place)) [
        | inr fails ↦ inl (λ h. absurd (both_ways _ fails h))
        | inl h ↦ by_lt_z (start_by cut entries j place) (end_by cut entries i place)
            (λ lt. inr (record {
              demand = demand_on cut i j place false;
              is_demand = let used = users cut i j place h in demand_is i j place false used.0 used.1
                  (record { one_there = li; other_there = lj; same = λ e. h; next = λ e. absurd (both_ways _ refl e) });
              later = same_later (use_at (member cut i) place).«end» (use_at (member cut j) place).start (member cut i).entry
                  (member cut j).entry (entry_at entries i) (entry_at entries j) lt;
            }))
            (λ le. inl (λ h. le))
      ]

  again_or : (i j block : ℕ) → i < n → j < n → block < block_count cut → Again i j block ⊎ More
  again_or i j block li lj lb =
      elim (cases_Bool (uses_place (member cut i) block)) [
        | inr fails ↦ inl (λ ui uj. absurd (both_ways _ fails ui))
        | inl ui ↦ elim (cases_Bool (uses_place (member cut j) block)) [
          | inr fails ↦ inl (λ ui uj. absurd (both_ways _ fails uj))
          | inl uj ↦ by_lt_z (start_by cut entries j block +ℤ pos period) (end_by cut entries i block)
              (λ lt. inr (record {
                demand = demand_on cut i j block true;
                is_demand = demand_is i j block true ui uj (record {
                  one_there = li;
                  other_there = lj;
                  same = λ e. absurd (both_ways _ e refl);
                  next = λ e. record { block_there = lb; one = ui; other = uj };
                });
                later = next_later (use_at (member cut i) block).«end» (use_at (member cut j) block).start (member cut i).entry
                    (member cut j).entry (entry_at entries i) (entry_at entries j) (pos period) lt;
              }))
              (λ le. inl (λ ui uj. le))
        ]
      ]

  -- what each two members have at each of the first places, or there is such a demand
  all_or : (P : ℕ → ℕ → ℕ → Type 0) (m : ℕ)
      → ((i j place : ℕ) → i < n → j < n → place < m → P i j place ⊎ More)
      → ((i : ℕ) → i < n → (j : ℕ) → j < n → (place : ℕ) → place < m → P i j place) ⊎ More
  all_or P m test =
      each_or (λ i. (j : ℕ) → j < n → (place : ℕ) → place < m → P i j place) More n (λ i li.
      each_or (λ j. (place : ℕ) → place < m → P i j place) More n (λ j lj.
      each_or (P i j) More m (λ place l. test i j place li lj l)))

  pub repeats_or : length entries ≡ n → ((i : ℕ) → i < n → window_start cut ≤ℤ entry_at entries i)
      → IsRepeating cut period entries ⊎ More
  repeats_or count from =
      elim (all_or InOrder (place_count cut) (λ i j place li lj l. order_or i j place li lj)) [
        | inr more ↦ inr more
        | inl order ↦ elim (all_or Again (block_count cut) again_or) [
          | inr more ↦ inr more
          | inl again ↦ inl (record {
            schedule = record {
              count = count;
              from = from;
              order = λ i j place li lj h. order i li j lj place (place_there cut sound i place li (users cut i j place h).0) h;
            };
            again = λ i j block li lj lb ui uj. again i li j lj block lb ui uj;
          })
        ]
      ]

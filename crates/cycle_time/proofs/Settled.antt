-- What becomes of a period: the entries repeat in it, or a ring refuses it.
use Rattle.std.proofs.Common.{◌≡◌, ℕ, ◌+◌, ◌*◌, ◌<◌, ◌≤◌, ◌==◌, true, false, List, [], ◌∷◌, length, map, inl, inr, refl, sym, ap, subst, ◌∙◌, arith}
use Rattle.std.specs.Prelude.{ℤ, pos, ◌+ℤ◌, ◌*ℤ◌, ◌≤ℤ◌, ◌<ℤ◌, ◌⊎◌, cond, replicate, ◌||◌, All, Option, None}
use Rattle.std.proofs.lemmas.Bool.{cases_Bool, cases_lt, or_cases, or_left, or_right, eqb-true, eq-eqb, both_ways}
use Rattle.std.proofs.lemmas.Int.{ints}
use Rattle.std.proofs.lemmas.List.{length-replicate, length-map}
use Rattle.std.proofs.lemmas.List.Elements.{All-replicate, All-get_or, All-head, All-tail, All-nil, All-cons, All-map}
use Rattle.std.proofs.lemmas.List.Sums.{sum_by-cons}
use Rattle.plan_model.specs.declared.cut.Cut.{Cut}
use Rattle.plan_model.specs.declared.limits.TheConstants.{MEMBERS}
use Rattle.plan_model.specs.Members.{is_among, member_count, precedes_somewhere}
use Rattle.plan_model.specs.Disorder.{remaining, IsPrecededAmong}
use Rattle.plan_model.specs.Cut.{IsSoundCut}
use Rattle.plan_model.specs.Schedule.{window_start, entry_at}
use Rattle.plan_model.proofs.Uses.{place_there}
use Rattle.plan_model.proofs.Preceded.{preceded_remain}
use Rattle.train_order.proofs.Whole.{whole_length}
use Rattle.train_order.proofs.Users.{users, somewhere}
use Rattle.cycle_time.specs.declared.demand.Demand.{Demand}
use Rattle.cycle_time.specs.Cycle.{IsLeastRepeating}
use Rattle.cycle_time.specs.Demands.{IsDemand, Keeps, AreEnough}
use Rattle.cycle_time.specs.Raising.{cause_at, Back, asked, IsRaised, AreRaised, IsEarly, AreEarly, IsSettled, IsHigher}
use Rattle.cycle_time.specs.Rings.{to_of, EndsAt, GoesRound, weights, laps, IsLoop, IsRefusal}
use Rattle.cycle_time.proofs.Raised.{least}
use Rattle.cycle_time.proofs.Trails.{asked_is, soon, round, demands_of, back_of}

-- ---- at the start

module _ (cut : Cut) (period : ℕ) (entries : List ℤ) (causes : List (Option Demand))
    (start : entries ≡ replicate (member_count cut) (window_start cut)) (none : causes ≡ replicate (member_count cut) None) where
  at_start : (i : ℕ) → i < member_count cut → entry_at entries i ≡ window_start cut
  at_start i l =
      ap (λ xs. entry_at xs i) start
      ∙ All-get_or (λ x. x ≡ window_start cut) (replicate (member_count cut) (window_start cut)) i (pos 0)
      (omega (arith, l, length-replicate (member_count cut) (window_start cut)))
      (All-replicate (λ x. x ≡ window_start cut) (member_count cut) (window_start cut) refl)

  no_cause : (i : ℕ) → i < member_count cut → cause_at causes i ≡ None
  no_cause i l =
      let nothing : Option Demand = None in
      ap (λ cs. cause_at cs i) none
      ∙ All-get_or (λ (o : Option Demand). o ≡ None) (replicate (member_count cut) nothing) i None
      (omega (arith, l, length-replicate (member_count cut) nothing))
      (All-replicate (λ (o : Option Demand). o ≡ None) (member_count cut) nothing refl)

  pub start_raised : AreRaised cut period entries causes
  start_raised = (
    λ i. [],
    record {
      count = ap length start ∙ length-replicate (member_count cut) (window_start cut);
      causes_count = ap length none ∙ length-replicate (member_count cut) None;
      each = λ i l. let e = at_start i l in rw (no_cause i l) (record {
        each = All-nil (IsDemand cut);
        leads = (i, refl);
        entry = omega (arith, ints, e);
        from = omega (arith, ints, e);
        begins = refl;
      });
    },
  )

  pub start_early : IsSoundCut cut → AreEarly entries
  start_early sound =
      let w = sound.window_start in
      subst AreEarly (sym start)
      (All-replicate IsEarly (member_count cut) (window_start cut) (record {
        after = omega (arith, ints);
        before = omega (arith, ints, w);
      }))

-- ---- entries that keep all demands

module _ (cut : Cut) (sound : IsSoundCut cut) (demands : List Demand) (enough : AreEnough cut demands) (period : ℕ) where
  pub repeats_at : (entries after : List ℤ) (causes : List (Option Demand)) → AreRaised cut period after causes
      → IsSettled period demands entries after → IsLeastRepeating cut period after
  repeats_at entries after causes raised settled =
      let keep = subst (λ xs. All (Keeps period xs) demands) (sym settled.same) settled.keep in
      record {
        repeats = record {
          schedule = record {
            count = raised.1.count;
            from = λ i l. (raised.1.each i l).from;
            order = λ i j place li lj h.
                let used = users cut i j place h in
                (enough.enough period after keep place (place_there cut sound i place li used.0)).order i j li lj h;
          };
          again = λ i j block li lj lb ui uj.
              (enough.enough period after keep block (place_there cut sound i block li ui)).again lb i j li lj ui uj;
        };
        least = least cut period after causes raised;
      }

-- ---- a trail that ends

-- a train behind which a trail ends enters soon after the window's start
pub soon_again : (cut : Cut) (period : ℕ) (entries : List ℤ) (causes : List (Option Demand)) (top : ℕ)
    → AreRaised cut period entries causes → top < member_count cut → EndsAt causes top
    → entry_at entries top ≤ℤ (window_start cut +ℤ pos (member_count cut * 200000000))
soon_again cut period entries causes top (trails, raised) l ends =
    let lr : ends.root < member_count cut = omega (arith, ends.there, raised.causes_count) in
    let reach = soon cut period entries causes trails raised top ends.trail ends.root l ends.leads in
    let its = subst (λ o. IsRaised cut period entries trails o ends.root (trails ends.root)) ends.never (raised.each ends.root lr) in
    let root = its.entry ∙ ap (λ t. window_start cut +ℤ asked period t) its.begins in
    omega (arith, ints, reach, root, ends.short, raised.causes_count)

pub early_again : (cut : Cut) → IsSoundCut cut → member_count cut ≤ MEMBERS → (period : ℕ) (before after : List ℤ)
    (causes : List (Option Demand)) (top : ℕ) → AreRaised cut period after causes → IsHigher before after top → EndsAt causes top
    → AreEarly after
early_again cut sound few period before after causes top raised higher ends =
    elim higher.early [
      | inl early ↦ early
      | inr past ↦
          let reach = soon_again cut period after causes top raised (omega (arith, higher.there, raised.1.count)) ends in
          let w = sound.window_start in
          absurd (omega (arith, ints, past, reach, w, few))
    ]

-- ---- a ring

laps_none : (ring : List Demand) → laps ring ≡ 0 → All (λ (e : Demand). e.step.next ≡ false) ring
laps_none [] h = All-nil (λ (e : Demand). e.step.next ≡ false)
laps_none (e ∷ ring) h =
    let counted : laps (e ∷ ring) ≡ cond e.step.next 1 0 + laps ring = sum_by-cons (λ (d : Demand). cond d.step.next 1 0) e ring in
    elim (cases_Bool e.step.next) [
      | inl q ↦ absurd (omega (arith, h, counted ∙ ap (λ b. cond b 1 0 + laps ring) q))
      | inr q ↦
          All-cons (λ (e : Demand). e.step.next ≡ false) e ring q
          (laps_none ring (omega (arith, h, counted ∙ ap (λ b. cond b 1 0 + laps ring) q)))
    ]

-- the demand that leads to a train of a ring, and where it comes from
record IsFound (cut : Cut) (demands : List Demand) (j last : ℕ) : Type 0 where
  demand : Demand
  is_demand : IsDemand cut demand
  same : demand.step.next ≡ false
  leads : demand.step.to ≡ j
  from : (demand.step.from ≡ last) ⊎ (is_among (map to_of demands) demand.step.from ≡ true)

found : (cut : Cut) (i : ℕ) (demands : List Demand) (last j : ℕ) → All (IsDemand cut) demands
    → All (λ (e : Demand). e.step.next ≡ false) demands → Back i demands last → is_among (map to_of demands) j ≡ true
    → IsFound cut demands j last
found cut i [] last j all none back h = absurd (cc)
found cut i (e ∷ demands) last j all none back h =
    elim (or_cases (e.step.to == j) (is_among (map to_of demands) j) h) [
      | inl q ↦ record {
        demand = e;
        is_demand = All-head (IsDemand cut) e demands all;
        same = All-head (λ (e : Demand). e.step.next ≡ false) e demands none;
        leads = eqb-true e.step.to j q;
        from = first demands back.1;
      }
      | inr q ↦
          let rest = found cut e.step.from demands last j (All-tail (IsDemand cut) e demands all)
          (All-tail (λ (e : Demand). e.step.next ≡ false) e demands none) back.1 q in
          record {
            demand = rest.demand;
            is_demand = rest.is_demand;
            same = rest.same;
            leads = rest.leads;
            from = elim rest.from [
              | inl s ↦ inl s
              | inr s ↦ inr (or_right (e.step.to == rest.demand.step.from) (is_among (map to_of demands) rest.demand.step.from) s)
            ];
          }
    ]
  where
    first : (more : List Demand) → Back e.step.from more last
        → (e.step.from ≡ last) ⊎ ((e.step.to == e.step.from || is_among (map to_of more) e.step.from) ≡ true)
    first [] b = inl b
    first (d ∷ more) b =
        inr (or_right (e.step.to == e.step.from) _
        (or_left (d.step.to == e.step.from) (is_among (map to_of more) e.step.from) (eq-eqb d.step.to e.step.from b.0)))

module _ (cut : Cut) (sound : IsSoundCut cut) (none : remaining cut ≡ []) where
  -- a ring leads to the next pattern: else each of its trains is preceded by one of them
  some_lap : (at : ℕ) (ring : List Demand) → 0 < length ring → All (IsDemand cut) ring → Back at ring at → 0 < laps ring
  some_lap at [] some all back = absurd (omega (arith, some))
  some_lap at (e ∷ ring) some all back =
      elim (cases_lt 0 (laps (e ∷ ring))) [
        | inl l ↦ l
        | inr z ↦
            let trains = map to_of (e ∷ ring) in
            let here : is_among trains at ≡ true = or_left (e.step.to == at) (is_among (map to_of ring) at) (eq-eqb e.step.to at back.0) in
            let each : (j : ℕ) → is_among trains j ≡ true → IsPrecededAmong cut trains j = λ j h.
            let f = found cut at (e ∷ ring) at j all (laps_none (e ∷ ring) (omega (arith, z))) back h in
            let step = f.is_demand.is_step in
            record {
              there = omega (arith, step.other_there, f.leads);
              member = f.demand.step.from;
              among = elim f.from [ inl s ↦ subst (λ k. is_among trains k ≡ true) (sym s) here | inr s ↦ s ];
              precedes = subst (λ k. precedes_somewhere cut f.demand.step.from k ≡ true) f.leads
                  (let p = step.same f.same in
                  let on = place_there cut sound f.demand.step.from f.demand.step.block step.one_there (users cut f.demand.step.from f.demand.step.to f.demand.step.block p).0 in
                  somewhere cut f.demand.step.from f.demand.step.to f.demand.step.block on p);
            } in
            let left = preceded_remain cut trains each at here in
            absurd (both_ways _ (ap (λ xs. is_among xs at) none) left)
      ]

  -- a ring of causes asks for more than its patterns take in the period
  pub round_asks : (period : ℕ) (entries : List ℤ) (causes : List (Option Demand)) (ring : List Demand)
      → AreRaised cut period entries causes → GoesRound causes ring
      → IsLoop cut ring × ((pos (laps ring) *ℤ pos period) <ℤ weights ring)
  round_asks period entries causes ring (trails, raised) round_it =
      let l : round_it.at < member_count cut = omega (arith, round_it.there, raised.causes_count) in
      let demands = demands_of cut period entries causes trails raised round_it.at ring round_it.at l round_it.leads in
      let back = back_of cut period entries causes trails raised round_it.at ring round_it.at l round_it.leads in
      let more = round cut period entries causes trails raised round_it.at ring l round_it.some round_it.leads in
      let sum = asked_is period ring in
      let there : All (λ k. k < member_count cut) (map to_of ring) =
      All-map (λ k. k < member_count cut) to_of ring (λ k d lk. (demands k d lk).is_step.other_there) in
      let whole = whole_length (member_count cut) (map to_of ring) there round_it.once in (
        record {
          each = demands;
          at = round_it.at;
          leads = back;
          once = round_it.once;
          some = some_lap round_it.at ring round_it.some demands back;
          few = omega (arith, whole, length-map ring to_of);
        },
        omega (arith, ints, more, sum),
      )

  pub refused : member_count cut ≤ MEMBERS → (period : ℕ) (entries : List ℤ) (causes : List (Option Demand)) (ring : List Demand)
      → AreRaised cut period entries causes → GoesRound causes ring → IsRefusal cut period ring
  refused few period entries causes ring raised round_it =
      let (is, more) = round_asks period entries causes ring raised round_it in
      record { is_loop = is; few = omega (arith, few, is.few); more = more }

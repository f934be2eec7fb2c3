-- Trails back by causes: how early a train enters behind them, and what a ring asks for.
use Rattle.std.proofs.Common.{◌≡◌, ℕ, ◌+◌, ◌*◌, ◌<◌, ◌≤◌, Bool, true, false, List, [], ◌∷◌, length, inl, inr, refl, ap, subst, ◌∙◌, arith}
use Rattle.std.specs.Prelude.{ℤ, pos, ◌+ℤ◌, ◌-ℤ◌, ◌*ℤ◌, ◌≤ℤ◌, ◌<ℤ◌, ◌⊎◌, if◌then◌else◌, cond, All, Option, None, Some, IfSome}
use Rattle.std.proofs.lemmas.Int.{ints}
use Rattle.std.proofs.lemmas.List.Elements.{All-cons, All-head, All-nil, All-tail}
use Rattle.std.proofs.lemmas.List.Sums.{sum_by-cons}
use Rattle.plan_model.specs.declared.cut.Cut.{Cut}
use Rattle.plan_model.specs.Members.{member_count}
use Rattle.plan_model.specs.Schedule.{entry_at}
use Rattle.cycle_time.specs.declared.demand.Demand.{Demand}
use Rattle.cycle_time.specs.Demands.{IsDemand, asks}
use Rattle.cycle_time.specs.Raising.{cause_at, Back, asked, IsRaised, AreRaisedAlong}
use Rattle.cycle_time.specs.Rings.{IsCauseOf, AreCauses, Trails, weights, laps}
use Rattle.cycle_time.proofs.Refused.{nat_times, times}

pub asked_is : (period : ℕ) (trail : List Demand)
    → (asked period trail +ℤ (pos (laps trail) *ℤ pos period)) ≡ weights trail
asked_is period [] = omega (arith, ints)
asked_is period (e ∷ trail) =
    let rest = asked_is period trail in
    let counted : laps (e ∷ trail) ≡ cond e.step.next 1 0 + laps trail = sum_by-cons (λ (d : Demand). cond d.step.next 1 0) e trail in
    go e.step.next refl counted rest
  where
    go : (b : Bool) → e.step.next ≡ b → laps (e ∷ trail) ≡ cond e.step.next 1 0 + laps trail
        → (asked period trail +ℤ (pos (laps trail) *ℤ pos period)) ≡ weights trail
        → (asks period e +ℤ asked period trail +ℤ (pos (laps (e ∷ trail)) *ℤ pos period)) ≡ (e.weight +ℤ weights trail)
    go true q counted rest =
        let one : laps (e ∷ trail) ≡ 1 + laps trail = counted ∙ ap (λ b. cond b 1 0 + laps trail) q in
        let takes = times (laps (e ∷ trail)) (laps trail) period one in
        let here : asks period e ≡ e.weight -ℤ pos period = ap (λ b. if b then e.weight -ℤ pos period else e.weight) q in
        omega (arith, ints, here, rest, takes)
    go false q counted rest =
        let none : laps (e ∷ trail) ≡ laps trail = omega (arith, counted ∙ ap (λ b. cond b 1 0 + laps trail) q) in
        let same : pos (laps (e ∷ trail)) *ℤ pos period ≡ pos (laps trail) *ℤ pos period = ap (λ m. pos m *ℤ pos period) none in
        let here : asks period e ≡ e.weight = ap (λ b. if b then e.weight -ℤ pos period else e.weight) q in
        omega (arith, ints, here, rest, same)

-- a demand asks for little
pub light : (cut : Cut) (period : ℕ) (e : Demand) → IsDemand cut e → asks period e ≤ℤ pos 200000000
light cut period e is =
    let most = is.light.below in grind (arith, ints)

pub weights_most : (cut : Cut) (ring : List Demand) → All (IsDemand cut) ring → weights ring ≤ℤ pos (length ring * 200000000)
weights_most cut [] all = omega (arith, ints)
weights_most cut (e ∷ ring) all =
    let most = (All-head (IsDemand cut) e ring all).light.below in
    let rest = weights_most cut ring (All-tail (IsDemand cut) e ring all) in
    omega (arith, ints, most, rest)

module _ (cut : Cut) (period : ℕ) (entries : List ℤ) (causes : List (Option Demand)) (trails : ℕ → List Demand)
    (raised : AreRaisedAlong cut period entries causes trails) where
  -- the cause of a train is a demand that leads to it, from a train that was raised before it or asks for more now
  pub record IsCause (i : ℕ) (e : Demand) : Type 0 where
    pub is_demand : IsDemand cut e
    pub leads : e.step.to ≡ i
    pub rises : (length (trails i) ≡ 1 + length (trails e.step.from)) × (entry_at entries i ≡ (entry_at entries e.step.from +ℤ asks period e))
        ⊎ (entry_at entries i <ℤ (entry_at entries e.step.from +ℤ asks period e))

  pub cause : (i : ℕ) (e : Demand) → i < member_count cut → cause_at causes i ≡ Some e → IsCause i e
  cause i e l is =
      let its = subst (λ o. IsRaised cut period entries trails o i (trails i)) is (raised.each i l) in
      let (behind, begins, had) = its.begins in
      let now = subst (IsRaised cut period entries trails (Some e) i) begins its in
      let demand = All-head (IsDemand cut) e behind now.each in
      let before = (raised.each e.step.from demand.is_step.one_there).entry in record {
        is_demand = demand;
        leads = now.leads.1.0;
        rises = elim had [
          | inl same ↦ inl (omega (arith, ap length begins, ap length same), omega (arith, ints, now.entry, before, ap (asked period) same))
          | inr less ↦ inr (omega (arith, ints, now.entry, before, less))
        ];
      }

  pub are_causes : AreCauses causes
  are_causes i l = go (cause_at causes i) refl
    where
      go : (why : Option Demand) → cause_at causes i ≡ why → IfSome why (IsCauseOf (length causes) i)
      go None is = tt
      go (Some e) is =
          let c = cause i e (omega (arith, l, raised.causes_count)) is in
          record { leads = c.leads; there = omega (arith, c.is_demand.is_step.one_there, raised.causes_count) }

  -- along a trail entries rise by no more than it asks for, and where they rise just so, the trains were raised in turn
  abbrev Rises : ℕ → List Demand → ℕ → Type 0
  Rises i trail j =
      ((length (trails j) + length trail ≤ length (trails i)) × (entry_at entries i ≤ℤ (entry_at entries j +ℤ asked period trail)))
      ⊎ (entry_at entries i <ℤ (entry_at entries j +ℤ asked period trail))

  rises : (i : ℕ) (trail : List Demand) (j : ℕ) → i < member_count cut → Trails causes i trail j → Rises i trail j
  rises i [] j l leads = rw leads (inl (omega arith, omega (arith, ints)))
  rises i (e ∷ trail) j l leads =
      let c = cause i e l leads.0 in
      let here = c.rises in
      let rest = rises e.step.from trail j c.is_demand.is_step.one_there leads.1 in
      grind (arith, ints)

  -- so round a ring they ask for more than nothing
  pub round : (at : ℕ) (ring : List Demand) → at < member_count cut → 0 < length ring → Trails causes at ring at
      → pos 0 <ℤ asked period ring
  round at ring l some leads = let rise = rises at ring at l leads in grind (arith, ints)

  -- the demands of a trail are demands of the cut, each from the train to which the next leads
  pub demands_of : (i : ℕ) (trail : List Demand) (j : ℕ) → i < member_count cut → Trails causes i trail j → All (IsDemand cut) trail
  demands_of i [] j l leads = All-nil (IsDemand cut)
  demands_of i (e ∷ trail) j l leads =
      let c = cause i e l leads.0 in
      All-cons (IsDemand cut) e trail c.is_demand (demands_of e.step.from trail j c.is_demand.is_step.one_there leads.1)

  pub back_of : (i : ℕ) (trail : List Demand) (j : ℕ) → i < member_count cut → Trails causes i trail j → Back i trail j
  back_of i [] j l leads = leads
  back_of i (e ∷ trail) j l leads =
      let c = cause i e l leads.0 in (c.leads, back_of e.step.from trail j c.is_demand.is_step.one_there leads.1)

  -- a train enters soon after the one at the trail's end
  pub soon : (i : ℕ) (trail : List Demand) (j : ℕ) → i < member_count cut → Trails causes i trail j
      → entry_at entries i ≤ℤ (entry_at entries j +ℤ pos (length trail * 200000000))
  soon i trail j l leads =
      let most = weights_most cut trail (demands_of i trail j l leads) in
      let same = asked_is period trail in
      let more = nat_times (laps trail) period in
      let rise = rises i trail j l leads in
      grind (arith, ints)

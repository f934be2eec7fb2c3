-- Demands with one more, at their end or, where it is between the same trains, in place of the last one.
use Rattle.std.proofs.Common.{◌≡◌, ℕ, ◌<◌, Bool, true, false, List, [], ◌∷◌, ◌++◌, length, get_or, set, ◌⊎◌, inl, inr, refl, sym, ap, subst, ◌∙◌, arith, length-append, length-set}
use Rattle.std.specs.Prelude.{ℤ, pos, ◌+ℤ◌, ◌-ℤ◌, ◌≤ℤ◌, if◌then◌else◌, All}
use Rattle.std.proofs.lemmas.Bool.{cases_eq}
use Rattle.std.proofs.lemmas.Int.{ints}
use Rattle.std.proofs.lemmas.List.{get_or_append_left, get_or-set_same, get_or-set_other}
use Rattle.std.proofs.lemmas.List.Elements.{All-push, All-set, All-from_get_or}
use Rattle.plan_model.specs.declared.cut.Cut.{Cut}
use Rattle.plan_model.specs.Schedule.{entry_at}
use Rattle.cycle_time.specs.declared.demand.Demand.{Demand}
use Rattle.cycle_time.specs.Rings.{no_demand}
use Rattle.cycle_time.specs.Demands.{IsDemand, Keeps, asks}
use Rattle.cycle_time.specs.Laying.{AreBetweenSame, IsAdded}

-- ---- at the end

last_is : (demands : List Demand) (e : Demand) → get_or (demands ++ e ∷ []) (length demands) e ≡ e
last_is [] e = refl
last_is (d ∷ demands) e = last_is demands e

pub pushed : (before after : List Demand) (e : Demand) → after ≡ before ++ e ∷ [] → IsAdded before after e
pushed before after e same = record {
  each = λ cut all is. subst (All (IsDemand cut)) (sym same) (All-push (IsDemand cut) before e all is);
  kept = λ period entries keep. All-from_get_or (Keeps period entries) before e (λ k l.
      subst (Keeps period entries) (ap (λ es. get_or es k e) same ∙ get_or_append_left before (e ∷ []) e k l)
      (keep k e (omega (arith, l, ap length same, length-append before (e ∷ [])))));
  more = λ period entries keep.
      subst (Keeps period entries) (ap (λ es. get_or es (length before) e) same ∙ last_is before e)
      (keep (length before) e (omega (arith, ap length same, length-append before (e ∷ []))));
}

-- ---- in place of the last one

lighter : (next : Bool) (v w t : ℤ) → v ≤ℤ w → (if next then v -ℤ t else v) ≤ℤ (if next then w -ℤ t else w)
lighter true v w t h = omega (arith, ints, h)
lighter false v w t h = h

still : (x y a x' y' a' : ℤ) → x ≡ x' → y ≡ y' → a ≤ℤ a' → (x' +ℤ a') ≤ℤ y' → (x +ℤ a) ≤ℤ y
still x y a x' y' a' p q h k = omega (arith, ints, p, q, h, k)

-- who keeps the heavier of two demands between the same trains keeps the other
keeps_lighter : (period : ℕ) (entries : List ℤ) (e h : Demand) → AreBetweenSame e h → e.weight ≤ℤ h.weight
    → Keeps period entries h → Keeps period entries e
keeps_lighter period entries e h same le keep =
    let asked : asks period e ≤ℤ asks period h =
    subst (λ n. (if n then e.weight -ℤ pos period else e.weight) ≤ℤ asks period h) (sym same.next)
    (lighter h.step.next e.weight h.weight (pos period) le) in
    still (entry_at entries e.step.from) (entry_at entries e.step.to) (asks period e) (entry_at entries h.step.from)
    (entry_at entries h.step.to) (asks period h) (ap (entry_at entries) same.from) (ap (entry_at entries) same.to) asked keep

between_itself : (e : Demand) → AreBetweenSame e e
between_itself e = record { from = refl; to = refl; next = refl }

turned : (e h : Demand) → AreBetweenSame e h → AreBetweenSame h e
turned e h same = record { from = sym same.from; to = sym same.to; next = sym same.next }

module _ (before after : List Demand) (k : ℕ) (within : k < length before) (e h : Demand)
    (same : AreBetweenSame (get_or before k no_demand) e) (either : (h ≡ get_or before k no_demand) ⊎ (h ≡ e))
    (one : (get_or before k no_demand).weight ≤ℤ h.weight) (other : e.weight ≤ℤ h.weight) (is : after ≡ set before k h) where
  abbrev last : Demand
  last = get_or before k no_demand

  as_last : AreBetweenSame last h
  as_last =
      elim either [
        | inl s ↦ subst (AreBetweenSame last) (sym s) (between_itself last)
        | inr s ↦ subst (AreBetweenSame last) (sym s) same
      ]

  as_new : AreBetweenSame e h
  as_new =
      elim either [
        | inl s ↦ subst (AreBetweenSame e) (sym s) (turned last e same)
        | inr s ↦ subst (AreBetweenSame e) (sym s) (between_itself e)
      ]

  one_of_both : (cut : Cut) → All (IsDemand cut) before → IsDemand cut e → IsDemand cut h
  one_of_both cut all new =
      elim either [
        | inl s ↦ subst (IsDemand cut) (sym s) (all k no_demand within)
        | inr s ↦ subst (IsDemand cut) (sym s) new
      ]

  module _ (period : ℕ) (entries : List ℤ) (keep : All (Keeps period entries) after) where
    at : (m : ℕ) → m < length before → Keeps period entries (get_or (set before k h) m no_demand)
    at m l =
        subst (λ es. Keeps period entries (get_or es m no_demand)) is
        (keep m no_demand (omega (arith, l, ap length is, length-set before k h)))

    keeps_new : Keeps period entries h
    keeps_new = subst (Keeps period entries) (get_or-set_same before k h no_demand within) (at k within)

    keeps_each : (m : ℕ) → m < length before → Keeps period entries (get_or before m no_demand)
    keeps_each m l =
        elim (cases_eq m k) [
          | inl s ↦
              subst (λ i. Keeps period entries (get_or before i no_demand)) (sym s)
              (keeps_lighter period entries last h as_last one keeps_new)
          | inr ne ↦ subst (Keeps period entries) (get_or-set_other before k m h no_demand ne) (at m l)
        ]

  pub replaced : IsAdded before after e
  replaced = record {
    each = λ cut all new. subst (All (IsDemand cut)) (sym is) (All-set (IsDemand cut) before k h (one_of_both cut all new) all);
    kept = λ period entries keep. All-from_get_or (Keeps period entries) before no_demand (keeps_each period entries keep);
    more = λ period entries keep. keeps_lighter period entries e h as_new other (keeps_new period entries keep);
  }

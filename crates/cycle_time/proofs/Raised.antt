-- Entries that are raised along a demand: what is known of them stays.
use Rattle.std.proofs.Common.{◌≡◌, ◌≢◌, ℕ, ◌<◌, ◌==◌, List, [], ◌∷◌, length, inl, inr, refl, sym, ap, subst, ◌∙◌, arith}
use Rattle.std.specs.Prelude.{ℤ, pos, ◌+ℤ◌, ◌-ℤ◌, ◌≤ℤ◌, ◌<ℤ◌, if◌then◌else◌, All, Option, None, Some}
use Rattle.std.proofs.lemmas.Bool.{cases_eq, eq-eqb, ne_eqb}
use Rattle.std.proofs.lemmas.Int.{ints}
use Rattle.std.proofs.lemmas.List.{length-set, get_or-set_same, get_or-set_other}
use Rattle.std.proofs.lemmas.List.Elements.{All-cons, All-head, All-tail}
use Rattle.plan_model.specs.declared.cut.Cut.{Cut}
use Rattle.plan_model.specs.Members.{member_count}
use Rattle.plan_model.specs.Schedule.{window_start, entry_at}
use Rattle.cycle_time.specs.declared.demand.Demand.{Demand}
use Rattle.cycle_time.specs.Cycle.{IsRepeating}
use Rattle.cycle_time.specs.Demands.{IsDemand, asks, Keeps}
use Rattle.cycle_time.specs.Raising.{cause_at, Back, asked, HasOrHad, BeginsWith, IsRaised, AreRaisedAlong, AreRaised, IsRaisedBy}
use Rattle.cycle_time.proofs.Refused.{keeps_step, step_asks}

-- what a demand asks is what its step asks
asks_is : (cut : Cut) (period : ℕ) (e : Demand) → IsDemand cut e → asks period e ≡ step_asks cut period e.step
asks_is cut period e is = ap (λ w. if e.step.next then w -ℤ pos period else w) is.weight_is

-- entries that repeat keep each demand
pub keeps_demand : (cut : Cut) (period : ℕ) (entries : List ℤ) → IsRepeating cut period entries → (e : Demand) → IsDemand cut e
    → Keeps period entries e
keeps_demand cut period entries repeats e is =
    subst (λ a. (entry_at entries e.step.from +ℤ a) ≤ℤ entry_at entries e.step.to) (sym (asks_is cut period e is))
    (keeps_step cut period entries repeats e.step is.is_step)

-- what repeats enters no earlier than trails of demands ask for
pub reaches : (cut : Cut) (period : ℕ) (entries : List ℤ) → IsRepeating cut period entries → (i : ℕ) (trail : List Demand)
    (root : ℕ) → i < member_count cut → All (IsDemand cut) trail → Back i trail root
    → (window_start cut +ℤ asked period trail) ≤ℤ entry_at entries i
reaches cut period entries repeats i [] root l all back = let from = repeats.schedule.from i l in omega (arith, ints, from)
reaches cut period entries repeats i (e ∷ trail) root l all back =
    let is = All-head (IsDemand cut) e trail all in
    let rest = reaches cut period entries repeats e.step.from trail root is.is_step.one_there (All-tail (IsDemand cut) e trail all) back.1 in
    let keep = keeps_demand cut period entries repeats e is in
    subst (λ k. (window_start cut +ℤ asked period (e ∷ trail)) ≤ℤ entry_at entries k) back.0 (omega (arith, ints, rest, keep))

-- so no train that was raised along a trail enters later
pub least : (cut : Cut) (period : ℕ) (entries : List ℤ) (causes : List (Option Demand)) → AreRaised cut period entries causes
    → (other : List ℤ) → IsRepeating cut period other → (i : ℕ) → i < member_count cut
    → entry_at entries i ≤ℤ entry_at other i
least cut period entries causes (trails, raised) other repeats i l =
    let its = raised.each i l in
    let least = reaches cut period other repeats i (trails i) its.leads.0 l its.each its.leads.1 in
    omega (arith, ints, its.entry, least)

module _ (cut : Cut) (period : ℕ) (entries : List ℤ) (causes : List (Option Demand)) (e : Demand) (is : IsDemand cut e)
    (after : List ℤ) (causes_after : List (Option Demand)) (by : IsRaisedBy period e entries causes after causes_after)
    (trails : ℕ → List Demand) (raised : AreRaisedAlong cut period entries causes trails) where
  abbrev t : ℕ
  t = e.step.to

  abbrev f : ℕ
  f = e.step.from

  abbrev v : ℤ
  v = entry_at entries f +ℤ asks period e

  at_t : entry_at after t ≡ v
  at_t =
      ap (λ xs. entry_at xs t) by.entries
      ∙ get_or-set_same entries t v (pos 0) (omega (arith, raised.count, is.is_step.other_there))

  other : (i : ℕ) → i ≢ t → entry_at after i ≡ entry_at entries i
  other i ne = ap (λ xs. entry_at xs i) by.entries ∙ get_or-set_other entries t i v (pos 0) ne

  cause_t : cause_at causes_after t ≡ Some e
  cause_t =
      ap (λ cs. cause_at cs t) by.causes
      ∙ get_or-set_same causes t (Some e) None (omega (arith, raised.causes_count, is.is_step.other_there))

  cause_other : (i : ℕ) → i ≢ t → cause_at causes_after i ≡ cause_at causes i
  cause_other i ne = ap (λ cs. cause_at cs i) by.causes ∙ get_or-set_other causes t i (Some e) None ne

  -- the raised train's trail is the demand, and behind it the trail of the demand's first train
  abbrev now : ℕ → List Demand
  now i = if i == t then e ∷ trails f else trails i

  now_t : now t ≡ e ∷ trails f
  now_t = ap (λ b. if b then e ∷ trails f else trails t) (eq-eqb t t refl)

  now_other : (i : ℕ) → i ≢ t → now i ≡ trails i
  now_other i ne = ap (λ b. if b then e ∷ trails f else trails i) (ne_eqb i t ne)

  first : IsRaised cut period entries trails (cause_at causes f) f (trails f)
  first = raised.each f is.is_step.one_there

  last : IsRaised cut period entries trails (cause_at causes t) t (trails t)
  last = raised.each t is.is_step.other_there

  -- a trail that a train had then it has yet, or had before this raising
  had_now : (i : ℕ) (trail : List Demand) → HasOrHad period (trails i) trail → HasOrHad period (now i) trail
  had_now i trail had =
      elim (cases_eq i t) [
        | inl s ↦
            let later = by.later in
            let less : asked period trail <ℤ asked period (e ∷ trails f) = elim had [
              | inl same ↦ omega (arith, ints, ap (asked period) (same ∙ ap trails s), later, last.entry, first.entry)
              | inr less ↦ omega (arith, ints, less, ap (λ k. asked period (trails k)) s, later, last.entry, first.entry)
            ] in
            rw (s, now_t) (inr less)
        | inr ne ↦ rw (now_other i ne) had
      ]

  raised_t : IsRaised cut period after now (Some e) t (e ∷ trails f)
  raised_t = record {
    each = All-cons (IsDemand cut) e (trails f) is first.each;
    leads = (first.leads.0, (refl, first.leads.1));
    entry = omega (arith, ints, at_t, first.entry);
    from = let later = by.later in omega (arith, ints, at_t, later, last.from);
    begins = (trails f, refl, had_now f (trails f) (inl refl));
  }

  begins_other : (o : Option Demand) (trail : List Demand) → BeginsWith period trails o trail → BeginsWith period now o trail
  begins_other None trail begins = begins
  begins_other (Some d) trail (behind, is, had) = (behind, is, had_now d.step.from behind had)

  each_now : (i : ℕ) → i < member_count cut → IsRaised cut period after now (cause_at causes_after i) i (now i)
  each_now i l =
      elim (cases_eq i t) [
        | inl s ↦ rw (s, cause_t, now_t) raised_t
        | inr ne ↦
            let its = raised.each i l in
            let still = other i ne in
            rw (cause_other i ne, now_other i ne) (record {
              each = its.each;
              leads = its.leads;
              entry = still ∙ its.entry;
              from = omega (arith, ints, still, its.from);
              begins = begins_other (cause_at causes i) (trails i) its.begins;
            })
      ]

  raised_now : AreRaisedAlong cut period after causes_after now
  raised_now = record {
    count = ap length by.entries ∙ length-set entries t v ∙ raised.count;
    causes_count = ap length by.causes ∙ length-set causes t (Some e) ∙ raised.causes_count;
    each = each_now;
  }

pub raised_more : (cut : Cut) (period : ℕ) (entries : List ℤ) (causes : List (Option Demand)) (e : Demand) → IsDemand cut e
    → (after : List ℤ) (causes_after : List (Option Demand)) → IsRaisedBy period e entries causes after causes_after
    → AreRaised cut period entries causes → AreRaised cut period after causes_after
raised_more cut period entries causes e is after causes_after by (trails, raised) =
    (_, raised_now cut period entries causes e is after causes_after by trails raised)

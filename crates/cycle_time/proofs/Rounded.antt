-- A round along the demands: what is known after each of them.
use Rattle.std.proofs.Common.{◌≡◌, ℕ, ◌+◌, ◌<◌, List, [], length, take, get_or, inr, refl, sym, ap, subst, ◌∙◌, arith}
use Rattle.std.specs.Prelude.{ℤ, pos, ◌+ℤ◌, ◌-ℤ◌, ◌≤ℤ◌, ◌<ℤ◌, nat_abs, Option, None, Some, IfSome}
use Rattle.std.proofs.lemmas.Int.{ints}
use Rattle.std.proofs.lemmas.List.{length-set, get_or-set_same}
use Rattle.std.proofs.lemmas.List.Elements.{All-more, All-set, All-get_or, All-nil}
use Rattle.std.proofs.lemmas.List.Sums.{sum_by-set}
use Rattle.plan_model.specs.declared.cut.Cut.{Cut}
use Rattle.plan_model.specs.Schedule.{entry_at}
use Rattle.cycle_time.specs.declared.demand.Demand.{Demand}
use Rattle.cycle_time.specs.declared.settling.TheConstants.{LATEST}
use Rattle.cycle_time.specs.Demands.{IsDemand, asks, Keeps}
use Rattle.cycle_time.specs.Raising.{AreRaised, IsRaisedBy, IsEarly, AreEarly, highest, room, IsHigher}
use Rattle.cycle_time.specs.Settling.{IsRaisedOnce, IsSoFar}
use Rattle.cycle_time.proofs.Trails.{light}

pub none_yet : (period : ℕ) (entries : List ℤ) → IsSoFar period [] entries entries None
none_yet period entries = record { same = refl; keep = All-nil (Keeps period entries) }

-- a demand that is kept
pub kept_more : (period : ℕ) (demands : List Demand) (k : ℕ) (d : Demand) (before entries after : List ℤ) (top : Option ℕ)
    → k < length demands → after ≡ entries → Keeps period entries (get_or demands k d)
    → IsSoFar period (take k demands) before entries top → IsSoFar period (take (k + 1) demands) before after top
kept_more period demands k d before entries after None l same keep h = record {
  same = same ∙ h.same;
  keep = All-more (Keeps period before) demands k d l h.keep
      (subst (λ xs. Keeps period xs (get_or demands k d)) h.same keep);
}
kept_more period demands k d before entries after (Some top) l same keep h = record {
  there = omega (arith, h.there, ap length same);
  higher = omega (arith, h.higher, ap room same);
}

pub ends_there : (cut : Cut) (period : ℕ) (entries : List ℤ) (causes : List (Option Demand)) (e : Demand) → IsDemand cut e
    → AreRaised cut period entries causes → (e.step.from < length entries) × (e.step.to < length entries)
ends_there cut period entries causes e is (trails, raised) = (
  omega (arith, is.is_step.one_there, raised.count),
  omega (arith, is.is_step.other_there, raised.count),
)

pub named_there : (period : ℕ) (demands : List Demand) (before entries after : List ℤ) (top : Option ℕ)
    → IsSoFar period demands before entries top → length after ≡ length entries → IfSome top (λ t. t < length after)
named_there period demands before entries after None h e = tt
named_there period demands before entries after (Some top) h e = omega (arith, h.there, e)

module _ (cut : Cut) (period : ℕ) (e : Demand) (is : IsDemand cut e) (entries after : List ℤ) (causes causes_after : List (Option Demand))
    (by : IsRaisedBy period e entries causes after causes_after) (early : AreEarly entries)
    (one : e.step.from < length entries) (other : e.step.to < length entries) where
  abbrev v : ℤ
  v = entry_at entries e.step.from +ℤ asks period e

  pub at_v : entry_at after e.step.to ≡ v
  at_v = ap (λ xs. entry_at xs e.step.to) by.entries ∙ get_or-set_same entries e.step.to v (pos 0) other

  abbrev late : ℤ → ℕ
  late x = nat_abs (highest -ℤ x)

  later_late : (x y z a : ℤ) → x <ℤ y → y ≡ z +ℤ a → a ≤ℤ pos 200000000 → z ≤ℤ LATEST
      → nat_abs (highest -ℤ y) < nat_abs (highest -ℤ x)
  later_late x y z a l is_y small near = omega (arith, ints, l, is_y, small, near)

  pub room_less : room after < room entries
  room_less =
      let summed = sum_by-set late entries e.step.to v (pos 0) other in
      let from = All-get_or IsEarly entries e.step.from (pos 0) one early in
      let less = later_late (entry_at entries e.step.to) v (entry_at entries e.step.from) (asks period e) by.later refl
      (light cut period e is) from.before in
      omega (arith, summed, less, ap room by.entries)

  pub same_length : length after ≡ length entries
  same_length = ap length by.entries ∙ length-set entries e.step.to v

  pub early_after : entry_at after e.step.to ≤ℤ LATEST → AreEarly after
  early_after most =
      let to = All-get_or IsEarly entries e.step.to (pos 0) other early in
      let a = to.after in
      let b = by.later in
      subst AreEarly (sym by.entries)
      (All-set IsEarly entries e.step.to v (record { after = omega (arith, ints, a, b); before = omega (arith, ints, at_v, most) }) early)

  pub raised_now : (demands : List Demand) (before : List ℤ) (top : Option ℕ) → IsSoFar period demands before entries top
      → room after < room before
  raised_now demands before None h = omega (arith, room_less, ap room h.same)
  raised_now demands before (Some top) h = omega (arith, room_less, h.higher)

  -- a train that is raised too far
  pub too_late : (demands : List Demand) (before : List ℤ) (top : Option ℕ) → IsSoFar period demands before entries top
      → LATEST <ℤ entry_at after e.step.to → IsHigher before after e.step.to
  too_late demands before top h past = record {
    there = omega (arith, other, same_length);
    higher = raised_now demands before top h;
    early = inr past;
  }

  -- or not too far
  pub once : (demands : List Demand) (before : List ℤ) (top : Option ℕ) → IsSoFar period demands before entries top
      → (named : ℕ) → named < length after → IsRaisedOnce before after named
  once demands before top h named l = record { there = l; higher = raised_now demands before top h }

-- The visits of a place: the members that use it, each with its start there and how long it lasts.
use Rattle.std.specs.Prelude.{◌≡◌, ℕ, pos, ◌<◌, ℤ, ◌-ℤ◌, ◌<ℤ◌, nat_abs, Bool, false, ◌==◌, ◌&&◌, ◌||◌, List, [], ◌∷◌, ◌++◌, length, map, filter, slice_index_or}
use Rattle.std.specs.List.{list_any, range_with_len}
use Rattle.std.specs.List.Sorted.{IsPermutation, IsSortedByKey}
use Rattle.std.specs.Ordering.{nat_cmp, int_cmp, is_lt, ordering_then}
use Rattle.std.specs.declared.cmp.Ordering.{Ordering}
use Rattle.rail_model.specs.declared.stair.Use.{Use}
use Rattle.plan_model.specs.declared.cut.Cut.{Cut}
use Rattle.plan_model.specs.Members.{member, member_count, uses_place, use_at}
use Rattle.plan_model.specs.Cut.{IsMoment}
use Rattle.train_order.specs.Types.{Visit}

-- stands where there is no visit
abbrev pub no_visit : Visit
no_visit = record { start = pos 0; lasts_s = 0; member = 0 }

-- a use lasts for some time, and its moments are within the limit
pub record IsLasting (u : Use) : Type 0 where
  pub starts : IsMoment u.start
  pub ends : IsMoment u.«end»
  pub some_time : u.start <ℤ u.«end»

-- a member's visit by a use
abbrev pub visit_of : ℕ → Use → Visit
visit_of i u = record { start = u.start; lasts_s = nat_abs (u.«end» -ℤ u.start); member = i }

-- a member's visit of a place, which it uses
abbrev pub visit_at : Cut → ℕ → ℕ → Visit
visit_at cut place i = visit_of i (use_at (member cut i) place)

-- the visits of a place by the first n members, and by all
abbrev pub visits_upto : Cut → ℕ → ℕ → List Visit
visits_upto cut n place = map (visit_at cut place) (filter (λ i. uses_place (member cut i) place) (range_with_len 0 n))

abbrev pub visits : Cut → ℕ → List Visit
visits cut place = visits_upto cut (member_count cut) place

-- the order of precedence: by start, then by member
abbrev pub key_of : Visit → ℤ × ℕ
key_of v = (v.start, v.member)

abbrev pub key_cmp : ℤ × ℕ → ℤ × ℕ → Ordering
key_cmp x y = ordering_then (int_cmp x.0 y.0) (nat_cmp x.1 y.1)

abbrev pub is_earlier : ℤ × ℕ → ℤ × ℕ → Bool
is_earlier x y = is_lt (key_cmp x y)

-- these are the visits of a place in the order of precedence
pub record AreInTurn (cut : Cut) (place : ℕ) (some : List Visit) : Type 0 where
  pub same : IsPermutation (visits cut place) some
  pub order : IsSortedByKey key_of key_cmp some

-- among some visits one of member i stands before one of member j
abbrev pub comes_first : List Visit → ℕ → ℕ → Bool
comes_first [] i j = false
comes_first (v ∷ visits) i j = ((v.member == i) && list_any (λ w. w.member == j) visits) || comes_first visits i j

-- ---- lists of the visits of all places

-- the visits of a place by some uses of a member
abbrev pub visits_by : ℕ → List Use → ℕ → List Visit
visits_by i uses place = map (visit_of i) (filter (λ u. u.block == place) uses)

-- the visits of a place, in lists for all places
abbrev pub listed_at : List (List Visit) → ℕ → List Visit
listed_at lists place = slice_index_or lists place []

-- the lists have, for each place, the visits so far and some more by one member
pub record HasMore (before after : List (List Visit)) (i : ℕ) (uses : List Use) : Type 0 where
  pub count : length after ≡ length before
  pub each : (place : ℕ) → place < length before
      → listed_at after place ≡ listed_at before place ++ visits_by i uses place

-- the lists have the visits of each place by the first n members
pub record AreVisits (cut : Cut) (n : ℕ) (places : ℕ) (lists : List (List Visit)) : Type 0 where
  pub count : length lists ≡ places
  pub each : (place : ℕ) → place < places → listed_at lists place ≡ visits_upto cut n place

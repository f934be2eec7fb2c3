-- Where no member of a sound cut remains, there is a least schedule: each train's entry is raised by what precedes it,
-- as many times as there are trains.
use Rattle.std.proofs.Common.{◌≡◌, ℕ, zero, suc, ◌<◌, ◌≤◌, Bool, true, List, [], map, inl, inr, refl, sym, subst, arith}
use Rattle.std.specs.Prelude.{ℤ, pos, ◌+ℤ◌, ◌-ℤ◌, ◌≤ℤ◌, if◌then◌else◌}
use Rattle.std.specs.Int.{int_max}
use Rattle.std.proofs.lemmas.Bool.{cases_Bool, cases_eq, and_parts}
use Rattle.std.proofs.lemmas.Int.{ints, clamps}
use Rattle.std.proofs.lemmas.List.FromFn.{length-map-range_with_len, get_or-map-range_with_len}
use Rattle.plan_model.specs.declared.cut.Cut.{Cut}
use Rattle.plan_model.specs.Members.{place_count, places, member, member_count, members, use_at, precedes}
use Rattle.plan_model.specs.Cut.{IsSoundCut}
use Rattle.plan_model.specs.Disorder.{remaining}
use Rattle.plan_model.specs.Schedule.{entry_at, start_at, end_at, start_by, IsScheduleFrom}
use Rattle.plan_model.proofs.MemberTests.{has-range, has_any}
use Rattle.plan_model.proofs.Uses.{place_there}
use Rattle.compression.specs.Laws.{LeastIsThere}
use Rattle.compression.proofs.Rounds.{rounds, most_rounds, later_round}

-- ---- the greatest of a number and of those at the first places that pass a test

module _ (test : ℕ → Bool) (f : ℕ → ℤ) (from : ℤ) where
  abbrev most : ℕ → ℤ
  most zero = from
  most (suc n) = if test n then int_max (most n) (f n) else most n

  most_from : (n : ℕ) → from ≤ℤ most n
  most_from zero = omega (arith, ints)
  most_from (suc n) =
      elim (cases_Bool (test n)) [
        | inl y ↦ rw y (omega (arith, ints, clamps, most_from n))
        | inr fails ↦ rw fails (most_from n)
      ]

  most_each : (n k : ℕ) → k < n → test k ≡ true → f k ≤ℤ most n
  most_each zero k l t = absurd (omega (arith, l))
  most_each (suc n) k l t =
      elim (cases_eq k n) [
        | inl e ↦ rw (sym e, t) (omega (arith, ints, clamps))
        | inr other ↦
            let before = most_each n k (omega (arith, l, other)) t in
            elim (cases_Bool (test n)) [
              | inl y ↦ rw y (omega (arith, ints, clamps, before))
              | inr fails ↦ rw fails before
            ]
      ]

  most_within : (n : ℕ) (y : ℤ) → from ≤ℤ y → ((k : ℕ) → k < n → test k ≡ true → f k ≤ℤ y) → most n ≤ℤ y
  most_within zero y h each = h
  most_within (suc n) y h each =
      let before = most_within n y h (λ k l t. each k (omega (arith, l)) t) in
      elim (cases_Bool (test n)) [
        | inl t ↦ let here = each n (omega arith) t in rw t (omega (arith, ints, clamps, before, here))
        | inr fails ↦ rw fails before
      ]

-- ---- moments

starts_after : (end s e y : ℤ) → (end -ℤ (s -ℤ e)) ≤ℤ y → end ≤ℤ (s -ℤ e +ℤ y)
starts_after end s e y a = omega (arith, ints, a)

asked_by : (f e x u s g y : ℤ) → x ≤ℤ u → (f -ℤ e +ℤ u) ≤ℤ (s -ℤ g +ℤ y) → ((f -ℤ e +ℤ x) -ℤ (s -ℤ g)) ≤ℤ y
asked_by f e x u s g y a b = omega (arith, ints, a, b)

asked_less : (f e x u off y : ℤ) → x ≤ℤ u → ((f -ℤ e +ℤ u) -ℤ off) ≤ℤ y → ((f -ℤ e +ℤ x) -ℤ off) ≤ℤ y
asked_less f e x u off y a b = omega (arith, ints, a, b)

-- ---- entries that are raised

module _ (cut : Cut) (floor : ℕ → ℤ) where
  abbrev n : ℕ
  n = member_count cut

  abbrev before : ℕ → ℕ → ℕ → Bool
  before i j place = precedes (member cut i) (member cut j) place

  -- when member j can enter after member i, which enters at a moment, at a place
  abbrev asked : ℤ → ℕ → ℕ → ℕ → ℤ
  asked entry i j place =
      end_at (member cut i) entry place -ℤ ((use_at (member cut j) place).start -ℤ (member cut j).entry)

  -- each entry, raised once more by those before
  abbrev raised : ℕ → ℕ → ℤ
  raised zero j = floor j
  raised (suc k) j =
      most (λ i. true)
      (λ i. most (before i j) (asked (raised k i) i j) (floor j) (place_count cut)) (floor j) n

  from_floor : (k j : ℕ) → floor j ≤ℤ raised k j
  from_floor zero j = omega (arith, ints)
  from_floor (suc k) j =
      most_from (λ i. true)
      (λ i. most (before i j) (asked (raised k i) i j) (floor j) (place_count cut)) (floor j) n

  reaches : (k i j place : ℕ) → i < n → place < place_count cut → before i j place ≡ true
      → asked (raised k i) i j place ≤ℤ raised (suc k) j
  reaches k i j place li lp b =
      let one = most_each (before i j) (asked (raised k i) i j) (floor j) (place_count cut) place lp b in
      let all = most_each (λ i. true)
      (λ i. most (before i j) (asked (raised k i) i j) (floor j) (place_count cut)) (floor j) n i li refl in
      omega (arith, ints, one, all)

  within : (k j : ℕ) (y : ℤ) → floor j ≤ℤ y
      → ((i place : ℕ) → i < n → place < place_count cut → before i j place ≡ true → asked (raised k i) i j place ≤ℤ y)
      → raised (suc k) j ≤ℤ y
  within k j y h each =
      most_within (λ i. true)
      (λ i. most (before i j) (asked (raised k i) i j) (floor j) (place_count cut)) (floor j) n y h
      (λ i li t. most_within (before i j) (asked (raised k i) i j) (floor j) (place_count cut) y h
      (λ place lp b. each i place li lp b))

  -- no entry is raised above that of a schedule
  no_later : (other : List ℤ) → IsScheduleFrom cut floor other → (k j : ℕ) → j < n → raised k j ≤ℤ entry_at other j
  no_later other by zero j l = by.from j l
  no_later other by (suc k) j l =
      within k j (entry_at other j) (by.from j l)
      (λ i place li lp b.
      asked_by (use_at (member cut i) place).«end» (member cut i).entry (raised k i) (entry_at other i)
      (use_at (member cut j) place).start (member cut j).entry (entry_at other j) (no_later other by k i li)
      (by.order i j place li l b))

  module _ (sound : IsSoundCut cut) (none : remaining cut ≡ []) where
    abbrev round : ℕ → ℕ
    round = rounds cut n (members cut)

    later : (i j place : ℕ) → i < n → j < n → place < place_count cut → before i j place ≡ true → round i < round j
    later i j place li lj lp b =
        later_round cut n (members cut) i j none (has-range n i li) (has-range n j lj)
        (has_any (before i j) (places cut) place (has-range (place_count cut) place lp) b)

    -- a member that is there for so many rounds is raised no further
    settled : (k i j place : ℕ) → round j ≤ k → i < n → j < n → place < place_count cut → before i j place ≡ true
        → asked (raised k i) i j place ≤ℤ raised k j
    settled zero i j place few li lj lp b = absurd (omega (arith, few, later i j place li lj lp b))
    settled (suc k) i j place few li lj lp b =
        let fewer : round i ≤ k = omega (arith, few, later i j place li lj lp b) in
        let still : raised (suc k) i ≤ℤ raised k i =
        within k i (raised k i) (from_floor k i) (λ h p lh l a. settled k h i p fewer lh li l a) in
        asked_less (use_at (member cut i) place).«end» (member cut i).entry (raised (suc k) i) (raised k i)
        ((use_at (member cut j) place).start -ℤ (member cut j).entry) (raised (suc k) j) still
        (reaches k i j place li lp b)

    abbrev entries : List ℤ
    entries = map (raised n) (members cut)

    at : (i : ℕ) → i < n → entry_at entries i ≡ raised n i
    at i l = get_or-map-range_with_len (raised n) 0 n i i (pos 0) l (omega arith)

    schedule : IsScheduleFrom cut floor entries
    schedule = record {
      count = length-map-range_with_len (raised n) 0 n;
      from = λ i l. subst (λ x. floor i ≤ℤ x) (sym (at i l)) (from_floor n i);
      order = λ i j place li lj b.
          let lp = place_there cut sound i place li (and_parts _ _ (and_parts _ _ b).0).0 in
          subst (λ x. end_at (member cut i) x place ≤ℤ start_by cut entries j place) (sym (at i li))
          (subst (λ x. end_at (member cut i) (raised n i) place ≤ℤ start_at (member cut j) x place) (sym (at j lj))
          (starts_after (end_at (member cut i) (raised n i) place) (use_at (member cut j) place).start
          (member cut j).entry (raised n j)
          (settled n i j place (most_rounds cut n (members cut) j) li lj lp b)));
    }

pub least_is_there : LeastIsThere
least_is_there cut floor sound none = (
  entries cut floor sound none,
  record {
    schedule = schedule cut floor sound none;
    least = λ other by i l.
        subst (λ x. x ≤ℤ entry_at other i) (sym (at cut floor sound none i l))
        (no_later cut floor other by (member_count cut) i l);
  },
)

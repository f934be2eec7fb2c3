-- Visits in turn: who keeps the demands from each to the next, and from the last to the first, keeps the place.
use Rattle.std.proofs.Common.{◌≡◌, ℕ, zero, suc, ◌+◌, ◌-◌, ◌<◌, true, List, length, get_or, inl, inr, sym, ap, subst, ◌∙◌, arith}
use Rattle.std.specs.Prelude.{ℤ, pos, nat_abs, ◌+ℤ◌, ◌-ℤ◌, ◌≤ℤ◌, ◌<ℤ◌, filter}
use Rattle.std.specs.List.{Contains}
use Rattle.std.proofs.lemmas.Bool.{cases_eq, cases_lt}
use Rattle.std.proofs.lemmas.Int.{ints}
use Rattle.std.proofs.lemmas.List.{get_or_default, get_or-map, length-map}
use Rattle.std.proofs.lemmas.List.Elements.{All-from_get_or}
use Rattle.std.proofs.lemmas.List.Sorted.{Contains-permutation}
use Rattle.plan_model.specs.declared.cut.Cut.{Cut}
use Rattle.plan_model.specs.Members.{block_count, member, member_count, members, uses_place, use_at}
use Rattle.plan_model.specs.Cut.{IsSoundCut, IsMoment}
use Rattle.plan_model.specs.Schedule.{entry_at, start_by, end_by}
use Rattle.plan_model.proofs.MemberTests.{has-range, has-filter}
use Rattle.plan_model.proofs.Uses.{takes_time, takes_time_by}
use Rattle.plan_model.proofs.Sound.{usable, use_sound}
use Rattle.train_order.specs.declared.visits.Visit.{Visit}
use Rattle.train_order.specs.Visits.{no_visit, visit_at, visits, AreInTurn}
use Rattle.train_order.proofs.Among.{stands_at}
use Rattle.train_order.proofs.InTurn.{IsVisit, is_visit, goes_first, in_order}
use Rattle.cycle_time.specs.Demands.{KeepsPlace}
use Rattle.cycle_time.specs.Laying.{IsVisitOf, train_at, AreTurns, KeepTurns, KeepsAgain}
use Rattle.cycle_time.proofs.Weights.{by_moments, by_moments_again}

-- ---- a visit

-- the visit of a member that uses the place stands somewhere
stands : (cut : Cut) (place : ℕ) (some : List Visit) → AreInTurn cut place some → (i : ℕ) → i < member_count cut
    → uses_place (member cut i) place ≡ true
    → (k : ℕ) × (k < length some) × (get_or some k no_visit ≡ visit_at cut place i)
stands cut place some are i l used =
    let users = filter (λ j. uses_place (member cut j) place) (members cut) in
    let s = stands_at users i (has-filter (λ j. uses_place (member cut j) place) (members cut) i (has-range (member_count cut) i l) used) in
    let there : Contains (visits cut place) (visit_at cut place i) = (
      s.at,
      omega (arith, s.within, length-map users (visit_at cut place)),
      get_or-map (visit_at cut place) users s.at 0 _ s.within ∙ ap (visit_at cut place) s.is,
    ) in
    let c = Contains-permutation (visits cut place) some (visit_at cut place i) are.same there in
    (c.0, c.1, get_or_default some c.0 no_visit (visit_at cut place i) c.1 ∙ c.2)

module _ (cut : Cut) (sound : IsSoundCut cut) (place : ℕ) where
  lasts : (s f : ℤ) → s <ℤ f → (s +ℤ pos (nat_abs (f -ℤ s))) ≡ f
  lasts s f h = omega (arith, ints, h)

  visit_of : (v : Visit) → IsVisit cut place v → IsVisitOf cut place v
  visit_of v is =
      let u = use_at (member cut v.member) place in
      let its = use_sound cut sound v.member is.there place is.used in
      let starts : v.start ≡ u.start = ap (λ (w : Visit). w.start) is.is in
      let ends : (v.start +ℤ pos v.lasts_s) ≡ u.«end» =
      ap (λ (w : Visit). w.start +ℤ pos w.lasts_s) is.is
      ∙ lasts u.start u.«end» (takes_time cut sound v.member place is.there is.used) in
      record {
        there = is.there;
        used = is.used;
        starts = starts;
        ends = ends;
        start_within = subst IsMoment (sym starts) its.starts;
        end_within = subst IsMoment (sym ends) its.ends;
        entry_within = (usable cut sound v.member is.there).entry;
      }

  module _ (some : List Visit) (are : AreInTurn cut place some) where
    pub are_turns : AreTurns cut place some
    are_turns = record {
      each = All-from_get_or (IsVisitOf cut place) some no_visit (λ k l. visit_of (get_or some k no_visit) (is_visit cut place some are k l));
      goes = λ k l. goes_first cut place some are sound k (k + 1) (omega arith) l;
    }

    module _ (period : ℕ) (entries : List ℤ) where
      abbrev at : ℕ → ℕ
      at k = train_at some k

      abbrev from : ℕ → ℤ
      from k = start_by cut entries (at k) place

      abbrev until : ℕ → ℤ
      until k = end_by cut entries (at k) place

      module _ (turns : KeepTurns cut place some (length some) period entries) (again : KeepsAgain cut place some period entries) where
        next : (k l : ℕ) → k + 1 ≡ l → l < length some → until k ≤ℤ from l
        next k l e ll =
            let i = member cut (at k) in
            let j = member cut (at (k + 1)) in
            subst (λ m. until k ≤ℤ from m) e
            (by_moments (use_at i place).«end» (use_at j place).start i.entry j.entry (entry_at entries (at k))
            (entry_at entries (at (k + 1))) (turns k (omega (arith, e, ll))))

        takes : (k : ℕ) → k < length some → from k <ℤ until k
        takes k l =
            let v = is_visit cut place some are k l in
            takes_time_by cut sound (at k) place v.there v.used (entry_at entries (at k))

        -- one that comes later starts after the end
        clear : (k l : ℕ) → k < l → l < length some → until k ≤ℤ from l
        clear k zero lt ll = absurd (omega arith)
        clear k (suc l) lt ll =
            elim (cases_eq k l) [
              | inl e ↦ next k (suc l) (omega (arith, e)) ll
              | inr ne ↦
                  let a = clear k l (omega (arith, lt, ne)) (omega (arith, ll)) in
                  let b = takes l (omega (arith, ll)) in
                  let c = next l (suc l) (omega arith) ll in
                  omega (arith, ints, a, b, c)
            ]

        -- all end by the last one's end, and start from the first one's start on
        by_last : (k : ℕ) → k < length some → until k ≤ℤ until (length some - 1)
        by_last k l =
            elim (cases_lt k (length some - 1)) [
              | inl lt ↦
                  let a = clear k (length some - 1) lt (omega (arith, l)) in
                  let b = takes (length some - 1) (omega (arith, l)) in
                  omega (arith, ints, a, b)
              | inr ge ↦ let e : k ≡ length some - 1 = omega (arith, ge, l) in subst (λ m. until k ≤ℤ until m) e (omega (arith, ints))
            ]

        from_first : (k : ℕ) → k < length some → from 0 ≤ℤ from k
        from_first zero l = omega (arith, ints)
        from_first (suc k) l =
            let a = clear 0 (suc k) (omega arith) l in
            let b = takes 0 (omega (arith, l)) in
            omega (arith, ints, a, b)

        goes_on : place < block_count cut → 0 < length some → until (length some - 1) ≤ℤ (from 0 +ℤ pos period)
        goes_on block l =
            let i = member cut (at (length some - 1)) in
            let j = member cut (at 0) in
            by_moments_again (use_at i place).«end» (use_at j place).start i.entry j.entry (entry_at entries (at (length some - 1)))
            (entry_at entries (at 0)) (pos period) (again block l)

        pub place_kept : KeepsPlace cut period entries place
        place_kept = record {
          order = λ i j li lj h.
              let s = in_order cut place some are sound i j li lj h in
              let by = λ (v : Visit). v.member in
              subst (λ m. end_by cut entries m place ≤ℤ start_by cut entries j place) (ap by s.one)
              (subst (λ m. until s.k ≤ℤ start_by cut entries m place) (ap by s.other) (clear s.k s.l s.before s.within));
          again = λ block i j li lj ui uj.
              let one = stands cut place some are i li ui in
              let other = stands cut place some are j lj uj in
              let by = λ (v : Visit). v.member in
              let a = by_last one.0 one.1 in
              let b = goes_on block (omega (arith, one.1)) in
              let c = from_first other.0 other.1 in
              let d : until one.0 ≤ℤ (from other.0 +ℤ pos period) = omega (arith, ints, a, b, c) in
              subst (λ m. end_by cut entries m place ≤ℤ (start_by cut entries j place +ℤ pos period)) (ap by one.2)
              (subst (λ m. until one.0 ≤ℤ (start_by cut entries m place +ℤ pos period)) (ap by other.2) d);
        }

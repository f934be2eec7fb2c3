-- Where the visits of a place in the order of precedence follow one another in turn, the place is kept, and the other way
-- round.
use Rattle.std.proofs.Common.{◌≡◌, ℕ, zero, suc, ◌+◌, ◌<◌, List, length, get_or, inl, inr, ap, subst, arith}
use Rattle.std.specs.Prelude.{ℤ, ◌≤ℤ◌, ◌<ℤ◌}
use Rattle.std.specs.Int.Signed.{<ℤ-≤ℤ_trans}
use Rattle.std.proofs.lemmas.Bool.{cases_eq}
use Rattle.rail_model.proofs.Numbers.{le_from_lt, lt_not_same, lt_through}
use Rattle.plan_model.specs.declared.cut.Cut.{Cut}
use Rattle.plan_model.specs.declared.answer.Placed.{Placed}
use Rattle.plan_model.specs.Cut.{IsSoundCut}
use Rattle.plan_model.specs.Schedule.{entry_at, start_by, end_by}
use Rattle.plan_model.proofs.Uses.{takes_time_by}
use Rattle.train_order.specs.declared.visits.Visit.{Visit}
use Rattle.train_order.specs.Visits.{no_visit, AreInTurn}
use Rattle.train_order.proofs.InTurn.{is_visit, goes_first, in_order}
use Rattle.critical_chain.specs.Parts.{tie_in, Follows, KeepsPlace, FollowInTurn}

module _ (cut : Cut) (entries : List ℤ) (placed : List Placed) (place : ℕ) (sound : IsSoundCut cut) (some : List Visit)
    (are : AreInTurn cut place some) where
  abbrev at : ℕ → ℕ
  at k = (get_or some k no_visit).member

  abbrev from : ℕ → ℤ
  from k = start_by cut entries (at k) place

  abbrev until : ℕ → ℤ
  until k = end_by cut entries (at k) place

  -- ---- a place that is kept

  pub in_turn : KeepsPlace cut entries placed place → FollowInTurn cut entries placed place some
  in_turn keeps k l =
      keeps (at k) (at (k + 1)) (is_visit cut place some are k (omega (arith, l))).there (is_visit cut place some are (k + 1) l).there
      (goes_first cut place some are sound k (k + 1) (omega arith) l)

  -- ---- visits in turn

  module _ (turn : FollowInTurn cut entries placed place some) where
    lasts : (k : ℕ) → k < length some → from k <ℤ until k
    lasts k l =
        let v = is_visit cut place some are k l in
        takes_time_by cut sound (at k) place v.there v.used (entry_at entries (at k))

    next : (k l : ℕ) → k + 1 ≡ l → l < length some → until k ≤ℤ from l
    next k l e ll = subst (λ m. until k ≤ℤ from m) e (turn k (omega (arith, e, ll))).clear

    -- one that isn't the next starts after the end
    later : (k l : ℕ) → k + 1 < l → l < length some → until k <ℤ from l
    later k zero lt ll = absurd (omega arith)
    later k (suc l) lt ll =
        elim (cases_eq (k + 1) l) [
          | inl e ↦
              lt_through (until k) (from l) (from (suc l)) (next k l e (omega (arith, ll)))
              (<ℤ-≤ℤ_trans (lasts l (omega (arith, ll))) (next l (suc l) (omega arith) ll))
          | inr ne ↦
              lt_through (until k) (from l) (from (suc l))
              (le_from_lt _ _ (later k l (omega (arith, lt, ne)) (omega (arith, ll))))
              (<ℤ-≤ℤ_trans (lasts l (omega (arith, ll))) (next l (suc l) (omega arith) ll))
        ]

    abbrev FollowsAt : ℕ → ℕ → Type 0
    FollowsAt k l = Follows cut (until k) (from l) (at k) place (tie_in placed (at l))

    follows : (k l : ℕ) → k < l → l < length some → FollowsAt k l
    follows k l lt ll =
        elim (cases_eq (k + 1) l) [
          | inl e ↦ subst (FollowsAt k) e (turn k (omega (arith, e, ll)))
          | inr ne ↦
              let after = later k l (omega (arith, lt, ne)) ll in
              record { clear = le_from_lt _ _ after; first = λ e. absurd (lt_not_same _ _ after e) }
        ]

    pub kept : KeepsPlace cut entries placed place
    kept i j li lj h =
        let s = in_order cut place some are sound i j li lj h in
        let by = λ (v : Visit). v.member in
        subst (λ m. Follows cut (end_by cut entries m place) (start_by cut entries j place) m place (tie_in placed j)) (ap by s.one)
        (subst (λ m. Follows cut (until s.k) (start_by cut entries m place) (at s.k) place (tie_in placed m)) (ap by s.other)
        (follows s.k s.l s.before s.within))

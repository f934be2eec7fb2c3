-- Uses of different places, and starts that come after the last ones of their places.
use Rattle.std.proofs.Common.{◌≡◌, ℕ, ◌<◌, true, false, ◌==◌, List, [], ◌∷◌, ◌++◌, length, get_or, set, take, inl, inr, sym, subst, arith}
use Rattle.std.specs.Prelude.{find, unwrap_or}
use Rattle.std.specs.List.{list_any, All}
use Rattle.std.proofs.lemmas.Bool.{cases_Bool, cases_eq, eqb-true, ne_eqb, both_ways}
use Rattle.std.proofs.lemmas.List.{get_or-set_same, get_or-set_other, get_or-take, length-take-le}
use Rattle.std.proofs.lemmas.List.Elements.{All-nil, All-cons, All-head, All-tail, All-append, All-from_get_or}
use Rattle.std.proofs.lemmas.List.Folds.{list_any_none}
use Rattle.rail_model.specs.declared.stair.Use.{Use}
use Rattle.plan_model.specs.Members.{no_use}
use Rattle.plan_model.specs.Cut.{AreOfOtherPlaces}
use Rattle.train_order.specs.declared.entry_order.Moment.{Moment}
use Rattle.train_order.specs.Visits.{is_earlier}
use Rattle.train_order.specs.EntryOrder.{no_moment, pair_of, last_at, moment_of}
use Rattle.train_order.specs.OutOfTurn.{ComesLast, Rise}
use Rattle.train_order.proofs.Before.{weak, never_itself}

-- uses before one are of other places
pub apart : (uses : List Use) (k : ℕ) → AreOfOtherPlaces uses → k < length uses
    → list_any (λ (w : Use). w.block == (get_or uses k no_use).block) (take k uses) ≡ false
apart uses k differ l =
    list_any_none (λ (w : Use). w.block == (get_or uses k no_use).block) (take k uses)
    (All-from_get_or (λ (w : Use). (w.block == (get_or uses k no_use).block) ≡ false) (take k uses) no_use (λ j lj.
    let lk : j < k = omega (arith, lj, length-take-le k uses (omega (arith, l))) in
    subst (λ (w : Use). (w.block == (get_or uses k no_use).block) ≡ false) (sym (get_or-take k uses j no_use lk))
    (ne_eqb _ _ (differ j k no_use lk l))))

-- what holds of all uses holds of the use of a place
pub at_place : (P : Use → Type 0) (place : ℕ) (uses : List Use) → list_any (λ (u : Use). u.block == place) uses ≡ true → All P uses
    → P (unwrap_or (find (λ (u : Use). u.block == place) uses) no_use)
    × ((unwrap_or (find (λ (u : Use). u.block == place) uses) no_use).block ≡ place)
at_place P place [] h all = absurd (cc)
at_place P place (u ∷ uses) h all =
    elim (cases_Bool (u.block == place)) [
      | inl e ↦ rw e (All-head P u uses all, eqb-true u.block place e)
      | inr e ↦ rw e (at_place P place uses (rw e at h) (All-tail P u uses all))
    ]

-- one start more is put into a table of last ones, after which it comes
module _ (before last : List Moment) (i : ℕ) (some : List Use) (u : Use) (there : u.block < length last) (rise : Rise before last)
    (next : is_earlier (pair_of (last_at last u.block)) (u.start, i) ≡ true) where
  abbrev after : List Moment
  after = set last u.block (moment_of i u)

  now_here : last_at after u.block ≡ moment_of i u
  now_here = get_or-set_same last u.block (moment_of i u) no_moment there

  rises : Rise last after
  rises place =
      elim (cases_eq place u.block) [
        | inl e ↦
            subst (λ p. is_earlier (pair_of (last_at after p)) (pair_of (last_at last p)) ≡ false) (sym e)
            (subst (λ m. is_earlier (pair_of m) (pair_of (last_at last u.block)) ≡ false) (sym now_here)
            (weak.one_way (pair_of (last_at last u.block)) (u.start, i) next))
        | inr ne ↦
            subst (λ m. is_earlier (pair_of m) (pair_of (last_at last place)) ≡ false)
            (sym (get_or-set_other last u.block place (moment_of i u) no_moment ne)) (never_itself (pair_of (last_at last place)))
      ]

  pub rise_more : Rise before after
  rise_more place =
      weak.chain (pair_of (last_at after place)) (pair_of (last_at last place)) (pair_of (last_at before place)) (rises place)
      (rise place)

  came_after : is_earlier (pair_of (last_at before u.block)) (u.start, i) ≡ true
  came_after =
      elim (cases_Bool (is_earlier (pair_of (last_at before u.block)) (u.start, i))) [
        | inl e ↦ e
        | inr e ↦
            absurd (both_ways _
            (weak.chain (pair_of (last_at last u.block)) (pair_of (last_at before u.block)) (u.start, i) (rise u.block) e) next)
      ]

  pub comes_more : ComesLast before last i some → ComesLast before after i (some ++ u ∷ [])
  comes_more so =
      let P : Use → Type 0 = λ w. is_earlier (pair_of (last_at before w.block)) (w.start, i) ≡ true in
      let Q : Use → Type 0 = λ w. is_earlier (pair_of (last_at after w.block)) (w.start, i) ≡ false in
      record {
        later = All-append P some (u ∷ []) so.later (All-cons P u [] came_after (All-nil P));
        last =
            All-append Q some (u ∷ [])
            (λ k d l.
            let w = get_or some k d in
            weak.chain (pair_of (last_at after w.block)) (pair_of (last_at last w.block)) (w.start, i) (rises w.block) (so.last k d l))
            (All-cons Q u [] (subst (λ m. is_earlier (pair_of m) (u.start, i) ≡ false) (sym now_here) (never_itself (u.start, i)))
            (All-nil Q));
      }

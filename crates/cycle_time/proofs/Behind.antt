-- The trail back from a train: with each demand it comes to a train that it hasn't come to, until it comes round or ends.
use Rattle.std.proofs.Common.{◌≡◌, ℕ, zero, suc, ◌<◌, ◌≤◌, ◌==◌, false, List, [], ◌∷◌, ◌++◌, length, drop, map, get_or, inl, inr, refl, sym, ap, subst, ◌∙◌, arith}
use Rattle.std.specs.Prelude.{All, Option, None, Some, IfSome}
use Rattle.std.specs.List.{position_or_len}
use Rattle.std.proofs.lemmas.Bool.{or_cases, eqb-true}
use Rattle.std.proofs.lemmas.List.{length-map, map-append, drop-map, length-drop}
use Rattle.std.proofs.lemmas.List.Elements.{All-nil, All-push}
use Rattle.train_order.specs.Taking.{IsDistinct, is_among}
use Rattle.train_order.proofs.Among.{distinct_both}
use Rattle.train_order.proofs.Walks.{not_there, came_there, place_within}
use Rattle.train_order.proofs.Whole.{whole_length}
use Rattle.cycle_time.specs.declared.demand.Demand.{Demand}
use Rattle.cycle_time.specs.Raising.{cause_at}
use Rattle.cycle_time.specs.Rings.{to_of, IsCauseOf, AreCauses, Trails, EndsAt, GoesRound}

module _ (causes : List (Option Demand)) where
  -- a trail from a train, with no train twice
  pub record IsTrail (top : ℕ) (trail : List Demand) (train : ℕ) : Type 0 where
    pub there : train < length causes
    pub leads : Trails causes top trail train
    pub once : IsDistinct (map to_of trail)
    pub within : All (λ k. k < length causes) (map to_of trail)

module _ (causes : List (Option Demand)) (are : AreCauses causes) where
  caused : (i : ℕ) (e : Demand) → i < length causes → cause_at causes i ≡ Some e → IsCauseOf (length causes) i e
  caused i e l is = subst (λ why. IfSome why (IsCauseOf (length causes) i)) is (are i l)

  pub no_trail : (top : ℕ) → top < length causes → IsTrail causes top [] top
  no_trail top l = record { there = l; leads = refl; once = tt; within = All-nil (λ k. k < length causes) }

  pub short : (top : ℕ) (trail : List Demand) (train : ℕ) → IsTrail causes top trail train → length trail ≤ length causes
  short top trail train is =
      omega (arith, whole_length (length causes) (map to_of trail) is.within is.once, length-map trail to_of)

  longer : (i : ℕ) (trail : List Demand) (j : ℕ) (e : Demand) → Trails causes i trail j → cause_at causes j ≡ Some e
      → Trails causes i (trail ++ e ∷ []) e.step.from
  longer i [] j e leads c = (ap (cause_at causes) leads ∙ c, refl)
  longer i (d ∷ trail) j e leads c = (leads.0, longer d.step.from trail j e leads.1 c)

  within_more : (trail : List Demand) (e : Demand) → e.step.to < length causes → All (λ k. k < length causes) (map to_of trail)
      → All (λ k. k < length causes) (map to_of trail ++ e.step.to ∷ [])
  within_more trail e l h = All-push (λ k. k < length causes) (map to_of trail) e.step.to h l

  -- with the cause of a train that it hasn't come to
  pub trail_more : (top : ℕ) (trail : List Demand) (train : ℕ) (e : Demand) (at : ℕ) → IsTrail causes top trail train
      → cause_at causes train ≡ Some e → at ≡ position_or_len (λ t. t == train) (map to_of trail) → length trail ≤ at
      → IsTrail causes top (trail ++ e ∷ []) e.step.from
  trail_more top trail train e at is c found past =
      let its = caused train e is.there c in
      let tos = map to_of trail in
      let all : position_or_len (λ t. t == train) tos ≡ length tos =
      omega (arith, found, past, length-map trail to_of, place_within tos train) in
      let fresh : is_among tos train ≡ false = not_there tos train all in
      let split : map to_of (trail ++ e ∷ []) ≡ tos ++ e.step.to ∷ [] = map-append to_of trail (e ∷ []) in
      record {
        there = its.there;
        leads = longer top trail train e is.leads c;
        once = subst IsDistinct (sym split) (distinct_both tos (e.step.to ∷ []) is.once (refl, tt) (λ i h.
            elim (or_cases (e.step.to == i) false h) [
              | inl q ↦ subst (λ m. is_among tos m ≡ false) (sym its.leads ∙ eqb-true e.step.to i q) fresh
              | inr q ↦ absurd (cc)
            ]));
        within = subst (All (λ k. k < length causes)) (sym split)
            (within_more trail e (omega (arith, its.leads, is.there)) is.within);
      }

  -- where it ends
  pub ends_at : (top : ℕ) (trail : List Demand) (train : ℕ) → IsTrail causes top trail train → cause_at causes train ≡ None
      → EndsAt causes top
  ends_at top trail train is c = record {
    trail = trail;
    root = train;
    there = is.there;
    leads = is.leads;
    never = c;
    short = short top trail train is;
  }

  -- ---- where it comes round

  from_there : (i : ℕ) (trail : List Demand) (j k m : ℕ) → i < length causes → k < length trail
      → get_or (map to_of trail) k 0 ≡ m → Trails causes i trail j → Trails causes m (drop k trail) j
  from_there i [] j k m li l is leads = absurd (omega (arith, l))
  from_there i (e ∷ trail) j zero m li l is leads =
      let its = caused i e li leads.0 in
      subst (λ t. Trails causes t (e ∷ trail) j) (sym its.leads ∙ is) leads
  from_there i (e ∷ trail) j (suc k) m li l is leads =
      from_there e.step.from trail j k m (caused i e li leads.0).there (omega (arith, l)) is leads.1

  distinct_drop : (k : ℕ) (some : List ℕ) → IsDistinct some → IsDistinct (drop k some)
  distinct_drop zero some d = d
  distinct_drop (suc k) [] d = tt
  distinct_drop (suc k) (i ∷ some) d = distinct_drop k some d.1

  pub goes_round : (top : ℕ) (trail : List Demand) (train at : ℕ) → top < length causes → IsTrail causes top trail train
      → at ≡ position_or_len (λ t. t == train) (map to_of trail) → at < length trail
      → GoesRound causes (drop at trail)
  goes_round top trail train at lt is found l =
      let came = came_there (map to_of trail) train at found (λ e. omega (arith, e, l, length-map trail to_of)) in
      record {
        at = train;
        there = is.there;
        some = omega (arith, l, length-drop at trail);
        leads = from_there top trail train at train lt l came.1 is.leads;
        once = subst IsDistinct (drop-map to_of at trail) (distinct_drop at (map to_of trail) is.once);
      }

-- The walk over all uses, along an order: who stands nearest before each position, and the edges from there.
use Rattle.std.proofs.Common.{◌≡◌, ◌≢◌, ℕ, ◌+◌, ◌<◌, true, false, ◌==◌, List, [], ◌∷◌, length, take, get_or, set, inl, inr, refl, sym, ap, subst, ◌∙◌, arith, length-set}
use Rattle.std.specs.Prelude.{Option, None, Some, All, Any, IfSome, slice_index, slice_index_or, slice_set, find, unwrap_or}
use Rattle.std.specs.Option.{option_or}
use Rattle.std.specs.List.{list_any}
use Rattle.std.proofs.lemmas.Bool.{cases_eq, cases_order, eq-eqb, ne_eqb, both_ways}
use Rattle.std.proofs.lemmas.Grind.{get_or-set_at}
use Rattle.std.proofs.lemmas.List.{get_or-set_other, get_or-set_same, take_more}
use Rattle.std.proofs.lemmas.List.Folds.{find-append}
use Rattle.rail_model.specs.declared.stair.Use.{Use}
use Rattle.plan_model.specs.declared.cut.Cut.{Cut}
use Rattle.plan_model.specs.Members.{place_count, member, member_count, uses_place, use_of, use_at, no_use, precedes}
use Rattle.plan_model.specs.Cut.{IsSoundCut, AreOfOtherPlaces}
use Rattle.plan_model.proofs.Uses.{place_there}
use Rattle.plan_model.proofs.Order.{one_precedes}
use Rattle.train_order.specs.Ordering.{IsOrder}
use Rattle.train_order.proofs.Apart.{below}
use Rattle.train_order.proofs.Users.{somewhere}
use Rattle.train_order.proofs.Following.{apart}
use Rattle.train_net.specs.declared.edge.Edge.{Edge}
use Rattle.train_net.specs.declared.near.Near.{Near}
use Rattle.train_net.specs.Net.{standing, IsNearest, IsEdge, Covers, AreEdges, edges_to}
use Rattle.train_net.specs.Near.{near_by, IsNear, AreNearAt}
use Rattle.train_net.specs.Gathered.{IsAhead, AreAhead, AreCovered}
use Rattle.train_net.proofs.Standing.{one_standing, before_by}
use Rattle.train_net.proofs.Filling.{found_used, not_used}

-- ---- use after use

passed_twice : (before : Option Near) (train : ℕ) (o : Option Use)
    → near_by train None (near_by train o before) ≡ near_by train (option_or o None) before
passed_twice before train None = refl
passed_twice before train (Some u) = refl

passed_at : (near : List (Option Near)) (train : ℕ) (u : Use) (p : ℕ) → u.block < length near
    → slice_index_or (slice_set near u.block (Some (record { train = train; one = u }))) p None
    ≡ near_by train (find (λ v. v.block == p) (u ∷ [])) (slice_index_or near p None)
passed_at near train u p l =
    let x : Option Near = Some (record { train = train; one = u }) in
    elim (cases_eq u.block p) [
      | inl e ↦ rw (eq-eqb u.block p e) (get_or-set_at near u.block p x None (sym e) l)
      | inr ne ↦ rw (ne_eqb u.block p ne) (get_or-set_other near u.block p x None (λ e. ne (sym e)))
    ]

-- a place that nobody uses is no use's
none_found : (uses : List Use) (p : ℕ) (o : Option Use) → find (λ v. v.block == p) uses ≡ o → list_any (λ v. v.block == p) uses ≡ false
    → find (λ v. v.block == p) uses ≡ None
none_found uses p None e out = e
none_found uses p (Some u) e out = absurd (both_ways _ out (found_used uses p u e))

pub passed_more : (first near : List (Option Near)) (train : ℕ) (uses : List Use) (k p : ℕ) → AreOfOtherPlaces uses → k < length uses
    → (get_or uses k no_use).block < length near
    → slice_index_or near p None ≡ near_by train (find (λ v. v.block == p) (take k uses)) (slice_index_or first p None)
    → slice_index_or (slice_set near (get_or uses k no_use).block (Some (record { train = train; one = get_or uses k no_use }))) p None
    ≡ near_by train (find (λ v. v.block == p) (take (k + 1) uses)) (slice_index_or first p None)
passed_more first near train uses k p differ l there before =
    let u = get_or uses k no_use in
    let test = λ (v : Use). v.block == p in
    let old = slice_index_or first p None in
    let joined : near_by train (find test (take (k + 1) uses)) old
    ≡ near_by train (option_or (find test (take k uses)) (find test (u ∷ []))) old =
    ap (λ us. near_by train (find test us) old) (take_more uses k no_use l)
    ∙ ap (λ o. near_by train o old) (find-append test (take k uses) (u ∷ [])) in
    passed_at near train u p there
    ∙ ap (near_by train (find test (u ∷ []))) before
    ∙ elim (cases_eq u.block p) [
      | inl e ↦
          let t : (u.block == p) ≡ true = eq-eqb u.block p e in
          let none : find test (take k uses) ≡ None =
          none_found (take k uses) p (find test (take k uses)) refl
          (subst (λ q. list_any (λ (v : Use). v.block == q) (take k uses) ≡ false) e (apart uses k differ l)) in
          rw (none, t) refl
      | inr ne ↦
          let f : (u.block == p) ≡ false = ne_eqb u.block p ne in
          rw f (passed_twice old train (find test (take k uses)))
    ]
    ∙ sym joined

-- ---- row after row

module _ (cut : Cut) (order : List ℕ) (at place : ℕ) where
  pub passed_row : (near : Option Near) (o : Option Use) → use_of (standing cut order at) place ≡ o → IsNear cut order at place near
      → IsNear cut order (at + 1) place (near_by (slice_index order at) o near)
  passed_row None None e none = λ k after before.
      elim (cases_eq k at) [
        | inl same ↦ rw same (not_used (standing cut order at) place e)
        | inr differ ↦ none k after (omega (arith, before, differ))
      ]
  passed_row (Some near) None e is = record {
    position = is.position;
    nearest = record {
      before = omega (arith, is.nearest.before);
      uses = is.nearest.uses;
      none = λ k after before.
          elim (cases_eq k at) [
            | inl same ↦ rw same (not_used (standing cut order at) place e)
            | inr differ ↦ is.nearest.none k after (omega (arith, before, differ))
          ];
    };
    train = is.train;
    one = is.one;
  }
  passed_row near (Some u) e is = record {
    position = at;
    nearest = record {
      before = omega arith;
      uses = found_used (standing cut order at).uses place u e;
      none = λ k after before. absurd (omega (arith, after, before));
    };
    train = refl;
    one = sym (ap (λ o. unwrap_or o no_use) e);
  }

  -- only one stands nearest
  pub one_nearest : (k l : ℕ) → IsNearest cut order place k at → IsNearest cut order place l at → k ≡ l
  one_nearest k l a b =
      elim (cases_order k l) [
        | inl e ↦ e
        | inr other ↦ elim other [
          | inl lt ↦ absurd (both_ways _ (a.none l lt b.before) b.uses)
          | inr gt ↦ absurd (both_ways _ (b.none k gt a.before) a.uses)
        ]
      ]

  -- whoever stands nearest is found
  pub found_nearest : (near : ℕ) → IsNearest cut order place near at → (o : Option Near) → IsNear cut order at place o
      → (one : Near) × (o ≡ Some one) × (one.train ≡ slice_index order near)
  found_nearest near nearest None none = absurd (both_ways _ (none near (omega arith) nearest.before) nearest.uses)
  found_nearest near nearest (Some one) is =
      (one, refl, is.train ∙ ap (λ k. slice_index order k) (one_nearest is.position near is.nearest nearest))

-- ---- the edges of one train

module _ (cut : Cut) (order : List ℕ) (at : ℕ) (near : List (Option Near)) where
  pub edges_are : (edges : List Edge) → AreNearAt cut order at near → All (IsEdge cut (slice_index order at)) edges
      → AreCovered cut (slice_index order at) near edges → AreEdges cut order at edges
  edges_are edges table real covered = record {
    real = real;
    all = λ place k nearest uses.
        let one = found_nearest cut order at place k nearest (slice_index_or near place None) (table place uses) in
        subst (λ i. Any (Covers cut i (slice_index order at) place) edges) one.2 (covered place one.0 uses one.1);
  }

  -- by an order those who stand nearest are ahead
  module _ (sound : IsSoundCut cut) (ordered : IsOrder cut order) (within : at < length order) where
    abbrev j : ℕ
    j = slice_index order at

    lj : j < member_count cut
    lj = below cut order ordered.each_once at 0 within

    is_ahead : (place : ℕ) → uses_place (member cut j) place ≡ true → (o : Option Near) → IsNear cut order at place o
        → IfSome o (IsAhead cut j place)
    is_ahead place uses None none = tt
    is_ahead place uses (Some one) is =
        let k = is.position in
        let i = slice_index order k in
        let lk : k < length order = omega (arith, is.nearest.before, within) in
        let li = below cut order ordered.each_once k 0 lk in
        let differ : i ≢ j = λ e.
        let same = one_standing cut order ordered.each_once k at lk within e in
        omega (arith, same, is.nearest.before) in
        let ahead : precedes (member cut i) (member cut j) place ≡ true =
        elim (one_precedes cut sound i j place li lj differ is.nearest.uses uses) [
          | inl p ↦ p
          | inr back ↦
              let there = place_there cut sound j place lj uses in
              let stand = ordered.before j i lj li (somewhere cut j i place there back) in
              let lt = before_by cut order ordered.each_once j i at k stand within lk refl refl in
              absurd (omega (arith, lt, is.nearest.before))
        ] in
        record {
          there = subst (λ n. n < member_count cut) (sym is.train) li;
          one = is.one ∙ ap (λ n. use_at (member cut n) place) (sym is.train);
          precedes = subst (λ n. precedes (member cut n) (member cut j) place ≡ true) (sym is.train) ahead;
        }

    pub are_ahead : AreNearAt cut order at near → AreAhead cut j near
    are_ahead table place uses = is_ahead place uses (slice_index_or near place None) (table place uses)

-- ---- all trains

-- after the first trains of an order the edges to each of them are there, and the table has who stands nearest
pub record HasEdges (cut : Cut) (order : List ℕ) (n : ℕ) (edges : List (List Edge)) (near : List (Option Near)) : Type 0 where
  pub lists : length edges ≡ member_count cut
  pub places : length near ≡ place_count cut
  pub near_is : (place : ℕ) → place < place_count cut → IsNear cut order n place (slice_index_or near place None)
  pub each : (at : ℕ) → at < n → AreEdges cut order at (edges_to edges (slice_index order at))

module _ (cut : Cut) (order : List ℕ) (sound : IsSoundCut cut) (ordered : IsOrder cut order) where
  pub no_edges_yet : (edges : List (List Edge)) (near : List (Option Near)) → length edges ≡ member_count cut
      → length near ≡ place_count cut → ((place : ℕ) → place < place_count cut → slice_index_or near place None ≡ None)
      → HasEdges cut order 0 edges near
  no_edges_yet edges near lists places none = record {
    lists = lists;
    places = places;
    near_is = λ place l. subst (IsNear cut order 0 place) (sym (none place l)) (λ k after before. absurd (omega (arith, before)));
    each = λ at l. absurd (omega (arith, l));
  }

  module _ (n : ℕ) (ln : n < length order) (edges : List (List Edge)) (near : List (Option Near))
      (has : HasEdges cut order n edges near) where
    abbrev train : ℕ
    train = slice_index order n

    table : AreNearAt cut order n near
    table place uses = has.near_is place (place_there cut sound train place (below cut order ordered.each_once n 0 ln) uses)

    pub next_ahead : AreAhead cut train near
    next_ahead = are_ahead cut order n near sound ordered ln table

    pub next_edges : (to : List Edge) (after : List (Option Near)) → All (IsEdge cut train) to → AreCovered cut train near to
        → length after ≡ length near
        → ((place : ℕ) → place < length near → slice_index_or after place None
        ≡ near_by train (use_of (member cut train) place) (slice_index_or near place None))
        → HasEdges cut order (n + 1) (set edges train to) after
    next_edges to after real covered places passed = record {
      lists = length-set edges train to ∙ has.lists;
      places = places ∙ has.places;
      near_is = λ place l.
          subst (IsNear cut order (n + 1) place) (sym (passed place (omega (arith, l, has.places))))
          (passed_row cut order n place (slice_index_or near place None) (use_of (member cut train) place) refl (has.near_is place l));
      each = λ at l.
          let there = below cut order ordered.each_once n 0 ln in
          elim (cases_eq at n) [
            | inl e ↦
                let is : edges_to (set edges train to) (slice_index order at) ≡ to =
                ap (λ k. edges_to (set edges train to) (slice_index order k)) e
                ∙ get_or-set_same edges train to [] (omega (arith, there, has.lists)) in
                subst (AreEdges cut order at) (sym is)
                (subst (λ k. AreEdges cut order k to) (sym e) (edges_are cut order n near to table real covered))
            | inr ne ↦
                let lt : at < n = omega (arith, l, ne) in
                let differ : slice_index order at ≢ train = λ e.
                ne (one_standing cut order ordered.each_once at n (omega (arith, lt, ln)) ln e) in
                subst (AreEdges cut order at) (sym (get_or-set_other edges train (slice_index order at) to [] differ)) (has.each at lt)
          ];
    }

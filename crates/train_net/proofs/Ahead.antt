-- Edges to a train from those who stand nearest before it at its places.
use Rattle.std.proofs.Common.{◌≡◌, ℕ, ◌<◌, true, List, length, get_or, refl, sym, ap, subst, ◌∙◌}
use Rattle.std.specs.Prelude.{◌-ℤ◌, ◌==◌, Any, Option, None, Some, IfSome, slice_index_or, unwrap_or}
use Rattle.std.specs.Option.{option_map}
use Rattle.std.proofs.lemmas.Bool.{eq-eqb, eqb-true}
use Rattle.std.proofs.lemmas.List.{get_or_default}
use Rattle.std.proofs.lemmas.List.Folds.{list_any_at, Any-from_list_any}
use Rattle.rail_model.specs.declared.stair.Use.{Use}
use Rattle.rail_model.specs.Moment.{IsMoment}
use Rattle.rail_model.proofs.NameOrder.{is_before-itself}
use Rattle.rail_model.proofs.Numbers.{le_from_same}
use Rattle.plan_model.specs.declared.cut.Cut.{Cut}
use Rattle.plan_model.specs.Members.{place_name, place_count, member, member_count, uses_place, use_at, no_use, precedes, headway_at}
use Rattle.plan_model.specs.Cut.{IsSoundCut}
use Rattle.plan_model.proofs.Sound.{differ, use_sound}
use Rattle.plan_model.proofs.Uses.{place_there}
use Rattle.plan_model.proofs.UseFound.{found_at}
use Rattle.train_order.proofs.Users.{users}
use Rattle.train_net.specs.declared.edge.Edge.{Edge}
use Rattle.train_net.specs.declared.near.Near.{Near}
use Rattle.train_net.specs.Net.{IsEdge, Covers}
use Rattle.train_net.specs.Gathered.{edge_of, IsAhead, AreCovered}

module _ (cut : Cut) (sound : IsSoundCut cut) (j : ℕ) (lj : j < member_count cut) where
  abbrev uses : List Use
  uses = (member cut j).uses

  abbrev use_no : ℕ → Use
  use_no k = get_or uses k no_use

  pub use_is : (k : ℕ) → k < length uses → use_at (member cut j) (use_no k).block ≡ use_no k
  use_is k l = ap (λ o. unwrap_or o no_use) (found_at (use_no k).block uses k (differ cut sound j lj) l refl)

  pub is_used : (k : ℕ) → k < length uses → uses_place (member cut j) (use_no k).block ≡ true
  is_used k l = list_any_at (λ u. u.block == (use_no k).block) uses k no_use l (eq-eqb (use_no k).block (use_no k).block refl)

  pub ahead_ends : (place : ℕ) (near : Near) → IsAhead cut j place near → IsMoment near.one.«end»
  ahead_ends place near is =
      let used = (users cut near.train j place is.precedes).0 in
      subst (λ (u : Use). IsMoment u.«end») (sym is.one) (use_sound cut sound near.train is.there place used).ends

  module _ (place : ℕ) (near : Near) (is : IsAhead cut j place near) (u : Use) (block : u.block ≡ place)
      (at : u ≡ use_at (member cut j) place) where
    weight_is : (edge_of cut j u near).weight ≡ headway_at (member cut near.train) (member cut j) place
    weight_is =
        ap (λ (v : Use). (v.«end» -ℤ (member cut near.train).entry) -ℤ (u.start -ℤ (member cut j).entry)) is.one
        ∙ ap (λ (v : Use). ((use_at (member cut near.train) place).«end» -ℤ (member cut near.train).entry)
        -ℤ (v.start -ℤ (member cut j).entry)) at

    pub is_edge : IsEdge cut j (edge_of cut j u near)
    is_edge =
        let used = (users cut near.train j place is.precedes).1 in
        record {
          there = is.there;
          place_there = subst (λ p. p < place_count cut) (sym block) (place_there cut sound j place lj used);
          precedes = subst (λ p. precedes (member cut near.train) (member cut j) p ≡ true) (sym block) is.precedes;
          weight = subst (λ p. (edge_of cut j u near).weight ≡ headway_at (member cut near.train) (member cut j) p) (sym block) weight_is;
        }

    pub covers : Covers cut near.train j place (edge_of cut j u near)
    covers = record {
      from = refl;
      tight = le_from_same _ _ (sym weight_is);
      first = λ e. rw block (is_before-itself (place_name cut place));
    }

  pub next_edge : (k : ℕ) → k < length uses → (o : Option Near) → IfSome o (IsAhead cut j (use_no k).block)
      → IfSome (option_map (edge_of cut j (use_no k)) o) (IsEdge cut j)
  next_edge k l None is = tt
  next_edge k l (Some near) is = is_edge (use_no k).block near is (use_no k) refl (sym (use_is k l))

  pub ends : (o : Option Near) (place : ℕ) → IfSome o (IsAhead cut j place) → IfSome o (λ n. IsMoment n.one.«end»)
  ends None place is = tt
  ends (Some near) place is = ahead_ends place near is

  pub there : (o : Option Near) (place : ℕ) → IfSome o (IsAhead cut j place) → IfSome o (λ n. n.train < member_count cut)
  there None place is = tt
  there (Some near) place is = is.there

  pub next_covers : (k : ℕ) → k < length uses → (o : Option Near) → IfSome o (IsAhead cut j (use_no k).block) → (one : Near)
      → o ≡ Some one → (e : Edge) × (option_map (edge_of cut j (use_no k)) o ≡ Some e) × Covers cut one.train j (use_no k).block e
  next_covers k l None is one e = absurd (cc)
  next_covers k l (Some near) is one e =
      let same : near ≡ one = cc in (
        edge_of cut j (use_no k) near,
        refl,
        subst (λ (n : Near). Covers cut n.train j (use_no k).block (edge_of cut j (use_no k) near)) same
            (covers (use_no k).block near is (use_no k) refl (sym (use_is k l))),
      )

  -- what is covered at each use is covered at each place
  pub at_places : (near : List (Option Near)) (edges : List Edge)
      → ((k : ℕ) (one : Near) → k < length uses → slice_index_or near (use_no k).block None ≡ Some one
      → Any (Covers cut one.train j (use_no k).block) edges)
      → AreCovered cut j near edges
  at_places near edges each place one used found =
      let at = Any-from_list_any (λ (u : Use). u.block == place) uses used in
      let is : use_no at.0 ≡ at.1 = get_or_default uses at.0 no_use at.1 at.2 ∙ at.3 in
      let block : (use_no at.0).block ≡ place = ap (λ (u : Use). u.block) is ∙ eqb-true at.1.block place at.4 in
      subst (λ p. Any (Covers cut one.train j p) edges) block
      (each at.0 one at.2 (subst (λ p. slice_index_or near p None ≡ Some one) (sym block) found))

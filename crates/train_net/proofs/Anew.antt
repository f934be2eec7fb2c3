-- Edges that are made anew, to one train.
use Rattle.std.proofs.Common.{◌≡◌, ℕ, ◌<◌, true, List, length, get_or, refl, sym, ap, subst, ◌∙◌, arith}
use Rattle.std.specs.Prelude.{Option, None, Some, All, IfSome, IsTrue, slice_index, slice_index_or}
use Rattle.std.proofs.lemmas.Bool.{and_from}
use Rattle.std.proofs.lemmas.List.{get_or_default}
use Rattle.rail_model.specs.declared.stair.Use.{Use}
use Rattle.plan_model.specs.declared.cut.Cut.{Cut}
use Rattle.plan_model.specs.Members.{member, member_count, uses_place, use_at, no_use, precedes, comes_before}
use Rattle.plan_model.specs.Cut.{IsSoundCut}
use Rattle.train_order.specs.Visits.{is_earlier}
use Rattle.train_order.proofs.Before.{earlier_is}
use Rattle.train_net.specs.declared.edge.Edge.{Edge}
use Rattle.train_net.specs.declared.near.Near.{Near}
use Rattle.train_net.specs.Net.{IsEdge}
use Rattle.train_net.specs.Near.{IsNear, AreNearAt}
use Rattle.train_net.specs.Gathered.{IsAhead, AreAhead, AreCovered}
use Rattle.train_net.specs.Mending.{AreAnew, comes_ahead}
use Rattle.train_net.proofs.Walking.{edges_are, found_nearest}
use Rattle.train_net.proofs.Ahead.{use_is}
use Rattle.train_net.proofs.Used.{at_used}

module _ (cut : Cut) (order : List ℕ) (there : All (λ i. i < member_count cut) order) (sound : IsSoundCut cut) (at : ℕ)
    (within : at < length order) (near : List (Option Near))
    (table : AreNearAt cut order at near) where
  abbrev j : ℕ
  j = slice_index order at

  abbrev uses : List Use
  uses = (member cut j).uses

  lj : j < member_count cut
  lj = there at 0 within

  -- the uses of a row are those of their places
  own_use : All (λ u. use_at (member cut j) u.block ≡ u) uses
  own_use k d l =
      subst (λ (u : Use). use_at (member cut j) u.block ≡ u) (get_or_default uses k no_use d l) (use_is cut sound j lj k l)

  ahead_at : (place : ℕ) (u : Use) → use_at (member cut j) place ≡ u → uses_place (member cut j) place ≡ true → (o : Option Near)
      → IsNear cut order at place o → comes_ahead o j u ≡ true → IfSome o (IsAhead cut j place)
  ahead_at place u is used None none h = tt
  ahead_at place u is used (Some one) nearest h =
      let k = nearest.position in
      let i = slice_index order k in
      let li : i < member_count cut = there k 0 (omega (arith, nearest.nearest.before, within)) in
      let earlier : is_earlier ((use_at (member cut i) place).start, i) ((use_at (member cut j) place).start, j) ≡ true =
      subst (λ (v : Use). is_earlier ((use_at (member cut i) place).start, i) (v.start, j) ≡ true) (sym is)
      (subst (λ (v : Use). is_earlier (v.start, i) (u.start, j) ≡ true) nearest.one
      (subst (λ n. is_earlier (one.one.start, n) (u.start, j) ≡ true) nearest.train h)) in
      let before : comes_before (use_at (member cut i) place).start (member cut i).name (use_at (member cut j) place).start (member cut j).name
      ≡ true =
      earlier_is cut sound (use_at (member cut i) place).start (use_at (member cut j) place).start i j li lj ∙ earlier in
      let precede : precedes (member cut i) (member cut j) place ≡ true =
      and_from _ _ (and_from (uses_place (member cut i) place) _ nearest.nearest.uses used) before in
      record {
        there = subst (λ n. n < member_count cut) (sym nearest.train) li;
        one = nearest.one ∙ ap (λ n. use_at (member cut n) place) (sym nearest.train);
        precedes = subst (λ n. precedes (member cut n) (member cut j) place ≡ true) (sym nearest.train) precede;
      }

  are_ahead : All (λ u. IsTrue (comes_ahead (slice_index_or near u.block None) j u)) uses → AreAhead cut j near
  are_ahead all place used =
      let P : ℕ → Type 0 = λ p. comes_ahead (slice_index_or near p None) j (use_at (member cut j) p) ≡ true in
      let each : All (λ u. P u.block) uses =
      λ k d l.
      subst (λ (v : Use). comes_ahead (slice_index_or near (get_or uses k d).block None) j v ≡ true) (sym (own_use k d l)) (all k d l) in
      ahead_at place (use_at (member cut j) place) refl used (slice_index_or near place None) (table place used) (at_used P uses each place used)

  pub ahead_by : (found : List (Option Near)) (us : List Use) → found ≡ near → us ≡ uses
      → All (λ u. IsTrue (comes_ahead (slice_index_or found u.block None) j u)) us → AreAhead cut j near
  ahead_by found us is_found is_us all =
      are_ahead
      (subst (λ (vs : List Use). All (λ (u : Use). IsTrue (comes_ahead (slice_index_or near u.block None) j u)) vs) is_us
      (subst (λ (ns : List (Option Near)). All (λ (u : Use). IsTrue (comes_ahead (slice_index_or ns u.block None) j u)) us) is_found all))

  pub anew : (edges : List Edge) → AreAhead cut j near → All (IsEdge cut j) edges → AreCovered cut j near edges
      → AreAnew cut order at edges
  anew edges ahead real covered = record {
    edges_are = edges_are cut order at near edges table real covered;
    follow = λ place k nearest used.
        let one = found_nearest cut order at place k nearest (slice_index_or near place None) (table place used) in
        let is : IsAhead cut j place one.0 = subst (λ (o : Option Near). IfSome o (IsAhead cut j place)) one.1 (ahead place used) in
        subst (λ i. precedes (member cut i) (member cut j) place ≡ true) one.2 is.precedes;
  }

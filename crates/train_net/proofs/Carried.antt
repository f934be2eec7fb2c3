-- Edges that are carried over to a later cut, and a net that is mended.
use Rattle.std.proofs.Common.{◌≡◌, ℕ, ◌<◌, true, List, length, Option, None, Some, inl, inr, refl, sym, ap, ◌∙◌, subst, arith}
use Rattle.std.specs.Prelude.{Any, slice_index}
use Rattle.std.specs.List.{AllZip}
use Rattle.std.specs.List.Sorted.{IsPermutation}
use Rattle.std.specs.Option.{IsSome}
use Rattle.std.proofs.lemmas.Bool.{both_ways, cases_eq, cases_order}
use Rattle.plan_model.specs.declared.cut.CutRow.{CutRow}
use Rattle.plan_model.specs.declared.cut.Cut.{Cut}
use Rattle.plan_model.specs.Members.{member, members, uses_place}
use Rattle.train_net.specs.declared.edge.Edge.{Edge}
use Rattle.train_net.specs.Net.{standing, IsNearest, IsEdge, Covers, AreEdges, edges_to, IsNet}
use Rattle.train_net.specs.Mended.{stood, IsOrigin, AgreeInOrder, IsRenumbered, HasNoneFresh}
use Rattle.train_net.specs.Laws.{CarriedAreEdges, MendedIsNet}
use Rattle.train_net.proofs.Standing.{stands, one_standing, before_by, edge_to}
use Rattle.train_net.proofs.Nearest.{nearest_after}
use Rattle.train_net.proofs.Following.{following_is_order}
use Rattle.train_net.proofs.Zipped.{all_zip, any_zip}

some_of : (o : Option ℕ) → IsSome o → (a : ℕ) × (o ≡ Some a)
some_of None h = absurd (cc)
some_of (Some a) h = (a, refl)

same_some : (a b : ℕ) → Some a ≡ Some b → a ≡ b
same_some a b e = cc

module _ (old new : Cut) (origin : List (Option ℕ)) (is : IsOrigin old new origin) where
  edge_later : (j a : ℕ) → stood origin j ≡ Some a → (e f : Edge) → IsRenumbered origin e f → IsEdge old a e → IsEdge new j f
  edge_later j a kept e f moved edge =
      let from = is.kept f.from e.from moved.from in
      let to = is.kept j a kept in
      record {
        there = from.there;
        place_there = rw (moved.place, is.places) edge.place_there;
        precedes = rw (from.row, to.row, moved.place) edge.precedes;
        weight = rw (moved.weight, from.row, to.row, moved.place) edge.weight;
      }

  covers_later : (i j b a place : ℕ) → stood origin i ≡ Some b → stood origin j ≡ Some a → (e f : Edge) → IsRenumbered origin e f
      → Covers old b a place e → Covers new i j place f
  covers_later i j b a place kept_i kept_j e f moved covers =
      let first = is.kept i b kept_i in
      let to = is.kept j a kept_j in
      let from : stood origin f.from ≡ Some b = moved.from ∙ ap (λ n. Some n) covers.from in
      record {
        from = is.apart f.from i b from kept_i;
        tight = rw (first.row, to.row, moved.weight) covers.tight;
        first = rw (first.row, to.row, moved.weight, moved.place, is.places) covers.first;
      }

  module _ (old_order order : List ℕ) (old_edges : List (List Edge)) (net : IsNet old old_order old_edges)
      (once : IsPermutation (members new) order) (agree : AgreeInOrder origin old_order order) (at : ℕ) (within : at < length order)
      (a : ℕ) (kept : stood origin (slice_index order at) ≡ Some a) where
    -- nobody stood between who uses the place, if it is kept
    never_between : (place near x y m : ℕ) (b : ℕ) → IsNearest new order place near at
        → stood origin (slice_index order near) ≡ Some b → y < length old_order → slice_index old_order x ≡ b
        → slice_index old_order y ≡ a → x < m → m < y → uses_place (standing old old_order m) place ≡ true
        → (f : Edge) → stood origin f.from ≡ Some (slice_index old_order m) → ⊥
    never_between place near x y m b nearest kept_near ly is_x is_y after before uses f kept_f =
        let c = slice_index old_order m in
        let lm : m < length old_order = omega (arith, before, ly) in
        let lx : x < length old_order = omega (arith, after, lm) in
        let row = is.kept f.from c kept_f in
        let s = stands new order once f.from row.there in
        let kept_s : stood origin (slice_index order s.at) ≡ Some c = subst (λ n. stood origin n ≡ Some c) (sym s.is) kept_f in
        let used : uses_place (standing new order s.at) place ≡ true =
        subst (λ n. uses_place (member new n) place ≡ true) (sym s.is) (subst (λ (r : CutRow). uses_place r place ≡ true) (sym row.row) uses) in
        let lnear : near < length order = omega (arith, nearest.before, within) in
        elim (cases_order near s.at) [
          | inl e ↦
              let same : b ≡ c = same_some b c (sym kept_near ∙ subst (λ k. stood origin (slice_index order k) ≡ Some c) (sym e) kept_s) in
              let one = one_standing old old_order net.in_order.each_once x m lx lm (is_x ∙ same) in
              omega (arith, one, after)
          | inr other ↦ elim other [
            | inr gt ↦
                let stand = agree s.at near c b gt lnear kept_s kept_near in
                let lt = before_by old old_order net.in_order.each_once c b m x stand lm lx refl is_x in
                omega (arith, lt, after)
            | inl lt ↦ elim (cases_order s.at at) [
              | inl e ↦
                  let same : a ≡ c = same_some a c (sym kept ∙ subst (λ k. stood origin (slice_index order k) ≡ Some c) e kept_s) in
                  let one = one_standing old old_order net.in_order.each_once y m ly lm (is_y ∙ same) in
                  omega (arith, one, before)
              | inr rest ↦ elim rest [
                | inl below ↦ both_ways _ (nearest.none s.at lt below) used
                | inr above ↦
                    let stand = agree at s.at a c above s.within kept kept_s in
                    let lt = before_by old old_order net.in_order.each_once a c y m stand ly lm is_y refl in
                    omega (arith, lt, before)
              ]
            ]
          ]
        ]

    module _ (edges : List Edge) (moved : AllZip (IsRenumbered origin) (edges_to old_edges a) edges)
        (none_fresh : HasNoneFresh new origin order at) where
      -- who stands nearest in the later order stood nearest before
      covered : (place near : ℕ) → IsNearest new order place near at → uses_place (standing new order at) place ≡ true
          → Any (Covers new (slice_index order near) (slice_index order at) place) edges
      covered place near nearest uses =
          let i = slice_index order near in
          let j = slice_index order at in
          let some = some_of (stood origin i) (none_fresh place near nearest uses) in
          let b = some.0 in
          let stand = agree near at b a nearest.before within some.1 kept in
          let first : uses_place (standing old old_order stand.at) place ≡ true =
          subst (λ n. uses_place (member old n) place ≡ true) (sym stand.one)
          (subst (λ (r : CutRow). uses_place r place ≡ true) (is.kept i b some.1).row nearest.uses) in
          let then : uses_place (standing old old_order stand.next) place ≡ true =
          subst (λ n. uses_place (member old n) place ≡ true) (sym stand.other)
          (subst (λ (r : CutRow). uses_place r place ≡ true) (is.kept j a kept).row uses) in
          let found = nearest_after old old_order place stand.next stand.at first stand.before in
          let m = found.0 in
          let c = slice_index old_order m in
          let any : Any (Covers old c a place) (edges_to old_edges a) =
          subst (λ n. Any (Covers old c n place) (edges_to old_edges n)) stand.other
          ((net.each stand.next stand.within).all place m found.2 then) in
          elim (cases_eq stand.at m) [
            | inl e ↦
                let same : c ≡ b = ap (λ k. slice_index old_order k) (sym e) ∙ stand.one in
                any_zip (IsRenumbered origin) (Covers old b a place) (Covers new i j place)
                (λ e f one covers. covers_later i j b a place some.1 kept e f one covers) (edges_to old_edges a) edges moved
                (subst (λ n. Any (Covers old n a place) (edges_to old_edges a)) same any)
            | inr differ ↦
                let from = any_zip (IsRenumbered origin) (Covers old c a place) (λ (f : Edge). stood origin f.from ≡ Some c)
                (λ e f one covers. one.from ∙ ap (λ n. Some n) covers.from) (edges_to old_edges a) edges moved any in
                absurd (never_between place near stand.at stand.next m b nearest some.1 stand.within stand.one stand.other
                (omega (arith, found.1, differ)) found.2.before found.2.uses from.1 from.4)
          ]

      are_edges : AreEdges new order at edges
      are_edges = record {
        real = all_zip (IsRenumbered origin) (IsEdge old a) (IsEdge new (slice_index order at))
            (λ e f one edge. edge_later (slice_index order at) a kept e f one edge) (edges_to old_edges a) edges moved
            (edge_to old old_order old_edges net a (is.kept (slice_index order at) a kept).before);
        all = covered;
      }

pub carried_are_edges : CarriedAreEdges
carried_are_edges old new origin old_order order old_edges at edges net is once agree within carried =
    are_edges old new origin is old_order order old_edges net once agree at within carried.before carried.kept edges
    carried.renumbered carried.none_fresh

pub mended_is_net : MendedIsNet
mended_is_net old new origin old_order order old_edges edges sound net is mended =
    let ordering = following_is_order new order sound mended.each_once mended.follow in (
      record {
        in_order = ordering.2;
        each = λ at within.
            elim (mended.each at within) [
              | inl anew ↦ anew
              | inr carried ↦
                  carried_are_edges old new origin old_order order.positions old_edges at
                  (edges_to edges (slice_index order.positions at)) net is mended.each_once mended.agree within carried
            ];
      },
      ordering,
    )

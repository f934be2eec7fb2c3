-- Whom a train touches, by the edges to it.
use Rattle.std.proofs.Common.{◌≡◌, ℕ, ◌<◌, true, false, List, length, inl, inr, sym, ap, ◌∙◌, subst, arith}
use Rattle.std.specs.Prelude.{ℤ, ◌+ℤ◌, ◌-ℤ◌, ◌≤ℤ◌, ◌<ℤ◌, Any, slice_index}
use Rattle.std.proofs.lemmas.Bool.{and_parts, cases_eq}
use Rattle.std.proofs.lemmas.Bool.Decides.{Decides-int_eq}
use Rattle.std.proofs.lemmas.Int.{ints}
use Rattle.rail_model.specs.Name.{is_before}
use Rattle.plan_model.specs.declared.cut.Cut.{Cut}
use Rattle.plan_model.specs.Members.{place_name, member, member_count, uses_place, use_at, precedes}
use Rattle.plan_model.specs.Cut.{IsSoundCut}
use Rattle.plan_model.specs.Schedule.{entry_at, start_by, end_by, touches}
use Rattle.plan_model.proofs.Uses.{takes_time, place_there}
use Rattle.train_order.proofs.Apart.{below}
use Rattle.train_order.proofs.Users.{users, somewhere}
use Rattle.train_net.specs.declared.edge.Edge.{Edge}
use Rattle.train_net.specs.Net.{standing, Covers, edges_to, IsNet}
use Rattle.train_net.specs.Read.{by_edge, AreSolved}
use Rattle.train_net.proofs.Nearest.{nearest_after}
use Rattle.train_net.proofs.Solved.{nearest_clear, apart}

-- ---- moments

-- a train doesn't touch one before which another has left that came after it
not_through : (first start stop a x last : ℤ) → first ≡ last → first ≤ℤ (start -ℤ a +ℤ x) → start <ℤ stop
    → (stop -ℤ a +ℤ x) ≤ℤ last → ⊥
not_through first start stop a x last touch before time after = omega (arith, ints)

as_tight : (stop a start b x y w : ℤ) → (stop -ℤ a +ℤ x) ≡ (start -ℤ b +ℤ y) → ((stop -ℤ a) -ℤ (start -ℤ b)) ≤ℤ w
    → (x +ℤ w) ≤ℤ y → ((stop -ℤ a) -ℤ (start -ℤ b)) ≡ w
as_tight stop a start b x y w touch tight after = omega (arith, ints)

enters_as : (stop a start b x y w : ℤ) → (stop -ℤ a +ℤ x) ≡ (start -ℤ b +ℤ y) → ((stop -ℤ a) -ℤ (start -ℤ b)) ≡ w
    → y ≡ (x +ℤ w)
enters_as stop a start b x y w touch same = omega (arith, ints)

-- an edge as which a train enters that touches another at a place: it is from that one, and the place's name isn't before
-- the edge's
pub record IsTouchEdge (cut : Cut) (entries : List ℤ) (i j place : ℕ) (e : Edge) : Type 0 where
  pub from : e.from ≡ i
  pub tight : entry_at entries j ≡ by_edge entries e
  pub first : is_before (place_name cut place) (place_name cut e.place) ≡ false

module _ (cut : Cut) (order : List ℕ) (edges : List (List Edge)) (entries : List ℤ) (floor : ℕ → ℤ) (sound : IsSoundCut cut)
    (net : IsNet cut order edges) (solved : AreSolved cut floor edges entries) where
  tight_edge : (i j place : ℕ) → j < member_count cut → end_by cut entries i place ≡ start_by cut entries j place
      → Any (Covers cut i j place) (edges_to edges j) → Any (IsTouchEdge cut entries i j place) (edges_to edges j)
  tight_edge i j place lj touch (k, e, l, is, covers) =
      let before : by_edge entries e ≤ℤ entry_at entries j =
      subst (λ f. by_edge entries f ≤ℤ entry_at entries j) is ((solved j lj).after k e l) in
      let after : (entry_at entries i +ℤ e.weight) ≤ℤ entry_at entries j =
      subst (λ n. (entry_at entries n +ℤ e.weight) ≤ℤ entry_at entries j) covers.from before in
      let a = member cut i in
      let b = member cut j in
      let same = as_tight (use_at a place).«end» a.entry (use_at b place).start b.entry (entry_at entries i) (entry_at entries j)
      e.weight touch covers.tight after in
      let enters = enters_as (use_at a place).«end» a.entry (use_at b place).start b.entry (entry_at entries i) (entry_at entries j)
      e.weight touch same in (
        k,
        e,
        l,
        is,
        record {
          from = covers.from;
          tight = enters ∙ ap (λ n. entry_at entries n +ℤ e.weight) (sym covers.from);
          first = covers.first same;
        },
      )

  pub touch_edge : (i j place : ℕ) → i < member_count cut → j < member_count cut → touches cut entries i j place ≡ true
      → Any (IsTouchEdge cut entries i j place) (edges_to edges j)
  touch_edge i j place li lj t =
      let parts = and_parts (precedes (member cut i) (member cut j) place) _ t in
      let touch : end_by cut entries i place ≡ start_by cut entries j place =
      (Decides-int_eq (end_by cut entries i place) (start_by cut entries j place)).0 parts.1 in
      let both = users cut i j place parts.0 in
      let there = place_there cut sound j place lj both.1 in
      let stand = net.in_order.before i j li lj (somewhere cut i j place there parts.0) in
      let x = stand.at in
      let y = stand.next in
      let first : uses_place (standing cut order x) place ≡ true =
      subst (λ k. uses_place (member cut k) place ≡ true) (sym stand.one) both.0 in
      let then : uses_place (standing cut order y) place ≡ true =
      subst (λ k. uses_place (member cut k) place ≡ true) (sym stand.other) both.1 in
      let found = nearest_after cut order place y x first stand.before in
      let m = found.0 in
      let c = slice_index order m in
      let any : Any (Covers cut c j place) (edges_to edges j) =
      subst (λ n. Any (Covers cut c n place) (edges_to edges n)) stand.other ((net.each y stand.within).all place m found.2 then) in
      elim (cases_eq x m) [
        | inl e ↦
            let same : c ≡ i = ap (λ k. slice_index order k) (sym e) ∙ stand.one in
            tight_edge i j place lj touch (subst (λ n. Any (Covers cut n j place) (edges_to edges j)) same any)
        | inr differ ↦
            let lm : m < length order = omega (arith, found.2.before, stand.within) in
            let row = member cut c in
            let before = apart cut order edges entries floor sound net solved place m x m (omega arith) (omega (arith, found.1, differ)) lm
            first found.2.uses in
            let after = nearest_clear cut order edges entries floor sound net solved place m y stand.within found.2 then in
            absurd (not_through (end_by cut entries i place) (use_at row place).start (use_at row place).«end» row.entry
            (entry_at entries c) (start_by cut entries j place) touch
            (subst (λ k. end_by cut entries k place ≤ℤ start_by cut entries c place) stand.one before)
            (takes_time cut sound c place (below cut order net.in_order.each_once m 0 lm) found.2.uses)
            (subst (λ k. end_by cut entries c place ≤ℤ start_by cut entries k place) stand.other after))
      ]

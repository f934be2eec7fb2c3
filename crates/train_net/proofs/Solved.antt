-- Entries of which each is as early as its floor and the edges to its train allow are the least schedule.
use Rattle.std.proofs.Common.{◌≡◌, ℕ, zero, suc, ◌+◌, ◌<◌, ◌≤◌, true, List, length, inl, inr, zero-add, sym, ◌∙◌, subst, arith}
use Rattle.std.specs.Prelude.{ℤ, ◌+ℤ◌, ◌-ℤ◌, ◌≤ℤ◌, ◌<ℤ◌, Bool, slice_index}
use Rattle.std.specs.List.{list_any}
use Rattle.std.proofs.lemmas.Bool.{and_from, cases_eq}
use Rattle.std.proofs.lemmas.Bool.Decides.{Decides-int_eq}
use Rattle.std.proofs.lemmas.Int.{ints}
use Rattle.std.proofs.lemmas.List.FromFn.{length-range_with_len, get_or-range_with_len}
use Rattle.std.proofs.lemmas.List.Folds.{list_any_at}
use Rattle.plan_model.specs.declared.cut.Cut.{Cut}
use Rattle.plan_model.specs.Members.{places, place_count, member, member_count, uses_place, use_at, precedes}
use Rattle.plan_model.specs.Cut.{IsSoundCut}
use Rattle.plan_model.specs.Schedule.{entry_at, start_by, end_by, touches}
use Rattle.plan_model.specs.Laws.{IsTiedFrom}
use Rattle.plan_model.proofs.Uses.{takes_time, place_there}
use Rattle.plan_model.proofs.Tied.{tied_is_least}
use Rattle.train_order.proofs.Apart.{below}
use Rattle.train_order.proofs.Users.{users, somewhere}
use Rattle.train_net.specs.declared.edge.Edge.{Edge}
use Rattle.train_net.specs.Net.{standing, IsNearest, IsEdge, IsNet}
use Rattle.train_net.specs.Read.{by_edge, AreSolved}
use Rattle.train_net.specs.Laws.{SolvedIsLeast}
use Rattle.train_net.proofs.Standing.{edge_to}
use Rattle.train_net.proofs.Nearest.{nearest_after}

-- ---- moments

pub clear_by : (stop a start b x y w : ℤ) → ((stop -ℤ a) -ℤ (start -ℤ b)) ≤ℤ w → (x +ℤ w) ≤ℤ y
    → (stop -ℤ a +ℤ x) ≤ℤ (start -ℤ b +ℤ y)
clear_by stop a start b x y w tight after = omega (arith, ints)

pub touch_by : (stop a start b x y w : ℤ) → w ≡ ((stop -ℤ a) -ℤ (start -ℤ b)) → y ≡ (x +ℤ w)
    → (stop -ℤ a +ℤ x) ≡ (start -ℤ b +ℤ y)
touch_by stop a start b x y w weight at = omega (arith, ints)

clear_through : (first start stop a x last : ℤ) → first ≤ℤ (start -ℤ a +ℤ x) → start <ℤ stop
    → (stop -ℤ a +ℤ x) ≤ℤ last → first ≤ℤ last
clear_through first start stop a x last before time after = omega (arith, ints)

-- ---- places

-- what holds at a place of the cut holds at one of its places
at_some_place : (cut : Cut) (test : ℕ → Bool) (place : ℕ) → place < place_count cut → test place ≡ true
    → list_any test (places cut) ≡ true
at_some_place cut test place there h =
    let n = place_count cut in
    list_any_at test (places cut) place 0 (omega (arith, there, length-range_with_len 0 n))
    (subst (λ p. test p ≡ true) (sym (get_or-range_with_len 0 n place 0 there ∙ zero-add place)) h)

module _ (cut : Cut) (order : List ℕ) (edges : List (List Edge)) (entries : List ℤ) (floor : ℕ → ℤ) (sound : IsSoundCut cut)
    (net : IsNet cut order edges)
    (solved : AreSolved cut floor edges entries) where
  -- the nearest before a train has left as it starts
  pub nearest_clear : (place near at : ℕ) → at < length order → IsNearest cut order place near at
      → uses_place (standing cut order at) place ≡ true
      → end_by cut entries (slice_index order near) place ≤ℤ start_by cut entries (slice_index order at) place
  nearest_clear place near at within nearest uses =
      let i = slice_index order near in
      let j = slice_index order at in
      let covered = (net.each at within).all place near nearest uses in
      let e = covered.1 in
      let covers = covered.4 in
      let any = (solved j (below cut order net.in_order.each_once at 0 within)).after covered.0 e covered.2 in
      let after : by_edge entries e ≤ℤ entry_at entries j = subst (λ f. by_edge entries f ≤ℤ entry_at entries j) covered.3 any in
      let from : (entry_at entries i +ℤ e.weight) ≤ℤ entry_at entries j =
      subst (λ k. (entry_at entries k +ℤ e.weight) ≤ℤ entry_at entries j) covers.from after in
      clear_by (use_at (member cut i) place).«end» (member cut i).entry (use_at (member cut j) place).start (member cut j).entry _ _ e.weight
      covers.tight from

  -- and so has whoever stands farther before
  pub apart : (place gap near at : ℕ) → at ≤ near + gap → near < at → at < length order
      → uses_place (standing cut order near) place ≡ true → uses_place (standing cut order at) place ≡ true
      → end_by cut entries (slice_index order near) place ≤ℤ start_by cut entries (slice_index order at) place
  apart place zero near at close before within first uses = absurd (omega (arith, close, before))
  apart place (suc gap) near at close before within first uses =
      let found = nearest_after cut order place at near first before in
      let m = found.0 in
      let nearest = found.2 in
      let last = nearest_clear place m at within nearest uses in
      elim (cases_eq near m) [
        | inl same ↦ rw same last
        | inr differ ↦
            let further : near < m = omega (arith, found.1, differ) in
            let there : m < length order = omega (arith, nearest.before, within) in
            let c = slice_index order m in
            let row = member cut c in
            clear_through _ (use_at row place).start (use_at row place).«end» row.entry (entry_at entries c) _
            (apart place gap near m (omega (arith, close, nearest.before)) further there first nearest.uses)
            (takes_time cut sound c place (below cut order net.in_order.each_once m 0 there) nearest.uses) last
      ]

  pub keeps_order : (i j place : ℕ) → i < member_count cut → j < member_count cut
      → precedes (member cut i) (member cut j) place ≡ true
      → end_by cut entries i place ≤ℤ start_by cut entries j place
  keeps_order i j place li lj h =
      let both = users cut i j place h in
      let there = place_there cut sound j place lj both.1 in
      let stands = net.in_order.before i j li lj (somewhere cut i j place there h) in
      let first : uses_place (standing cut order stands.at) place ≡ true =
      subst (λ k. uses_place (member cut k) place ≡ true) (sym stands.one) both.0 in
      let then : uses_place (standing cut order stands.next) place ≡ true =
      subst (λ k. uses_place (member cut k) place ≡ true) (sym stands.other) both.1 in
      let clear = apart place stands.next stands.at stands.next (omega arith) stands.before stands.within first then in
      subst (λ k. end_by cut entries k place ≤ℤ start_by cut entries j place) stands.one
      (subst (λ k. end_by cut entries (slice_index order stands.at) place ≤ℤ start_by cut entries k place) stands.other clear)

  -- a train touches another where it enters as an edge from it allows
  pub touches_by : (j : ℕ) (e : Edge) → IsEdge cut j e → entry_at entries j ≡ by_edge entries e
      → touches cut entries e.from j e.place ≡ true
  touches_by j e edge at =
      let a = member cut e.from in
      let b = member cut j in
      let touch : end_by cut entries e.from e.place ≡ start_by cut entries j e.place =
      touch_by (use_at a e.place).«end» a.entry (use_at b e.place).start b.entry _ _ e.weight edge.weight at in
      and_from (precedes a b e.place) _ edge.precedes
      ((Decides-int_eq (end_by cut entries e.from e.place) (start_by cut entries j e.place)).1 touch)

  tied : (j : ℕ) → j < member_count cut → IsTiedFrom cut floor entries j
  tied j lj =
      elim ((solved j lj).tied) [
        | inl e ↦ inl e
        | inr (k, e, l, is, at) ↦
            let edge : IsEdge cut j e = subst (IsEdge cut j) is (edge_to cut order edges net j lj k e l) in
            inr (e.from, edge.there, at_some_place cut (touches cut entries e.from j) e.place edge.place_there (touches_by j e edge at))
      ]

pub solved_is_least : SolvedIsLeast
solved_is_least cut floor order edges entries sound none net count solved =
    tied_is_least cut floor entries none
    (record {
      count = count;
      from = λ i l. (solved i l).from;
      order = keeps_order cut order edges entries floor sound net solved;
    })
    (tied cut order edges entries floor sound net solved)

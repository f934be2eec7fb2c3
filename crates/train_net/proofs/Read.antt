-- What is read off a net places all trains.
use Rattle.std.proofs.Common.{◌≡◌, ℕ, zero, suc, ◌+◌, ◌<◌, ◌≤◌, true, false, List, length, ◌==◌, Option, None, Some, inl, inr, refl, sym, ap, ◌∙◌, subst, arith}
use Rattle.std.specs.Prelude.{ℤ, ◌+ℤ◌, ◌-ℤ◌, ◌≤ℤ◌, nat_lt, slice_index, slice_index_or}
use Rattle.std.proofs.lemmas.Bool.{and_cases, and_parts, both_ways, cases_order, eq-eqb, ltb-false, or_parts}
use Rattle.std.proofs.lemmas.Int.{ints}
use Rattle.rail_model.specs.Moment.{IsMoment}
use Rattle.rail_model.specs.Name.{is_before}
use Rattle.rail_model.proofs.NameOrder.{not_before-both}
use Rattle.plan_model.specs.declared.cut.Cut.{Cut}
use Rattle.plan_model.specs.declared.answer.Tie.{Tie}
use Rattle.plan_model.specs.declared.answer.Tie.TheVariants.{Start, After}
use Rattle.plan_model.specs.Members.{place_name, place_count, comes_first, is_among, member, member_count, uses_place, use_at, precedes}
use Rattle.plan_model.specs.Cut.{IsSoundCut}
use Rattle.plan_model.specs.Schedule.{entry_at, start_by, end_by, touches}
use Rattle.plan_model.proofs.Sound.{use_sound, usable}
use Rattle.train_order.proofs.Apart.{below}
use Rattle.train_order.proofs.Users.{user_there, users, somewhere}
use Rattle.train_order.proofs.Among.{stands_at, among_at}
use Rattle.train_placing.specs.declared.last.Last.{Last}
use Rattle.train_placing.specs.Placing.{IsFloor, IsFirstTouch, IsTie, IsLeft, latest}
use Rattle.train_placing.proofs.Moments.{floor_latest}
use Rattle.train_net.specs.declared.edge.Edge.{Edge}
use Rattle.train_net.specs.Net.{standing, IsEdge, edges_to, IsNet}
use Rattle.train_net.specs.Read.{by_edge, AreSolved, IsFirstTight, IsTieBy, IsLeftAlong}
use Rattle.train_net.specs.Laws.{ReadArePlaced}
use Rattle.train_net.proofs.Standing.{stands, one_standing, edge_to}
use Rattle.train_net.proofs.Solved.{apart, keeps_order, touches_by}
use Rattle.train_net.proofs.Touched.{touch_edge}

-- a floor, and what an edge allows, are within the limits
allowed_within : (stop a start b y w x : ℤ) (p n : ℕ) → w ≡ ((stop -ℤ a) -ℤ (start -ℤ b)) → IsMoment stop → IsMoment a
    → IsMoment start → IsMoment b → y ≤ℤ latest (p + 1) → x ≡ (y +ℤ w) → p < n → x ≤ℤ latest (n + 1)
allowed_within stop a start b y w x p n weight c d e f before at lt = omega
    (arith, ints, weight, c.before, d.after, e.after, f.before, before, at, lt)

module _ (cut : Cut) (order : List ℕ) (edges : List (List Edge)) (entries : List ℤ) (floor : ℕ → ℤ) (sound : IsSoundCut cut)
    (net : IsNet cut order edges) (solved : AreSolved cut floor edges entries) where
  -- ---- ties

  module _ (j : ℕ) (lj : j < member_count cut) (i place : ℕ)
      (first : IsFirstTight cut (edges_to edges j) entries (entry_at entries j) i place) where
    -- no pair that the train touches comes before, by name
    later_touch : (k p : ℕ) → k < member_count cut → touches cut entries k j p ≡ true
        → (e : Edge) × (e.from ≡ k) × (is_before (place_name cut p) (place_name cut e.place) ≡ false)
        × (comes_first cut (k, e.place) (i, place) ≡ false)
    later_touch k p lk t =
        let some = touch_edge cut order edges entries floor sound net solved k j p lk lj t in
        let e = some.1 in
        let touch = some.4 in
        let out : comes_first cut (e.from, e.place) (i, place) ≡ false =
        subst (λ (f : Edge). entry_at entries j ≡ by_edge entries f → comes_first cut (f.from, f.place) (i, place) ≡ false) some.3
        (first.first some.0 e some.2) touch.tight in
        (e, touch.from, touch.first, subst (λ n. comes_first cut (n, e.place) (i, place) ≡ false) touch.from out)

    one_there : (i < member_count cut) × (place < place_count cut) × (touches cut entries i j place ≡ true)
    one_there =
        let one = first.one in
        let e = one.1 in
        let edge : IsEdge cut j e = subst (IsEdge cut j) one.3 (edge_to cut order edges net j lj one.0 e one.2) in
        let touch = touches_by cut order edges entries floor sound net solved j e edge one.4.tight in (
          subst (λ k. k < member_count cut) one.4.from edge.there,
          subst (λ p. p < place_count cut) one.4.place edge.place_there,
          subst (λ p. touches cut entries i j p ≡ true) one.4.place
              (subst (λ k. touches cut entries k j e.place ≡ true) one.4.from touch),
        )

    first_touch : (entry_at entries j ≡ floor j → ⊥) → IsFirstTouch cut floor entries j i place
    first_touch later = record {
      later = later;
      there = one_there.0;
      place_there = one_there.1;
      touch = one_there.2;
      first = λ k p t.
          let lk = user_there cut k p (users cut k j p (and_parts (precedes (member cut k) (member cut j) p) _ t).0).0 in
          let other = later_touch k p lk t in
          let least : i ≤ k = ltb-false k i (or_parts (nat_lt k i) _ other.3).0 in
          omega (arith, least);
      first_place = λ p t.
          let other = later_touch i p one_there.0 t in
          let e = other.0 in
          let name : is_before (place_name cut e.place) (place_name cut place) ≡ false =
          elim (and_cases (i == i) (is_before (place_name cut e.place) (place_name cut place)) (or_parts (nat_lt i i) _ other.3).1) [
            | inl differ ↦ absurd (both_ways (i == i) differ (eq-eqb i i refl))
            | inr out ↦ out
          ] in
          not_before-both (place_name cut p) (place_name cut e.place) (place_name cut place) other.2 name;
    }

  tie_is : (j : ℕ) → j < member_count cut → (tie : Tie)
      → IsTieBy cut (floor j) (edges_to edges j) entries (entry_at entries j) tie → IsTie cut floor entries j tie
  tie_is j lj Start h = h
  tie_is j lj (After i place) h = first_touch j lj i place h.1 h.0

  -- ---- last uses

  left_is : (place : ℕ) (last : Option Last) → IsLeftAlong cut order entries place last → IsLeft cut entries order place last
  left_is place None none = λ i h.
      let s = stands_at order i h in
      subst (λ k. uses_place (member cut k) place ≡ false) s.is (none s.at s.within)
  left_is place (Some last) along = record {
    there = among_at order along.at last.train along.within (sym along.train);
    uses = subst (λ k. uses_place (member cut k) place ≡ true) (sym along.train) along.uses;
    until = along.until;
    others = λ i h uses differ.
        let s = stands_at order i h in
        let used : uses_place (standing cut order s.at) place ≡ true =
        subst (λ k. uses_place (member cut k) place ≡ true) (sym s.is) uses in
        elim (cases_order s.at along.at) [
          | inl e ↦ absurd (differ (sym s.is ∙ ap (λ k. slice_index order k) e ∙ sym along.train))
          | inr other ↦ elim other [
            | inr gt ↦ absurd (both_ways _ (along.none s.at gt s.within) used)
            | inl lt ↦
                let clear = apart cut order edges entries floor sound net solved place along.at s.at along.at (omega arith) lt along.within
                used along.uses in
                subst (λ k. end_by cut entries k place ≤ℤ start_by cut entries last.train place) s.is
                (subst (λ k. end_by cut entries (slice_index order s.at) place ≤ℤ start_by cut entries k place) (sym along.train) clear)
          ]
        ];
  }

  -- ---- the latest entries

  entry_latest : ((j : ℕ) → j < member_count cut → IsFloor (floor j)) → (most at : ℕ) → at < most → at < length order
      → entry_at entries (slice_index order at) ≤ℤ latest (at + 1)
  entry_latest floors zero at few within = absurd (omega (arith, few))
  entry_latest floors (suc most) at few within =
      let j = slice_index order at in
      let lj = below cut order net.in_order.each_once at 0 within in
      elim ((solved j lj).tied) [
        | inl e ↦ floor_latest at (floor j) (entry_at entries j) (floors j lj) e
        | inr (k, e, l, is, enters) ↦
            let edge : IsEdge cut j e = subst (IsEdge cut j) is (edge_to cut order edges net j lj k e l) in
            let i = e.from in
            let uses = users cut i j e.place edge.precedes in
            let stand = net.in_order.before i j edge.there lj (somewhere cut i j e.place edge.place_there edge.precedes) in
            let same = one_standing cut order net.in_order.each_once stand.next at stand.within within stand.other in
            let lt : stand.at < at = omega (arith, stand.before, same) in
            let before = entry_latest floors most stand.at (omega (arith, lt, few)) (omega (arith, lt, within)) in
            let a = member cut i in
            let b = member cut j in
            allowed_within (use_at a e.place).«end» a.entry (use_at b e.place).start b.entry (entry_at entries i) e.weight (entry_at entries j)
            stand.at at edge.weight (use_sound cut sound i edge.there e.place uses.0).ends (usable cut sound i edge.there).entry
            (use_sound cut sound j lj e.place uses.1).starts (usable cut sound j lj).entry
            (subst (λ m. entry_at entries m ≤ℤ latest (stand.at + 1)) stand.one before) enters lt
      ]

later_still : (n m : ℕ) (t : ℤ) → t ≤ℤ latest (n + 1) → n < m → t ≤ℤ latest m
later_still n m t h lt = omega (arith, ints, h, lt)

pub read_are_placed : ReadArePlaced
read_are_placed cut floor order edges entries ties last sound net read =
    let solved = read.solved in
    let among : (i : ℕ) → is_among order i ≡ true → i < member_count cut =
    λ i h. let s = stands_at order i h in
    subst (λ k. k < member_count cut) s.is (below cut order net.in_order.each_once s.at 0 s.within) in
    record {
      entries_count = read.entries_count;
      ties_count = read.ties_count;
      places = read.places;
      there = among;
      from = λ i h. (solved i (among i h)).from;
      latest = λ i h.
          let s = stands_at order i h in
          let by = entry_latest cut order edges entries floor sound net solved read.floors (s.at + 1) s.at (omega arith) s.within in
          later_still s.at (length order) (entry_at entries i) (subst (λ k. entry_at entries k ≤ℤ latest (s.at + 1)) s.is by) s.within;
      order = λ i j place hi hj p.
          keeps_order cut order edges entries floor sound net solved i j place (among i hi) (among j hj) p;
      closed = λ i j place li hj p.
          let s = stands cut order net.in_order.each_once i li in
          among_at order s.at i s.within s.is;
      tied = λ j h.
          tie_is cut order edges entries floor sound net solved j (among j h) (slice_index_or ties j Start) (read.tied j (among j h));
      left = λ place l.
          left_is cut order edges entries floor sound net solved place (slice_index_or last place None) (read.left place l);
    }

-- The ends of an order: the last use of each place, and how long each block is kept.
use Rattle.std.proofs.Common.{◌≡◌, ℕ, ◌+◌, ◌-◌, ◌<◌, ◌≤◌, true, false, List, [], ◌∷◌, ◌++◌, length, map, reverse, get_or, sym, ap, subst, ◌∙◌, arith, zero-add, length-append}
use Rattle.std.specs.Prelude.{ℤ, ◌+ℤ◌, ◌-ℤ◌, Option, None, Some, All, IfSome, slice_index, slice_index_or}
use Rattle.std.specs.Option.{option_map}
use Rattle.std.specs.List.{range_with_len}
use Rattle.std.proofs.lemmas.Int.{ints}
use Rattle.std.proofs.lemmas.List.{get_or-reverse, length-reverse, get_or-map, get_or_default}
use Rattle.std.proofs.lemmas.List.Elements.{All-from_get_or}
use Rattle.std.proofs.lemmas.List.FromFn.{map-range_with_len_more, length-range_with_len, get_or-range_with_len}
use Rattle.rail_model.proofs.Lists.{map_itself}
use Rattle.rail_model.specs.declared.stair.Use.{Use}
use Rattle.rail_model.specs.Moment.{IsMoment}
use Rattle.plan_model.specs.declared.cut.Cut.{Cut}
use Rattle.plan_model.specs.Members.{place_count, block_count, member, member_count, uses_place, use_at}
use Rattle.plan_model.specs.Schedule.{entry_at, start_by, end_by, window_floor}
use Rattle.plan_model.specs.Cut.{IsSoundCut}
use Rattle.plan_model.proofs.Sound.{use_sound}
use Rattle.train_order.specs.Ordering.{IsOrder}
use Rattle.train_order.proofs.Apart.{below}
use Rattle.train_placing.specs.Placing.{IsFloor}
use Rattle.occupancy_rate.specs.declared.spans.Span.{Span}
use Rattle.occupancy_rate.specs.Spans.{AreSpans}
use Rattle.train_net.specs.declared.edge.Edge.{Edge}
use Rattle.train_net.specs.declared.near.Near.{Near}
use Rattle.train_net.specs.Net.{IsNet}
use Rattle.train_net.specs.Near.{IsNear, AreNear}
use Rattle.train_net.specs.Read.{AreSolved, IsLeftAlong, IsSpanAlong}
use Rattle.train_net.specs.Reading.{IsReal, last_by, span_by}
use Rattle.train_net.proofs.Spanned.{along_are_spans}

-- ---- all places

pub range_more : (n : ℕ) → range_with_len 0 (n + 1) ≡ range_with_len 0 n ++ n ∷ []
range_more n = sym (map_itself (range_with_len 0 (n + 1))) ∙ map-range_with_len_more (λ k. k) 0 n n (omega arith)
    ∙ ap (λ ks. ks ++ n ∷ []) (map_itself (range_with_len 0 n))

pub all_below : (n : ℕ) → All (λ p. p < n) (range_with_len 0 n)
all_below n = All-from_get_or (λ p. p < n) (range_with_len 0 n) 0 (λ k l.
    let lk : k < n = omega (arith, l, length-range_with_len 0 n) in
    omega (arith, lk, get_or-range_with_len 0 n k 0 lk))

-- ---- an order from its end

pub back_at : (order : List ℕ) (k : ℕ) → k < length order → slice_index (reverse order) (length order - 1 - k) ≡ slice_index order k
back_at order k l =
    get_or-reverse order (length order - 1 - k) 0 (omega (arith, l))
    ∙ ap (λ i. slice_index order i) (let e : length order - 1 - (length order - 1 - k) ≡ k = omega (arith, l) in e)

pub all_back : (n : ℕ) (order : List ℕ) → All (λ i. i < n) order → All (λ i. i < n) (reverse order)
all_back n order all k d l =
    let lk : k < length order = omega (arith, l, length-reverse order) in
    subst (λ i. i < n) (sym (get_or-reverse order k d lk)) (all (length order - 1 - k) d (omega (arith, lk)))

-- ---- who is found

module _ (cut : Cut) (order : List ℕ) (there : All (λ i. i < member_count cut) order) (at : ℕ) (within : at ≤ length order) where
  -- at all places
  pub at_place : (near : List (Option Near)) → AreNear cut order at (range_with_len 0 (place_count cut)) near → (place : ℕ)
      → place < place_count cut → IsNear cut order at place (slice_index_or near place None)
  at_place near are place l =
      let n = place_count cut in
      let is : get_or (range_with_len 0 n) place 0 ≡ place = get_or-range_with_len 0 n place 0 l ∙ zero-add place in
      subst (λ p. IsNear cut order at p (slice_index_or near p None)) is
      (are place 0 (omega (arith, l, length-range_with_len 0 n)))

  pub is_real : IsSoundCut cut → (place : ℕ) (o : Option Near) → IsNear cut order at place o → IfSome o (IsReal cut)
  is_real sound place None none = tt
  is_real sound place (Some one) is =
      let k = is.position in
      let li = there k 0 (omega (arith, is.nearest.before, within)) in
      let used = use_sound cut sound (slice_index order k) li place is.nearest.uses in
      record {
        there = subst (λ n. n < member_count cut) (sym is.train) li;
        start = subst (λ (u : Use). IsMoment u.start) (sym is.one) used.starts;
        ends = subst (λ (u : Use). IsMoment u.«end») (sym is.one) used.ends;
      }

  pub all_real : IsSoundCut cut → (near : List (Option Near)) → length near ≡ place_count cut
      → AreNear cut order at (range_with_len 0 (place_count cut)) near → All (λ n. IfSome n (IsReal cut)) near
  all_real sound near places are k d l =
      subst (λ (o : Option Near). IfSome o (IsReal cut)) (get_or_default near k None d l)
      (is_real sound k (slice_index_or near k None) (at_place near are k (omega (arith, l, places))))

-- ---- last uses

module _ (cut : Cut) (order : List ℕ) (entries : List ℤ) (place : ℕ) where
  pub left_along : (o : Option Near) → IsNear cut order (length order) place o
      → IsLeftAlong cut order entries place (option_map (last_by cut entries) o)
  left_along None none = λ k l. none k (omega arith) l
  left_along (Some one) is = record {
    at = is.position;
    within = is.nearest.before;
    train = is.train;
    uses = is.nearest.uses;
    until =
        ap (λ (u : Use). u.«end» -ℤ (member cut one.train).entry +ℤ entry_at entries one.train)
        (is.one ∙ ap (λ n. use_at (member cut n) place) (sym is.train));
    none = is.nearest.none;
  }

  -- ---- how long a place is kept

  pub span_along : (first last : Option Near) → IsNear cut (reverse order) (length order) place first
      → IsNear cut order (length order) place last → IsSpanAlong cut order entries place (span_by cut entries first last)
  span_along None last none is = λ k l.
      subst (λ i. uses_place (member cut i) place ≡ false) (back_at order k l)
      (none (length order - 1 - k) (omega arith) (omega (arith, l)))
  span_along (Some first) None is none = λ k l. none k (omega arith) l
  span_along (Some first) (Some last) begins ends =
      let n = length order in
      let p = begins.position in
      let lp : p < n = begins.nearest.before in
      let at : slice_index (reverse order) p ≡ slice_index order (n - 1 - p) = get_or-reverse order p 0 lp in
      record {
        first = n - 1 - p;
        last = ends.position;
        first_within = omega (arith, lp);
        last_within = ends.nearest.before;
        first_uses = subst (λ i. uses_place (member cut i) place ≡ true) at begins.nearest.uses;
        last_uses = ends.nearest.uses;
        none_before = λ k l.
            let lk : k < n = omega (arith, l, lp) in
            subst (λ i. uses_place (member cut i) place ≡ false) (back_at order k lk)
            (begins.nearest.none (n - 1 - k) (omega (arith, l, lp)) (omega (arith, lk)));
        none_after = ends.nearest.none;
        start =
            ap (λ (u : Use). u.start -ℤ (member cut first.train).entry +ℤ entry_at entries first.train)
            (begins.one ∙ ap (λ i. use_at (member cut i) place) (sym begins.train))
            ∙ ap (λ i. start_by cut entries i place) (begins.train ∙ at);
        stop =
            ap (λ (u : Use). u.«end» -ℤ (member cut last.train).entry +ℤ entry_at entries last.train)
            (ends.one ∙ ap (λ i. use_at (member cut i) place) (sym ends.train))
            ∙ ap (λ i. end_by cut entries i place) ends.train;
      }

-- ---- all places

pub window_is_floor : (cut : Cut) → IsSoundCut cut → (j : ℕ) → IsFloor (window_floor cut j)
window_is_floor cut sound j = record { after = omega (arith, ints); before = let s = sound.window_start in omega (arith, ints, s) }

pub all_left : (cut : Cut) (order : List ℕ) → IsOrder cut order → (entries : List ℤ) (near : List (Option Near)) → length near ≡ place_count cut
    → AreNear cut order (length order) (range_with_len 0 (place_count cut)) near → (place : ℕ) → place < place_count cut
    → IsLeftAlong cut order entries place (slice_index_or (map (option_map (last_by cut entries)) near) place None)
all_left cut order ordered entries near places are place l =
    subst (IsLeftAlong cut order entries place)
    (sym (get_or-map (option_map (last_by cut entries)) near place None None (omega (arith, l, places))))
    (left_along cut order entries place (slice_index_or near place None)
    (at_place cut order (below cut order ordered.each_once) (length order) (omega arith) near are place l))

module _ (cut : Cut) (sound : IsSoundCut cut) (order : List ℕ) (edges : List (List Edge)) (net : IsNet cut order edges) (entries : List ℤ)
    (solved : AreSolved cut (window_floor cut) edges entries) where
  members_there : All (λ i. i < member_count cut) order
  members_there = below cut order net.in_order.each_once

  pub spans_are : (first last : List (Option Near)) (spans : List (Option Span))
      → AreNear cut (reverse order) (length (reverse order)) (range_with_len 0 (place_count cut)) first
      → AreNear cut order (length order) (range_with_len 0 (place_count cut)) last → length spans ≡ block_count cut
      → ((block : ℕ) → block < block_count cut → slice_index_or spans block None
      ≡ span_by cut entries (slice_index_or first block None) (slice_index_or last block None))
      → AreSpans cut entries spans
  spans_are first last spans firsts lasts count each =
      along_are_spans cut (window_floor cut) order edges entries spans sound net solved count
      (λ block l.
      let there : block < place_count cut = omega (arith, l, length-append cut.section.blocks cut.connections) in
      let long = length-reverse order in
      subst (IsSpanAlong cut order entries block) (sym (each block l))
      (span_along cut order entries block (slice_index_or first block None) (slice_index_or last block None)
      (subst (λ n. IsNear cut (reverse order) n block (slice_index_or first block None)) long
      (at_place cut (reverse order) (all_back (member_count cut) order members_there) (length (reverse order)) (omega arith) first firsts block there))
      (at_place cut order members_there (length order) (omega arith) last lasts block there)))

-- Spans of stairways: the uses in a section are those in the span's part.
use Rattle.std.proofs.Common.{◌≡◌, ℕ, ◌+◌, ◌-◌, ◌<◌, ◌≤◌, Bool, false, ltb, min, List, [], ◌∷◌, ◌++◌, length, map, get_or, take, drop, All, Option, Some, None, refl, sym, ap, ◌∙◌, subst, inl, inr, arith}
use Rattle.std.specs.Prelude.{filter, slice_get, IfSome}
use Rattle.std.specs.Option.{option_and_then}
use Rattle.std.proofs.lemmas.Bool.{cases_lt, le-ltb}
use Rattle.std.proofs.Math.ListN.{get_or-append}
use Rattle.std.proofs.lemmas.List.{length-append, length-map, length-drop, length-take-le, get_or_push, get_or-map, get_or-take, get_or-drop, map-append, take-append-drop, append-nil}
use Rattle.std.proofs.lemmas.List.Elements.{filter-append, All-map, All-take, All-drop}
use Rattle.std.proofs.lemmas.Option.{get_or_from_slice_get}
use Rattle.rail_model.specs.declared.stair.Use.{Use}
use Rattle.rail_model.proofs.Places.{filter_none}
use Rattle.section_cut.specs.declared.spans.BlockLists.{BlockLists}
use Rattle.section_cut.specs.declared.spans.BlockRange.{BlockRange}
use Rattle.section_cut.specs.Positions.{with_position, uses_in}
use Rattle.section_cut.specs.Spans.{AreListSpans, AreOver, AreSpans, IsOver, IsSpan, KeepsLists, blocks_of, part_of}

-- ---- the lists

-- a list more, which has the next number
pub lists_more : (lists : List (List ℕ)) (list : List ℕ) → KeepsLists lists (lists ++ list ∷ [])
lists_more lists list uses number over = record {
  there = omega (arith, over.there, length-append lists (list ∷ []));
  same = get_or-append lists (list ∷ []) [] number over.there ∙ over.same;
}

pub over_last : (lists : List (List ℕ)) (list : List ℕ) (uses : List Use) (number : ℕ) → number ≡ length lists → list ≡ blocks_of uses
    → IsOver (lists ++ list ∷ []) uses number
over_last lists list uses number is same = record {
  there = omega (arith, is, length-append lists (list ∷ []));
  same = get_or_push lists list [] number (sym is) ∙ same;
}

keeps_over : (old new : List (List ℕ)) → KeepsLists old new → (uses : List Use) (o : Option ℕ) → IfSome o (IsOver old uses) → IfSome o (IsOver new uses)
keeps_over old new keeps uses None over = tt
keeps_over old new keeps uses (Some number) over = keeps uses number over

-- a stairway more
pub over_more : (all : List (List Use)) (uses : List Use) (old new : BlockLists) (number : Option ℕ) → KeepsLists old.lists.items new.lists.items
    → new.numbers.items ≡ old.numbers.items ++ number ∷ [] → IfSome number (IsOver new.lists.items uses) → AreOver all old → AreOver (all ++ uses ∷ []) new
over_more all uses old new number keeps grown over before =
    let lists = new.lists.items in
    let numbers = old.numbers.items in record {
      count = omega (arith, ap length grown, length-append numbers (number ∷ []), length-append all (uses ∷ []), before.count);
      each = λ n below. elim (cases_lt n (length all)) [
        | inl lt ↦
            rw (grown, get_or-append numbers (number ∷ []) None n (omega (arith, lt, before.count)), get_or-append all (uses ∷ []) [] n lt)
            (keeps_over old.lists.items lists keeps (get_or all n []) (get_or numbers n None) (before.each n lt))
        | inr ge ↦
            let last : n ≡ length all = omega (arith, ge, below, length-append all (uses ∷ [])) in
            rw (grown, get_or_push numbers number None n (omega (arith, last, before.count)), get_or_push all uses [] n (sym last)) over
      ];
    }

-- ---- the spans

-- one of a list more
pub list_spans_more : (positions : List ℕ) (blocks : ℕ) (lists : List (List ℕ)) (spans new : List BlockRange) (span : BlockRange) (n : ℕ) → new ≡ spans ++ span ∷ []
    → IsSpan positions blocks (get_or lists n []) span → length spans ≡ n
    → ((k : ℕ) (d : BlockRange) → k < n → IsSpan positions blocks (get_or lists k []) (get_or spans k d))
    → (k : ℕ) (d : BlockRange) → k < n + 1 → IsSpan positions blocks (get_or lists k []) (get_or new k d)
list_spans_more positions blocks lists spans new span n grown one count each k d below =
    let Here : ℕ → BlockRange → Type 0 = λ j s. IsSpan positions blocks (get_or lists j []) s in
    subst (λ ss. Here k (get_or ss k d)) (sym grown)
    (elim (cases_lt k n) [
      | inl lt ↦ subst (Here k) (sym (get_or-append spans (span ∷ []) d k (omega (arith, lt, count)))) (each k d lt)
      | inr ge ↦
          let last : n ≡ k = omega (arith, ge, below) in
          subst (Here k) (sym (get_or_push spans span d k (omega (arith, count, last)))) (subst (λ j. Here j span) last one)
    ])

-- those of the lists are those of the stairways over them
module _ (positions : List ℕ) (blocks : ℕ) (lists : List (List ℕ)) (by_list : List BlockRange) (are : AreListSpans positions blocks lists by_list) where
  by_span : (uses : List Use) (k : ℕ) → IsOver lists uses k → (o : Option BlockRange) → o ≡ slice_get by_list k → IfSome o (IsSpan positions blocks (blocks_of uses))
  by_span uses k over None e = tt
  by_span uses k over (Some span) e =
      subst (IsSpan positions blocks (blocks_of uses)) (get_or_from_slice_get by_list k span span (sym e))
      (subst (λ ls. IsSpan positions blocks ls (get_or by_list k span)) over.same (are k span over.there))

  by_number : (uses : List Use) (o : Option ℕ) → IfSome o (IsOver lists uses)
      → IfSome (option_and_then (slice_get by_list) o) (IsSpan positions blocks (blocks_of uses))
  by_number uses None over = tt
  by_number uses (Some k) over = by_span uses k over (slice_get by_list k) refl

  pub spans_are : (all : List (List Use)) (over : BlockLists) → over.lists.items ≡ lists → AreOver all over → (spans : List (Option BlockRange))
      → spans ≡ map (option_and_then (slice_get by_list)) over.numbers.items → AreSpans positions blocks all spans
  spans_are all over own listed spans is n below =
      let test = option_and_then (slice_get by_list) in
      let numbers = over.numbers.items in
      rw (is, get_or-map test numbers n None None (omega (arith, below, listed.count)))
      (by_number (get_or all n []) (get_or numbers n None)
      (subst (λ ls. IfSome (get_or numbers n None) (IsOver ls (get_or all n []))) own (listed.each n below)))

-- ---- the part

module _ (positions : List ℕ) (blocks : ℕ) where
  abbrev inside : Use → Bool
  inside u = ltb u.block blocks

  uses_in_append : (xs ys : List Use) → uses_in positions blocks (xs ++ ys) ≡ uses_in positions blocks xs ++ uses_in positions blocks ys
  uses_in_append xs ys =
      ap (filter inside) (map-append (with_position positions) xs ys)
      ∙ filter-append inside (map (with_position positions) xs) (map (with_position positions) ys)

  none_in : (uses : List Use) → All (λ (u : Use). blocks ≤ get_or positions u.block 0) uses → uses_in positions blocks uses ≡ []
  none_in uses out =
      filter_none inside (map (with_position positions) uses)
      (All-map (λ (u : Use). inside u ≡ false) (with_position positions) uses
      (λ k d l. le-ltb (get_or positions (get_or uses k d).block 0) blocks (out k d l)))

  module _ (span : BlockRange) (uses : List Use) (is : IsSpan positions blocks (blocks_of uses) span) where
    abbrev to : ℕ
    to = min span.to (length uses)

    abbrev from : ℕ
    from = min span.from to

    -- a place that isn't in the span
    apart : (j : ℕ) (d : Use) → j < length uses → ((span.from ≤ j) × (j < span.to) → ⊥) → blocks ≤ get_or positions (get_or uses j d).block 0
    apart j d l out = elim (cases_lt (get_or positions (get_or uses j d).block 0) blocks) [
      | inl lt ↦
          let block = get_or-map (λ (u : Use). u.block) uses j d 0 l in
          absurd (out (is j (omega (arith, l, length-map uses (λ (u : Use). u.block))) (rw block lt)))
      | inr ge ↦ ge
    ]

    front : uses_in positions blocks (take from uses) ≡ []
    front = none_in (take from uses)
        (λ k d l.
        let here : k < from = omega (arith, l, length-take-le from uses (omega arith)) in
        rw (get_or-take from uses k d here) (apart k d (omega (arith, here)) (λ in_span. absurd (omega (arith, here, in_span.0)))))

    back : uses_in positions blocks (drop (to - from) (drop from uses)) ≡ []
    back = none_in (drop (to - from) (drop from uses))
        (λ k d l.
        let long = length-drop (to - from) (drop from uses) in
        let j = from + (to - from + k) in
        let there : j < length uses = omega (arith, l, long, length-drop from uses) in
        rw (get_or-drop (to - from) (drop from uses) k d, get_or-drop from uses (to - from + k) d)
        (apart j d there (λ in_span. absurd (omega (arith, there, in_span.1)))))

    one_part : uses_in positions blocks (take (to - from) (drop from uses)) ≡ uses_in positions blocks uses
    one_part =
        let middle = take (to - from) (drop from uses) in
        let rest = drop (to - from) (drop from uses) in
        sym (ap (uses_in positions blocks) (sym (take-append-drop from uses) ∙ ap (λ us. take from uses ++ us) (sym (take-append-drop (to - from) (drop from uses))))
        ∙ uses_in_append (take from uses) (middle ++ rest)
        ∙ rw (front, uses_in_append middle rest, back) (append-nil (uses_in positions blocks middle)))

  pub part_in : (span : Option BlockRange) (uses : List Use) → IfSome span (IsSpan positions blocks (blocks_of uses))
      → uses_in positions blocks (part_of span uses) ≡ uses_in positions blocks uses
  part_in None uses is = refl
  part_in (Some span) uses is = one_part span uses is

pub part_all : (P : Use → Type 0) (span : Option BlockRange) (uses : List Use) → All P uses → All P (part_of span uses)
part_all P None uses each = each
part_all P (Some span) uses each =
    let to = min span.to (length uses) in
    All-take P (to - min span.from to) (drop (min span.from to) uses) (All-drop P (min span.from to) uses each)

-- The occupancy time and the busiest block, from the spans of all blocks.
use Rattle.std.proofs.Common.{◌≡◌, ℕ, ◌<◌, max, Bool, true, false, ◌&&◌, List, [], ◌∷◌, ◌++◌, ◌+◌, length, map, inl, inr, ◌∙◌, refl, sym, ap, subst, arith, length-append}
use Rattle.std.specs.Prelude.{◌==◌, ℤ, Option, None, slice_index_or, fold, filter, if◌then◌else◌}
use Rattle.std.specs.List.{range_with_len}
use Rattle.std.proofs.lemmas.Bool.{cases_Bool, or_left, or_right, eq-eqb}
use Rattle.std.proofs.lemmas.List.{ext_get_or, append-nil}
use Rattle.std.proofs.lemmas.List.Elements.{filter-append}
use Rattle.std.proofs.lemmas.Simd.{map-map}
use Rattle.std.proofs.lemmas.List.FromFn.{length-map-range_with_len, get_or-map-range_with_len}
use Rattle.rail_model.proofs.Lists.{range_more}
use Rattle.plan_model.specs.declared.cut.Cut.{Cut}
use Rattle.plan_model.specs.Members.{blocks, block_count, first_by_name, first_with, AnswersFirst}
use Rattle.plan_model.specs.Cut.{IsSoundCut}
use Rattle.plan_model.specs.Answer.{used_blocks, time_kept, occupancy, busiest}
use Rattle.plan_model.proofs.MemberTests.{has, in_range, filter-has}
use Rattle.plan_model.proofs.FirstWith.{is_first, one_more}
use Rattle.occupancy_rate.specs.declared.spans.Span.{Span}
use Rattle.occupancy_rate.specs.Spans.{is_used, span_of, AreSpans, time_of, lasts, lasting}

-- what is 0 where a test fails adds nothing to a greatest number
greatest_filter : (f g : ℕ → ℕ) (test : ℕ → Bool) (a : ℕ) (some : List ℕ)
    → ((i : ℕ) → test i ≡ true → f i ≡ g i) → ((i : ℕ) → test i ≡ false → f i ≡ 0)
    → fold max a (map f some) ≡ fold max a (map g (filter test some))
greatest_filter f g test a [] same none = refl
greatest_filter f g test a (i ∷ some) same none =
    elim (cases_Bool (test i)) [
      | inl e ↦ rw (e, same i e) (greatest_filter f g test (max a (g i)) some same none)
      | inr e ↦
          let stays : max a (f i) ≡ a = omega (arith, none i e) in
          ap (λ x. fold max x (map f some)) stays ∙ rw e (greatest_filter f g test a some same none)
    ]

-- a test that only those that pass another can pass
filter_both : (both first next : ℕ → Bool) (some : List ℕ)
    → ((i : ℕ) → has some i ≡ true → both i ≡ (first i && next i)) → filter both some ≡ filter next (filter first some)
filter_both both first next [] is = refl
filter_both both first next (i ∷ some) is =
    let rest = filter_both both first next some (λ k h. is k (or_right (i == k) (has some k) h)) in
    let here : both i ≡ (first i && next i) = is i (or_left (i == i) (has some i) (eq-eqb i i refl)) in
    elim (cases_Bool (first i)) [
      | inr e ↦ rw (here, e) rest
      | inl e ↦ rw (here, e) (elim (cases_Bool (next i)) [
        | inl t ↦ rw t (ap (λ xs. i ∷ xs) rest)
        | inr f ↦ rw f rest
      ])
    ]

list_is : (f : ℕ → Option Span) (spans : List (Option Span))
    → ((b : ℕ) → b < length spans → slice_index_or spans b None ≡ f b) → spans ≡ map f (range_with_len 0 (length spans))
list_is f spans each =
    ext_get_or None spans (map f (range_with_len 0 (length spans))) (sym (length-map-range_with_len f 0 (length spans)))
    (λ i l. each i l ∙ sym (get_or-map-range_with_len f 0 (length spans) i i None l (omega arith)))

module _ (cut : Cut) (entries : List ℤ) (spans : List (Option Span)) (are : AreSpans cut entries spans) where
  used_time : (b : ℕ) → is_used cut b ≡ true → time_of (span_of cut entries b) ≡ time_kept cut entries b
  used_time b h = rw h refl

  unused_time : (b : ℕ) → is_used cut b ≡ false → time_of (span_of cut entries b) ≡ 0
  unused_time b h = rw h refl

  pub times_are : fold max 0 (map time_of spans) ≡ occupancy cut entries
  times_are =
      ap (λ ks. fold max 0 (map time_of ks)) (list_is (span_of cut entries) spans (λ b l. are.each b (omega (arith, l, are.count)))
      ∙ ap (λ n. map (span_of cut entries) (range_with_len 0 n)) are.count)
      ∙ ap (fold max 0) (map-map time_of (span_of cut entries) (blocks cut))
      ∙ greatest_filter (λ b. time_of (span_of cut entries b)) (time_kept cut entries) (is_used cut) 0 (blocks cut)
      used_time unused_time

  abbrev longest : ℕ → List ℕ
  longest time = filter (λ b. time_kept cut entries b == time) (used_blocks cut)

  lasts_is : (time b : ℕ) → lasts time (span_of cut entries b) ≡ (is_used cut b && (time_kept cut entries b == time))
  lasts_is time b =
      elim (cases_Bool (is_used cut b)) [
        | inl e ↦ rw e refl
        | inr e ↦ rw e refl
      ]

  lasting_is : (time : ℕ) → lasting spans time ≡ longest time
  lasting_is time =
      ap (λ n. filter (λ b. lasts time (slice_index_or spans b None)) (range_with_len 0 n)) are.count
      ∙ filter_both (λ b. lasts time (slice_index_or spans b None)) (is_used cut) (λ b. time_kept cut entries b == time) (blocks cut)
      (λ b h. let l = in_range 0 (block_count cut) b h in
      ap (lasts time) (are.each b (omega (arith, l))) ∙ lasts_is time b)

  pub busiest_is : IsSoundCut cut → (time : ℕ) → time ≡ occupancy cut entries → (best : Option ℕ)
      → AnswersFirst cut (lasting spans time) best → best ≡ busiest cut entries
  busiest_is sound time is best first =
      sym (ap (λ some. first_by_name cut some)
      (sym (lasting_is time ∙ ap longest is)) ∙ is_first cut sound (lasting spans time) best (λ c h.
      let l = in_range 0 (length spans) c (filter-has (λ b. lasts time (slice_index_or spans b None)) (range_with_len 0 (length spans)) c h).0 in
      omega (arith, l, are.count, length-append cut.section.blocks cut.connections)) first)

-- one block more
pub block_more : (cut : Cut) (test : ℕ → Bool) (n : ℕ) (best : Option ℕ)
    → AnswersFirst cut (filter test (range_with_len 0 n)) best
    → AnswersFirst cut (filter test (range_with_len 0 (n + 1))) (if test n then first_with cut best n else best)
block_more cut test n best first =
    let before = filter test (range_with_len 0 n) in
    let more : filter test (range_with_len 0 (n + 1)) ≡ before ++ filter test (n ∷ []) =
    ap (filter test) (range_more 0 n n (omega arith)) ∙ filter-append test (range_with_len 0 n) (n ∷ []) in
    subst (λ some. AnswersFirst cut some (if test n then first_with cut best n else best)) (sym more)
    (elim (cases_Bool (test n)) [
      | inl e ↦ rw e (one_more cut before n best first)
      | inr e ↦ rw e (subst (λ some. AnswersFirst cut some best) (sym (append-nil before)) first)
    ])

-- When the spans of blocks start: with the first start of their uses.
use Rattle.std.proofs.Common.{◌≡◌, ℕ, ◌<◌, true, List, length, inl, inr, refl, sym, ap, subst, ◌∙◌, arith}
use Rattle.std.specs.Prelude.{ℤ, pos, ◌-ℤ◌, ◌+ℤ◌, ◌≤ℤ◌, ◌^◌, Option, None, All}
use Rattle.std.proofs.lemmas.Bool.{cases_Bool}
use Rattle.std.proofs.lemmas.Int.{ints}
use Rattle.std.proofs.lemmas.List.Elements.{All-from_get_or, All-get_or}
use Rattle.plan_model.specs.declared.cut.Cut.{Cut}
use Rattle.plan_model.specs.Members.{block_count, member, member_count, uses_place, use_at}
use Rattle.plan_model.specs.Cut.{IsBounded, IsMoment, IsSoundCut}
use Rattle.plan_model.specs.Schedule.{entry_at, start_by, end_at}
use Rattle.plan_model.specs.Answer.{users, first_start}
use Rattle.plan_model.proofs.MemberTests.{some_member, has_any, has-range}
use Rattle.plan_model.proofs.Users.{is_user, user}
use Rattle.plan_model.proofs.Greatest.{below_each, least_within}
use Rattle.plan_model.proofs.Sound.{use_sound, usable}
use Rattle.occupancy_rate.specs.declared.spans.Span.{Span}
use Rattle.occupancy_rate.specs.Spans.{is_used, span_of, AreSpans}
use Rattle.path_fill.specs.Search.{start_of, kept_to, kept_by, StartsNear, IsNearEnd, IsGreatest}

near_start : (start planned entry : ℤ) → IsMoment start → IsMoment planned → IsBounded entry
    → IsNearEnd (start -ℤ planned +ℤ entry)
near_start start planned entry s p e = record {
  after = omega (arith, ints, s.after, p.before, e.after);
  before = omega (arith, ints, s.before, p.after, e.before);
}

module _ (cut : Cut) (sound : IsSoundCut cut) (entries : List ℤ) (count : length entries ≡ member_count cut)
    (bounded : All IsBounded entries) where
  near_by : (i block : ℕ) → i < member_count cut → uses_place (member cut i) block ≡ true
      → IsNearEnd (start_by cut entries i block)
  near_by i block l u =
      near_start (use_at (member cut i) block).start (member cut i).entry (entry_at entries i)
      (use_sound cut sound i l block u).starts (usable cut sound i l).entry
      (All-get_or IsBounded entries i (pos 0) (omega (arith, l, count)) bounded)

  near_first : (block one : ℕ) → one < member_count cut → uses_place (member cut one) block ≡ true
      → IsNearEnd (first_start cut entries block)
  near_first block one l u =
      let some = is_user cut one block l u in
      let f : ℕ → ℤ = λ i. start_by cut entries i block in
      let low = least_within f (pos 0 -ℤ pos (2 ^ 51)) (users cut block) one some
      (λ i h. let v = user cut i block h in (near_by i block v.0 v.1).after) in
      record {
        after = low;
        before = omega (arith, ints, below_each f (users cut block) one some, (near_by one block l u).before);
      }

  near_span : (block : ℕ) → StartsNear (span_of cut entries block)
  near_span block =
      elim (cases_Bool (is_used cut block)) [
        | inl used ↦
            let one = some_member cut (λ i. uses_place (member cut i) block) used in
            rw used (near_first block one.0 one.1 one.2)
        | inr not ↦ rw not tt
      ]

  pub near : (spans : List (Option Span)) → AreSpans cut entries spans → All StartsNear spans
  near spans are =
      All-from_get_or StartsNear spans None (λ b l.
      subst StartsNear (sym (are.each b (omega (arith, l, are.count)))) (near_span b))

-- the span of a block that a member uses starts with the first start
starts_first : (cut : Cut) (entries : List ℤ) (block : ℕ) (span : Option Span) → span ≡ span_of cut entries block
    → is_used cut block ≡ true → start_of span ≡ first_start cut entries block
starts_first cut entries block span is used = ap start_of is ∙ rw used refl

pub by_first : (cut : Cut) (entries : List ℤ) (spans : List (Option Span)) (r block : ℕ) (entry : ℤ)
    → AreSpans cut entries spans → r < member_count cut → block < block_count cut
    → uses_place (member cut r) block ≡ true → kept_by cut r spans entry block ≡ kept_to cut r entries entry block
by_first cut entries spans r block entry are there l u =
    let used = has_any (λ i. uses_place (member cut i) block) _ r (has-range (member_count cut) r there) u in
    ap (λ x. end_at (member cut r) entry block -ℤ x) (starts_first cut entries block _ (are.each block l) used)

-- so the greatest of these times is that from the first starts
pub from_first : (cut : Cut) (entries : List ℤ) (spans : List (Option Span)) (r : ℕ) (entry best : ℤ)
    → AreSpans cut entries spans → r < member_count cut
    → IsGreatest (uses_place (member cut r)) (kept_by cut r spans entry) (block_count cut) (pos 0) best
    → IsGreatest (uses_place (member cut r)) (kept_to cut r entries entry) (block_count cut) (pos 0) best
from_first cut entries spans r entry best are there is = record {
  above = is.above;
  each = λ k l u. subst (λ x. x ≤ℤ best) (by_first cut entries spans r k entry are there l u) (is.each k l u);
  reached =
      elim is.reached [
        | inl none ↦ inl none
        | inr (m, l, u, e) ↦ inr (m, l, u, e ∙ by_first cut entries spans r m entry are there l u)
      ];
}

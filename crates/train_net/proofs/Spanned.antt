-- How long a block is kept, by the first and the last in an order who use it.
use Rattle.std.proofs.Common.{◌≡◌, ℕ, ◌<◌, true, false, List, length, Option, None, Some, inl, inr, refl, sym, ap, ◌∙◌, subst, arith}
use Rattle.std.specs.Prelude.{All, ℤ, ◌+ℤ◌, ◌-ℤ◌, ◌≤ℤ◌, ◌<ℤ◌, slice_index, slice_index_or}
use Rattle.std.proofs.lemmas.Bool.{both_ways, cases_order, false_from_ne_true}
use Rattle.std.proofs.lemmas.Int.{ints}
use Rattle.rail_model.proofs.Numbers.{le_both_ways, le_from_same}
use Rattle.plan_model.specs.declared.cut.Cut.{Cut}
use Rattle.plan_model.specs.Members.{member, member_count, members, uses_place, use_at}
use Rattle.plan_model.specs.Cut.{IsSoundCut}
use Rattle.plan_model.specs.Schedule.{entry_at, start_by, end_by}
use Rattle.plan_model.specs.Answer.{users, first_start, last_end}
use Rattle.plan_model.proofs.Closing.{starts_before}
use Rattle.plan_model.proofs.MemberTests.{has, has-range, has_any}
use Rattle.plan_model.proofs.Users.{user_there, user, is_user}
use Rattle.plan_model.proofs.Uses.{takes_time}
use Rattle.plan_model.proofs.Greatest.{above_each, greatest_within, below_each, least_within}
use Rattle.occupancy_rate.specs.declared.spans.Span.{Span}
use Rattle.occupancy_rate.specs.Spans.{is_used, span_of}
use Rattle.train_order.proofs.Apart.{below}
use Rattle.train_order.proofs.Find.{find_some}
use Rattle.train_net.specs.declared.edge.Edge.{Edge}
use Rattle.train_net.specs.Net.{standing, IsNet}
use Rattle.train_net.specs.Read.{AreSolved, IsSpannedAlong, IsSpanAlong}
use Rattle.train_net.specs.Laws.{AlongAreSpans}
use Rattle.train_net.proofs.Standing.{stands}
use Rattle.train_net.proofs.Solved.{apart}

-- ---- moments

ends_no_earlier : (first start stop a x : ℤ) → first ≤ℤ (start -ℤ a +ℤ x) → start <ℤ stop → first ≤ℤ (stop -ℤ a +ℤ x)
ends_no_earlier first start stop a x before time = omega (arith, ints)

module _ (cut : Cut) (order : List ℕ) (edges : List (List Edge)) (entries : List ℤ) (floor : ℕ → ℤ) (sound : IsSoundCut cut)
    (net : IsNet cut order edges) (solved : AreSolved cut floor edges entries) (block : ℕ) where
  there : All (λ i. i < member_count cut) order
  there = below cut order net.in_order.each_once

  time : (k : ℕ) → k < length order → uses_place (standing cut order k) block ≡ true
      → (use_at (standing cut order k) block).start <ℤ (use_at (standing cut order k) block).«end»
  time k l uses = takes_time cut sound (slice_index order k) block (there k 0 l) uses

  module _ (span : Span) (along : IsSpannedAlong cut order entries block span) where
    abbrev first : ℕ
    first = slice_index order along.first

    abbrev last : ℕ
    last = slice_index order along.last

    first_user : has (users cut block) first ≡ true
    first_user = is_user cut first block (there along.first 0 along.first_within) along.first_uses

    last_user : has (users cut block) last ≡ true
    last_user = is_user cut last block (there along.last 0 along.last_within) along.last_uses

    from_first : (i : ℕ) → has (users cut block) i ≡ true → start_by cut entries first block ≤ℤ start_by cut entries i block
    from_first i h =
        let u = user cut i block h in
        let s = stands cut order net.in_order.each_once i u.0 in
        let uses : uses_place (standing cut order s.at) block ≡ true =
        subst (λ k. uses_place (member cut k) block ≡ true) (sym s.is) u.1 in
        elim (cases_order along.first s.at) [
          | inl e ↦ le_from_same _ _ (ap (λ k. start_by cut entries k block) (ap (λ k. slice_index order k) e ∙ s.is))
          | inr other ↦ elim other [
            | inr gt ↦ absurd (both_ways _ (along.none_before s.at gt) uses)
            | inl lt ↦
                let row = member cut first in
                let clear = apart cut order edges entries floor sound net solved block s.at along.first s.at (omega arith) lt s.within
                along.first_uses uses in
                subst (λ k. start_by cut entries first block ≤ℤ start_by cut entries k block) s.is
                (starts_before (use_at row block).start (use_at row block).«end» row.entry (entry_at entries first) _
                (time along.first along.first_within along.first_uses) clear)
          ]
        ]

    to_last : (i : ℕ) → has (users cut block) i ≡ true → end_by cut entries i block ≤ℤ end_by cut entries last block
    to_last i h =
        let u = user cut i block h in
        let s = stands cut order net.in_order.each_once i u.0 in
        let uses : uses_place (standing cut order s.at) block ≡ true =
        subst (λ k. uses_place (member cut k) block ≡ true) (sym s.is) u.1 in
        elim (cases_order s.at along.last) [
          | inl e ↦ le_from_same _ _ (ap (λ k. end_by cut entries k block) (sym s.is ∙ ap (λ k. slice_index order k) e))
          | inr other ↦ elim other [
            | inr gt ↦ absurd (both_ways _ (along.none_after s.at gt s.within) uses)
            | inl lt ↦
                let row = member cut last in
                let clear = apart cut order edges entries floor sound net solved block along.last s.at along.last (omega arith) lt
                along.last_within uses along.last_uses in
                subst (λ k. end_by cut entries k block ≤ℤ end_by cut entries last block) s.is
                (ends_no_earlier _ (use_at row block).start (use_at row block).«end» row.entry (entry_at entries last) clear
                (time along.last along.last_within along.last_uses))
          ]
        ]

    first_is : first_start cut entries block ≡ start_by cut entries first block
    first_is =
        le_both_ways (first_start cut entries block) (start_by cut entries first block)
        (below_each (λ i. start_by cut entries i block) (users cut block) first first_user)
        (least_within (λ i. start_by cut entries i block) (start_by cut entries first block) (users cut block) first first_user from_first)

    last_is : last_end cut entries block ≡ end_by cut entries last block
    last_is =
        le_both_ways (last_end cut entries block) (end_by cut entries last block)
        (greatest_within (λ i. end_by cut entries i block) (end_by cut entries last block) (users cut block) last last_user to_last)
        (above_each (λ i. end_by cut entries i block) (users cut block) last last_user)

    used : is_used cut block ≡ true
    used =
        has_any (λ k. uses_place (member cut k) block) (members cut) first
        (has-range (member_count cut) first (there along.first 0 along.first_within)) along.first_uses

  span_is : (span : Option Span) → IsSpanAlong cut order entries block span → span ≡ span_of cut entries block
  span_is None none =
      let out : is_used cut block ≡ false =
      false_from_ne_true (is_used cut block) (λ h.
      let one = find_some (λ i. uses_place (member cut i) block) (members cut) h in
      let s = stands cut order net.in_order.each_once one.0 (user_there cut one.0 block one.3) in
      both_ways (uses_place (standing cut order s.at) block) (none s.at s.within)
      (subst (λ k. uses_place (member cut k) block ≡ true) (sym s.is) one.3)) in
      rw out refl
  span_is (Some span) along =
      rw (used span along, first_is span along, last_is span along, ← along.start, ← along.stop) refl

pub along_are_spans : AlongAreSpans
along_are_spans cut floor order edges entries spans sound net solved count along = record {
  count = count;
  each = λ block l.
      span_is cut order edges entries floor sound net solved block (slice_index_or spans block None) (along block l);
}

-- When the first copy enters: no earlier than the window and the last uses of its blocks ask.
use Rattle.std.proofs.Common.{◌≡◌, ℕ, ◌<◌, true, List, inl, inr, refl, sym, subst, ◌∙◌, arith}
use Rattle.std.specs.Prelude.{ℤ, ◌+ℤ◌, ◌-ℤ◌, ◌≤ℤ◌, ◌<ℤ◌, Option, None, Some, slice_index_or}
use Rattle.std.proofs.lemmas.Bool.{cases_eq, both_ways}
use Rattle.std.proofs.lemmas.Int.{ints}
use Rattle.std.proofs.Common.{length-append}
use Rattle.plan_model.specs.declared.cut.Cut.{Cut}
use Rattle.plan_model.specs.declared.answer.Tie.{Tie}
use Rattle.plan_model.specs.Members.{block_count, place_count, member, member_count, uses_place, use_at}
use Rattle.plan_model.specs.Cut.{IsSoundCut}
use Rattle.plan_model.specs.Schedule.{window_start, window_floor, start_at, end_by, entry_at}
use Rattle.plan_model.specs.Answer.{IsAfterAll}
use Rattle.plan_model.proofs.Uses.{takes_time}
use Rattle.train_order.specs.Ordering.{IsOrder}
use Rattle.train_order.proofs.Next.{is_there}
use Rattle.train_placing.specs.declared.last.Last.{Last}
use Rattle.train_placing.specs.Placing.{IsLeft, IsLast, ArePlaced}
use Rattle.path_fill.specs.Search.{until, asked, IsGreatest}

-- a moment in the window, after all members, and no earlier one is so
pub record IsFirstCopy (cut : Cut) (r : ℕ) (entries : List ℤ) (entry : ℤ) : Type 0 where
  pub from : window_start cut ≤ℤ entry
  pub after_all : IsAfterAll cut entries r entry
  pub least : (other : ℤ) → window_start cut ≤ℤ other → IsAfterAll cut entries r other → entry ≤ℤ other

-- ---- moments

-- what ends before another that is asked for starts by then
pub starts_after : (end until start e y : ℤ) → end ≤ℤ until → (until -ℤ (start -ℤ e)) ≤ℤ y → end ≤ℤ (start -ℤ e +ℤ y)
starts_after end until start e y h a = omega (arith, ints)

pub asked_by : (until start e y : ℤ) → until ≤ℤ (start -ℤ e +ℤ y) → (until -ℤ (start -ℤ e)) ≤ℤ y
asked_by until start e y h = omega (arith, ints)

pub ends_later : (end s f e y : ℤ) → end ≤ℤ (s -ℤ e +ℤ y) → s <ℤ f → end ≤ℤ (f -ℤ e +ℤ y)
ends_later end s f e y h l = omega (arith, ints)

module _ (cut : Cut) (order : List ℕ) (entries : List ℤ) (ties : List Tie) (last : List (Option Last))
    (sound : IsSoundCut cut) (is : IsOrder cut order)
    (placed : ArePlaced cut (window_floor cut) order entries ties last)
    (r : ℕ) (there : r < member_count cut) where
  block_there : (b : ℕ) → b < block_count cut → b < place_count cut
  block_there b l = omega (arith, l, length-append cut.section.blocks cut.connections)

  left_as : (b : ℕ) → b < block_count cut → (o : Option Last) → slice_index_or last b None ≡ o
      → IsLeft cut entries order b o
  left_as b l o e = subst (IsLeft cut entries order b) e (placed.left b (block_there b l))

  -- a block that a member uses has a last use
  last_use : (b : ℕ) → b < block_count cut → (j : ℕ) → j < member_count cut → uses_place (member cut j) b ≡ true
      → (o : Option Last) → slice_index_or last b None ≡ o
      → (l : Last) × (slice_index_or last b None ≡ Some l) × IsLast cut entries order b l
  last_use b lb j lj u None e =
      absurd (both_ways (uses_place (member cut j) b) (left_as b lb None e j (is_there cut order is j lj)) u)
  last_use b lb j lj u (Some l) e = (l, e, left_as b lb (Some l) e)

  -- each member's use of the block ends by the end of its last use
  ends_by : (b : ℕ) (l : Last) → IsLast cut entries order b l → (j : ℕ) → j < member_count cut
      → uses_place (member cut j) b ≡ true → end_by cut entries j b ≤ℤ l.until
  ends_by b l left j lj u =
      let t = l.train in
      let row = member cut t in
      let lt = placed.there t left.there in
      elim (cases_eq j t) [
        | inl e ↦ subst (λ k. end_by cut entries k b ≤ℤ l.until) (sym e) (omega (arith, ints, left.until))
        | inr ne ↦
            let later =
            ends_later (end_by cut entries j b) (use_at row b).start (use_at row b).«end» row.entry (entry_at entries t)
            (left.others j (is_there cut order is j lj) u ne) (takes_time cut sound t b lt left.uses) in
            subst (λ x. end_by cut entries j b ≤ℤ x) (sym left.until) later
      ]

  asks : (b : ℕ) (l : Last) → slice_index_or last b None ≡ Some l
      → asked cut r last b ≡ l.until -ℤ ((use_at (member cut r) b).start -ℤ (member cut r).entry)
  asks b l e = rw e refl

  pub first_copy_is : (entry : ℤ)
      → IsGreatest (uses_place (member cut r)) (asked cut r last) (block_count cut) (window_start cut) entry
      → IsFirstCopy cut r entries entry
  first_copy_is entry greatest = record {
    from = greatest.above;
    after_all = λ j b lj lb uj ur.
        let at = last_use b lb j lj uj (slice_index_or last b None) refl in
        let row = member cut r in
        starts_after (end_by cut entries j b) (at.0).until (use_at row b).start row.entry entry
        (ends_by b at.0 at.2 j lj uj)
        (subst (λ x. x ≤ℤ entry) (asks b at.0 at.1) (greatest.each b lb ur));
    least = λ other from after.
        elim greatest.reached [
          | inl e ↦ subst (λ x. x ≤ℤ other) (sym e) from
          | inr (b, lb, ur, e) ↦
              let at = last_use b lb r there ur (slice_index_or last b None) refl in
              let row = member cut r in
              let l = at.0 in
              let left = at.2 in
              let lt = placed.there l.train left.there in
              subst (λ x. x ≤ℤ other) (sym (e ∙ asks b l at.1))
              (asked_by l.until (use_at row b).start row.entry other
              (subst (λ x. x ≤ℤ start_at row other b) (sym left.until) (after l.train b lt lb left.uses ur)))
        ];
  }

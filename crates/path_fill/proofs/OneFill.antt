-- A section is filled in one way, and a cut that is compressed has a timetable for its answer.
use Rattle.std.proofs.Common.{◌≡◌, ℕ, ◌≤◌, inl, inr, sym, ap, ◌∙◌, subst, arith}
use Rattle.std.specs.Prelude.{◌+◌, Ok, Err}
use Rattle.std.proofs.lemmas.Bool.{cases_lt}
use Rattle.plan_model.specs.declared.cut.Cut.{Cut}
use Rattle.plan_model.specs.declared.answer.Answer.{Answer}
use Rattle.plan_model.specs.declared.answer.Answer.TheVariants as answer
use Rattle.plan_model.specs.Answer.{IsAnswer}
use Rattle.plan_model.proofs.Unique.{answer_is_unique}
use Rattle.path_fill.specs.declared.found.Fill.TheVariants as fill
use Rattle.path_fill.specs.Filling.{has_room, DoFit, AreTooMany, AreMost, IsNoPlan, IsOrdered}
use Rattle.path_fill.specs.Laws.{FillIsUnique, FillingIsUnique}
use Rattle.path_fill.proofs.Unique.{filled_occupancy_is_unique}

module _ (cut : Cut) (r : ℕ) where
  not_both : (count : ℕ) → DoFit cut r count → AreTooMany cut r count → ⊥
  not_both count (time, is, fits) (other, also, over) =
      let same = filled_occupancy_is_unique cut r count time other is also in
      let e = sym fits ∙ ap (has_room cut.section) same ∙ over in cc

  no_greater : (m n time more other longer : ℕ) → AreMost cut r m time more → AreMost cut r n other longer → m ≤ n
  no_greater m n time more other longer is others = elim (cases_lt n m) [
    | inl l ↦ absurd (not_both m (is.fit m (omega arith)) (others.over m l))
    | inr l ↦ l
  ]

  one_most : (m n time more other longer : ℕ) → AreMost cut r m time more → AreMost cut r n other longer
      → fill.Fits m time more ≡ fill.Fits n other longer
  one_most m n time more other longer is others =
      let same : m ≡ n
      = omega (arith, no_greater m n time more other longer is others, no_greater n m other longer time more others is) in
      let also = subst (λ k. AreMost cut r k other longer) (sym same) others in
      let times = filled_occupancy_is_unique cut r m time other is.occupancy also.occupancy in
      let nexts = filled_occupancy_is_unique cut r (m + 1) more longer is.next also.next in
      λ i. fill.Fits (same i) (times i) (nexts i)

pub fill_is_unique : FillIsUnique
fill_is_unique cut r (fill.Over time) (fill.Over other) is others =
    ap fill.Over (filled_occupancy_is_unique cut r 0 time other is.0 others.0)
fill_is_unique cut r (fill.Over time) (fill.Fits n other longer) is others =
    absurd (not_both cut r 0 (others.fit 0 (omega arith)) (time, is.0, is.1))
fill_is_unique cut r (fill.Fits n time more) (fill.Over other) is others =
    absurd (not_both cut r 0 (is.fit 0 (omega arith)) (other, others.0, others.1))
fill_is_unique cut r (fill.Fits m time more) (fill.Fits n other longer) is others =
    one_most cut r m n time more other longer is others

-- the answer of a cut that is compressed is its timetable
pub not_headed : (cut : Cut) (a : Answer) → IsOrdered cut → IsAnswer cut a → IsNoPlan a → ⊥
not_headed cut (answer.Ordered plan) ordered is none = none
not_headed cut (answer.Opposite first second block1 block2) ordered is none =
    let e = sym ordered.not_opposite ∙ is.1 in cc
not_headed cut (answer.Ring links) ordered is none = is.2 ordered.none_remains
not_headed cut (answer.Crowded count) ordered is none = omega (arith, is.0, ordered.few)

pub filling_is_unique : FillingIsUnique
filling_is_unique cut r (Ok fill) (Ok other) is others = ap Ok (fill_is_unique cut r fill other is.1 others.1)
filling_is_unique cut r (Ok fill) (Err a) is others = absurd (not_headed cut a is.0 others.0 others.1)
filling_is_unique cut r (Err a) (Ok fill) is others = absurd (not_headed cut a others.0 is.0 is.1)
filling_is_unique cut r (Err a) (Err b) is others = ap Err (answer_is_unique cut a b is.0 others.0)

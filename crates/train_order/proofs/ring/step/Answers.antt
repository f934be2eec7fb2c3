use Rattle.std.proofs.Common.{◌≡◌, ℕ, ◌<◌, ◌≤◌, Bool, true, not, ◌&&◌, List, length, inl, inr, sym, ap, ◌∙◌, arith}
use Rattle.std.specs.Prelude.{slice_index_or, unwrap_or}
use Rattle.std.specs.List.{list_any, range_with_len}
use Rattle.std.proofs.lemmas.Bool.{cases_Bool, cases_lt, and_from, and_left, and_right, both_ways, not-true, not_from_true, not_from_false}
use Rattle.plan_model.specs.declared.limits.TheConstants.{MEMBERS}
use Rattle.train_order.specs.declared.member_set.MemberSet.{MemberSet}
use Rattle.train_order.specs.Sets.{IsFirstOutside, holds, no_set, relates}
use Rattle.train_order.specs.Taking.{left_in}
use Rattle.train_order.specs.Walk.{step}
use Rattle.train_order.proofs.Among.{passing_among}
use Rattle.train_order.proofs.Find.{find_some, find_within, first_found}
use Rattle.train_order.proofs.ring.step.Goals as goal

module _ (sets : List MemberSet) (words : List ℕ) (j x : ℕ) (few : length sets ≤ MEMBERS)
    (first : IsFirstOutside (slice_index_or sets j no_set).words words x)
    (some : list_any (λ i. relates sets i j) (left_in (length sets) words) ≡ true) where
  abbrev is_left : ℕ → Bool
  is_left i = not (holds words i)

  there : x < length sets
  there =
      let one = find_some (λ i. relates sets i j) (left_in (length sets) words) some in
      let at = passing_among is_left (length sets) one.0 one.2 in
      elim (cases_lt one.0 x) [
        | inl lt ↦ absurd (both_ways (holds words one.0) (not-true _ at.1) (first.none one.0 lt one.3))
        | inr le ↦ omega (arith, le, at.0)
      ]

  first_is : step sets (left_in (length sets) words) j ≡ x
  first_is =
      ap (λ o. unwrap_or o j)
      (find_within is_left (λ i. relates sets i j) (range_with_len 0 (length sets))
      ∙ first_found (λ i. is_left i && relates sets i j) 0 (length sets) x (omega arith) (omega (arith, there))
      (λ k lk m. elim (cases_Bool (relates sets k j)) [
        | inl t ↦ and_left (is_left k) _ (not_from_true _ (first.none k m t))
        | inr f ↦ and_right (is_left k) _ f
      ])
      (and_from _ _ (not_from_false _ (first.outside (omega (arith, there, few)))) (first.there (omega (arith, there, few)))))

pub returns : goal.returns
returns c =
    sym (first_is c.args.sets.now c.args.gone.now.words c.args.j c.first_outside.result c.requires.few c.first_outside.ensures c.requires.preceded)

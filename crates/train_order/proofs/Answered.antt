-- What is told of members that have no order is what a cut is answered.
use Rattle.std.proofs.Common.{◌<◌, length, ◌∙◌, ◌++◌, map, take, drop, List, ℕ, sym, ap, subst}
use Rattle.std.specs.Prelude.{Some, Err, option_map}
use Rattle.std.specs.List.{zip}
use Rattle.plan_model.specs.declared.cut.Cut.{Cut}
use Rattle.plan_model.specs.Disorder.{opposite_of, link_of}
use Rattle.plan_model.specs.declared.answer.Disorder.{Disorder}
use Rattle.train_order.specs.declared.found.Disordered.{Disordered}
use Rattle.train_order.specs.declared.found.Disordered.TheVariants as disordered
use Rattle.train_order.specs.Ordering.{IsDisorder, PrecedeInTurn, IsDisorderBy, IsTold, IsOrdering}
use Rattle.train_order.specs.declared.member_set.MemberSet.{MemberSet}
use Rattle.train_order.specs.Sets.{ArePreceded}
use Rattle.train_order.specs.Taking.{AreTakenUp}
use Rattle.train_order.specs.Walk.{IsRing}
use Rattle.train_order.proofs.Opposed.{pair_is, are_opposed}
use Rattle.train_order.proofs.Ringed.{ring_of}
use Rattle.train_order.proofs.Rounds.{some_remain}

pub told_is : (cut : Cut) (found : Disordered) (told : Disorder) → IsDisorder cut (Some found) → IsTold cut found told
    → IsOrdering cut (Err told)
told_is cut (disordered.Opposite i j) told is e =
    subst (λ d. IsOrdering cut (Err d)) (sym e) (ap (option_map (opposite_of cut)) is)
told_is cut (disordered.Ring members) told is e =
    subst (λ d. IsOrdering cut (Err d)) (sym e) (
      ap (option_map (opposite_of cut)) is.0,
      is.1,
      ap (λ (ms : List ℕ). map (link_of cut) (zip ms (drop 1 ms ++ take 1 ms))) is.2,
    )

-- what is found by sets that tell of a cut's precedence is why its members have no order
module _ (cut : Cut) (sets : List MemberSet) (told : ArePreceded cut sets) (taken : List ℕ) (up : AreTakenUp sets taken)
    (some : length taken < length sets) where
  pub disorder_is : (found : Disordered) → IsDisorderBy sets taken found
      → IsDisorder cut (Some found) × PrecedeInTurn cut found
  disorder_is (disordered.Opposite i j) first = (pair_is cut sets told ∙ first, are_opposed cut sets told i j (sym first))
  disorder_is (disordered.Ring members) (none, ring) =
      let its = ring_of sets taken up some ring.walk ring.from ring.round cut told in (
        (pair_is cut sets told ∙ none, some_remain cut sets told taken up some, ring.is ∙ its.is),
        subst (λ ms. IsRing cut ms) (sym ring.is) its.in_turn,
      )

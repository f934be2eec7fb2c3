use Rattle.std.proofs.Common.{◌≡◌, false, get_or, Option, Some, None, refl, sym, ◌∙◌, subst, inl, inr, arith}
use Rattle.std.specs.Prelude.{is_some}
use Rattle.std.proofs.lemmas.Bool.{cases_lt}
use Rattle.std.proofs.lemmas.List.{get_or_default}
use Rattle.rail_model.specs.declared.stair.Stair.{Stair}
use Rattle.section_cut.proofs.reach.reaches_some.Goals as goal

none_is : (stair : Option Stair) → is_some stair ≡ false → stair ≡ None
none_is None e = refl
none_is (Some stair) e = absurd (cc)

pub loop-stair-preserved : goal.loop-stair-preserved
loop-stair-preserved c k d l =
    let stairs = c.args.stairs.now in
    let n = c.loop-stair.stair-index in
    let item = c.stair-item.result in
    elim (cases_lt k n) [
      | inl lt ↦ c.loop-stair.invariant k d lt
      | inr ge ↦
          let last : n ≡ k = omega (arith, ge, l) in
          let here : get_or stairs n d ≡ None =
          get_or_default stairs n d item c.loop-stair-test.true ∙ sym c.stair-item.is ∙ none_is item (sym c.is_some.ensures ∙ c.if-is_some.false) in
          subst (λ j. get_or stairs j d ≡ None) last here
    ]

pub returns : goal.returns
returns c _ k d l = c.loop-stair.invariant k d (omega (arith, l, c.loop-stair-test.false))

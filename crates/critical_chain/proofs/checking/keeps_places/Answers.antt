use Rattle.std.proofs.Common.{refl, ap, ◌∙◌, arith, below_more}
use Rattle.plan_model.specs.Members.{place_count}
use Rattle.critical_chain.proofs.checking.keeps_places.Goals as goal

pub loop-place-init : goal.loop-place-init
loop-place-init c p l = absurd (omega arith)

pub loop-place-preserved : goal.loop-place-preserved
loop-place-preserved c = below_more _ _ c.loop-place.invariant (c.keeps_place.ensures.0 c.if-not-keeps_place.false)

pub returns : goal.returns
returns c = (
  λ t place l.
      c.loop-place.invariant place
      (omega (arith, l, c.loop-place-test.false, c.place_count-place-end.ensures ∙ ap place_count c.sound.ensures.cut)),
  λ k. refl,
)

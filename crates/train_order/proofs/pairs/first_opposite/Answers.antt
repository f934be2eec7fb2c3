use Rattle.std.proofs.Common.{◌≡◌, inl, inr, sym, subst, ◌∙◌, arith, false}
use Rattle.std.proofs.lemmas.Bool.{cases_eq}
use Rattle.plan_model.specs.Disorder.{are_opposite}
use Rattle.train_order.proofs.pairs.first_opposite.Goals as goal

pub loop-j-preserved : goal.loop-j-preserved
loop-j-preserved c k ln =
    elim (cases_eq k c.loop-j.j) [
      | inl e ↦
          subst (λ m. are_opposite c.args.cut.now c.args.i m ≡ false) (sym e) (sym c.is_opposite.ensures ∙ c.if-is_opposite.false)
      | inr apart ↦ c.loop-j.invariant k (omega (arith, ln, apart))
    ]

pub returns-then-is_opposite : goal.returns-then-is_opposite
returns-then-is_opposite c = (
  omega (arith, c.loop-j-test.true, c.member_count-j-end.ensures.count),
  sym c.is_opposite.ensures ∙ c.if-is_opposite.true,
  c.loop-j.invariant,
)

pub returns : goal.returns
returns c k l = c.loop-j.invariant k (omega (arith, l, c.loop-j-test.false, c.member_count-j-end.ensures.count))

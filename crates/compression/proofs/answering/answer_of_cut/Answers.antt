use Rattle.std.proofs.Common.{subst}
use Rattle.plan_model.specs.Answer.{IsCompressed}
use Rattle.compression.proofs.Compressed.{none_later, reaches_to_closing, reaches_each_closing}
use Rattle.compression.proofs.answering.answer_of_cut.Goals as goal

pub returns-in_ok-plan-in-Ok-clause-not_later : goal.returns-in_ok-plan-in-Ok-clause-not_later
returns-in_ok-plan-in-Ok-clause-not_later c =
    none_later c.args.cut.now c.in_ok-plan-in-Ok.plan c.requires.sound
    (subst (λ k. IsCompressed k c.in_ok-plan-in-Ok.plan) c.of.ensures c.in_ok-plan-in-Ok.ensures.compressed)

pub returns-in_ok-plan-in-Ok-clause-to_closing : goal.returns-in_ok-plan-in-Ok-clause-to_closing
returns-in_ok-plan-in-Ok-clause-to_closing c =
    reaches_to_closing c.args.cut.now c.in_ok-plan-in-Ok.plan c.requires.sound
    (subst (λ k. IsCompressed k c.in_ok-plan-in-Ok.plan) c.of.ensures c.in_ok-plan-in-Ok.ensures.compressed)

pub returns-in_ok-plan-in-Ok-clause-at_least_closing : goal.returns-in_ok-plan-in-Ok-clause-at_least_closing
returns-in_ok-plan-in-Ok-clause-at_least_closing c =
    reaches_each_closing c.args.cut.now c.in_ok-plan-in-Ok.plan
    (subst (λ k. IsCompressed k c.in_ok-plan-in-Ok.plan) c.of.ensures c.in_ok-plan-in-Ok.ensures.compressed)

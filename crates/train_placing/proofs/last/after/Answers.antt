use Rattle.std.proofs.Common.{◌≡◌, rules, sym, subst, ap, ◌∙◌, to_z, of_z, w64}
use Rattle.std.specs.Prelude.{◌-ℤ◌}
use Rattle.std.specs.Int.{int_max}
use Rattle.train_placing.specs.Last.{IsNearLast, after}
use Rattle.train_placing.proofs.last.after.Goals as goal

pub asked-requires-clause-last : goal.asked-requires-clause-last
asked-requires-clause-last c = subst IsNearLast c.in-Some.is c.requires.last

pub returns-in-Some : goal.returns-in-Some
returns-in-Some c =
    let entry : to_z w64 (of_z w64 c.args.entry) ≡ c.args.entry = search rules in
    let planned : to_z w64 (of_z w64 c.args.planned) ≡ c.args.planned = search rules in
    let ask : to_z w64 (of_z w64 c.asked.result) ≡ c.asked.result = search rules in
    let fits : to_z w64 (of_z w64 c.later.result) ≡ c.later.result = search rules in
    let is =
    fits ∙ c.later.ensures ∙ ap (λ e. int_max e (to_z w64 (of_z w64 c.asked.result))) entry
    ∙ ap (int_max c.args.entry)
    (ask ∙ c.asked.ensures ∙ ap (λ p. c.in-Some.last.until -ℤ (c.args.one.now.start -ℤ p)) planned) in
    subst (λ o. to_z w64 (of_z w64 c.later.result) ≡ after c.args.planned o c.args.entry c.args.one.now)
    (sym c.in-Some.is) is

use Rattle.std.proofs.Common.{◌≡◌, false, sym, ◌∙◌, arith}
use Rattle.std.proofs.lemmas.Bool.{both_ways, false_from_ne_true}
use Rattle.plan_model.specs.Members.{place_count, places, member}
use Rattle.plan_model.specs.Members as given
use Rattle.plan_model.proofs.MemberTests.{has_any, has-range}
use Rattle.line_cutter.proofs.Whole.{some_below}
use Rattle.line_cutter.proofs.opposed.precedes_somewhere.Goals as goal
use borrow.Author.Count.{below_more}

pub returns-then-precedes : goal.returns-then-precedes
returns-then-precedes c =
    let cut = c.args.cut.now in
    let place = c.loop-place.place in
    sym (has_any (given.precedes (member cut c.args.i) (member cut c.args.j)) (places cut) place
    (has-range (place_count cut) place (omega (arith, c.loop-place-test.true, c.place_count-place-end.ensures)))
    (sym c.precedes.ensures ∙ c.if-precedes.true))

pub loop-place-preserved : goal.loop-place-preserved
loop-place-preserved c =
    let cut = c.args.cut.now in
    below_more (λ p. given.precedes (member cut c.args.i) (member cut c.args.j) p ≡ false) c.loop-place.place c.loop-place.invariant
    (sym c.precedes.ensures ∙ c.if-precedes.false)

pub returns : goal.returns
returns c =
    let cut = c.args.cut.now in
    let test = given.precedes (member cut c.args.i) (member cut c.args.j) in
    sym (false_from_ne_true (given.precedes_somewhere cut c.args.i c.args.j) (λ t.
    let some = some_below test (place_count cut) t in
    both_ways (test some.0)
    (c.loop-place.invariant some.0 (omega (arith, some.1, c.loop-place-test.false, c.place_count-place-end.ensures))) some.2))

use Rattle.std.proofs.Common.{ℕ, ◌+◌, ◌-◌, ◌<◌, ap, ◌∙◌, map, arith}
use Rattle.std.specs.Prelude.{option_map}
use Rattle.std.specs.List.{range_with_len}
use Rattle.std.proofs.lemmas.Bool.{and_from}
use Rattle.rail_model.proofs.Lists.{find-map}
use Rattle.plan_model.specs.Members.{member_count, precedes_somewhere}
use Rattle.plan_model.specs.Disorder.{are_opposite}
use Rattle.train_order.proofs.Find.{none_yet, found_in, none_found, first_found}
use Rattle.line_cutter.proofs.opposed.soon_opposed.Goals as goal

pub returns-then-next-member_count-clause-least : goal.returns-then-next-member_count-clause-least
returns-then-next-member_count-clause-least c =
    let cut = c.args.cut.now in
    let n = member_count cut in
    let i = c.loop-i.i in
    let next = c.in_ok-next.next in
    let is = c.in_ok-next.ensures in
    let below : next < n = omega (arith, c.if-next-member_count.true, c.member_count.ensures.count) in
    let opposed = is.there below in
    found_in (λ (p : ℕ × ℕ). are_opposite cut p.0 p.1) (λ i. map (λ j. (i, j)) (range_with_len (i + 1) (n - (i + 1)))) n i (i, next)
    (omega (arith, c.loop-i-test.true, c.member_count-i-end.ensures.count)) c.loop-i.invariant
    (find-map (λ j. (i, j)) (λ (p : ℕ × ℕ). are_opposite cut p.0 p.1) (range_with_len (i + 1) (n - (i + 1)))
    ∙ ap (option_map (λ j. (i, j))) (first_found (are_opposite cut i) (i + 1) (n - (i + 1)) next (omega (arith, opposed.lesser))
    (omega (arith, opposed.lesser, below)) (λ k lk ln. is.none k (omega (arith, lk)) ln)
    (and_from (precedes_somewhere cut i next) (precedes_somewhere cut next i) opposed.precedes opposed.preceded)))

pub loop-i-preserved : goal.loop-i-preserved
loop-i-preserved c =
    let cut = c.args.cut.now in
    let n = member_count cut in
    let i = c.loop-i.i in
    let is = c.in_ok-next.ensures in
    none_yet (λ (p : ℕ × ℕ). are_opposite cut p.0 p.1) (λ i. map (λ j. (i, j)) (range_with_len (i + 1) (n - (i + 1)))) i c.loop-i.invariant
    (find-map (λ j. (i, j)) (λ (p : ℕ × ℕ). are_opposite cut p.0 p.1) (range_with_len (i + 1) (n - (i + 1)))
    ∙ ap (option_map (λ j. (i, j))) (none_found (are_opposite cut i) (i + 1) (n - (i + 1)) (λ k lk ln.
    is.none k (omega (arith, lk)) (omega (arith, ln, c.if-next-member_count.false, c.member_count.ensures.count)))))

use Rattle.std.proofs.Common.{◌==◌, ◌∙◌, map, length, sym, arith, below_more}
use Rattle.std.proofs.lemmas.Bool.{eq-eqb, ne_eqb}
use Rattle.std.proofs.lemmas.List.{get_or-map, length-map}
use Rattle.std.proofs.lemmas.List.Sums.{position_or_len_is}
use Rattle.cycle_time.specs.Rings.{to_of, no_demand}
use Rattle.cycle_time.proofs.trail.place_of.Goals as goal

pub returns-then-demand-train : goal.returns-then-demand-train
returns-then-demand-train c =
    let trail = c.args.trail.now in
    sym (position_or_len_is (λ t. t == c.args.train) (map to_of trail) c.loop-k.k 0
    (omega (arith, c.loop-k-test.true, length-map trail to_of)) c.loop-k.invariant
    (λ l. eq-eqb _ _ (get_or-map to_of trail c.loop-k.k no_demand 0 c.loop-k-test.true ∙ c.if-demand-train.true)))

pub loop-k-preserved : goal.loop-k-preserved
loop-k-preserved c =
    let trail = c.args.trail.now in
    below_more _ _ c.loop-k.invariant
    (ne_eqb _ _ (λ e. c.if-demand-train.false (sym (get_or-map to_of trail c.loop-k.k no_demand 0 c.loop-k-test.true) ∙ e)))

pub returns : goal.returns
returns c =
    let trail = c.args.trail.now in
    sym (position_or_len_is (λ t. t == c.args.train) (map to_of trail) (length trail) 0 (omega (arith, length-map trail to_of))
    (λ k l. c.loop-k.invariant k (omega (arith, l, c.loop-k-test.false))) (λ l. absurd (omega (arith, l, length-map trail to_of))))

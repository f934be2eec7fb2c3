use Rattle.std.proofs.Common.{ℕ, ◌+◌, ◌-◌, sym, ap, ◌∙◌, length, map}
use Rattle.std.specs.Prelude.{option_map}
use Rattle.std.specs.List.{range_with_len}
use Rattle.train_order.specs.Opposite.{oppose}
use Rattle.rail_model.proofs.Lists.{find-map}
use Rattle.train_order.proofs.Find.{none_yet, found_in}
use Rattle.train_order.proofs.opposite.opposite_members.Goals as goal

pub returns-in-Some : goal.returns-in-Some
returns-in-Some c =
    let sets = c.args.sets.now in
    let i = c.loop-i.i in
    sym (found_in (λ (p : ℕ × ℕ). oppose sets p.0 p.1)
    (λ i. map (λ j. (i, j)) (range_with_len (i + 1) (length sets - (i + 1)))) (length sets) i (i, c.in-Some.j)
    c.loop-i-test.true c.loop-i.invariant
    (find-map (λ j. (i, j)) (λ (p : ℕ × ℕ). oppose sets p.0 p.1) (range_with_len (i + 1) (length sets - (i + 1)))
    ∙ ap (option_map (λ j. (i, j))) (sym c.in-Some.ensures)))

pub loop-i-preserved : goal.loop-i-preserved
loop-i-preserved c =
    let sets = c.args.sets.now in
    let i = c.loop-i.i in
    none_yet (λ (p : ℕ × ℕ). oppose sets p.0 p.1)
    (λ i. map (λ j. (i, j)) (range_with_len (i + 1) (length sets - (i + 1)))) i c.loop-i.invariant
    (find-map (λ j. (i, j)) (λ (p : ℕ × ℕ). oppose sets p.0 p.1) (range_with_len (i + 1) (length sets - (i + 1)))
    ∙ ap (option_map (λ j. (i, j))) (sym c.in_default.ensures))

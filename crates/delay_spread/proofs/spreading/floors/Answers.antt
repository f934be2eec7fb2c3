use Rattle.std.proofs.Common.{◌≡◌, List, [], ◌∷◌, ◌++◌, map, rules, sym, ap, ◌∙◌, arith, to_z, of_z, w64}
use Rattle.std.specs.Prelude.{ℤ}
use Rattle.std.specs.List.{range_with_len}
use Rattle.std.proofs.lemmas.List.FromFn.{map-range_with_len_more}
use Rattle.delay_spread.specs.Spreading.{delayed_floor}
use Rattle.delay_spread.proofs.spreading.floors.Goals as goal

pub loop-i-preserved : goal.loop-i-preserved
loop-i-preserved c =
    let i = c.loop-i.i in
    let F = delayed_floor c.args.cut.now c.args.delays.now in
    let cast : to_z w64 (of_z w64 c.floor.result) ≡ c.floor.result = search rules in
    let item : to_z w64 (of_z w64 c.floor.result) ≡ F i = cast ∙ c.floor.ensures in
    c.in_ok-push.ensures.items
    ∙ ap (λ (xs : List ℤ). xs ++ to_z w64 (of_z w64 c.floor.result) ∷ []) c.loop-i.invariant
    ∙ ap (λ (x : ℤ). map F (range_with_len 0 i) ++ x ∷ []) item
    ∙ sym (map-range_with_len_more F 0 i i (omega arith))

pub returns : goal.returns
returns c =
    let all : c.loop-i.i ≡ c.member_count-i-end.result = omega (arith, c.loop-i-test.false, c.loop-i.auto.i-end) in
    c.loop-i.invariant
    ∙ ap (λ n. map (delayed_floor c.args.cut.now c.args.delays.now) (range_with_len 0 n))
    (all ∙ c.member_count-i-end.ensures.count)

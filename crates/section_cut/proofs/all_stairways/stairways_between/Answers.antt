use Rattle.std.proofs.Common.{◌≡◌, ◌<◌, ◌≤◌, ◌++◌, ◌∷◌, [], length, map, take, get_or, sym, ap, ◌∙◌, arith}
use Rattle.std.specs.Prelude.{drop}
use Rattle.std.proofs.lemmas.List.{take_more, length-take-le, length-map, get_or-map, drop-append-le}
use Rattle.rail_model.specs.Blocking.{stair_of}
use Rattle.line_tables.specs.Paths.{no_path}
use Rattle.section_cut.proofs.all_stairways.stairways_between.Goals as goal

pub loop-run-preserved : goal.loop-run-preserved
loop-run-preserved c =
    let paths = c.args.paths.now in
    let from = c.args.from in
    let n = c.loop-run.run in
    let all = map stair_of paths in
    let none = stair_of no_path in
    let below : n < length paths = omega (arith, c.loop-run-test.true, c.requires.there) in
    let here : n < length all = omega (arith, below, length-map paths stair_of) in
    let long : from ≤ length (take n all) = omega (arith, length-take-le n all (omega (arith, here)), c.loop-run.auto.run) in
    c.in_ok-push.ensures.ok ∙ ap (λ a. a ++ c.in_ok-stair_by.field-0 ∷ []) c.loop-run.invariant
    ∙ ap (λ s. drop from (take n all) ++ s ∷ []) (c.in_ok-stair_by.ensures ∙ sym (get_or-map stair_of paths n no_path none below))
    ∙ sym (drop-append-le from (take n all) (get_or all n none ∷ []) long)
    ∙ ap (drop from) (sym (take_more all n none here))

pub returns : goal.returns
returns c =
    let at : c.loop-run.run ≡ c.args.to = omega (arith, c.loop-run-test.false, c.loop-run.auto.run-end c.requires.part) in
    c.loop-run.invariant ∙ ap (λ n. drop c.args.from (take n (map stair_of c.args.paths.now))) at

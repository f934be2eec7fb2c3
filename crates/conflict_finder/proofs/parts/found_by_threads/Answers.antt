use Rattle.std.proofs.Common.{◌≡◌, ◌+◌, ◌-◌, ◌/◌, ap, subst, ◌∙◌, arith, length}
use Rattle.std.specs.List.{AllZip, range_with_len}
use Rattle.rayon.specs.Numbers.{nat_range}
use Rattle.rayon.proofs.ListFacts.{IfOk-then}
use Rattle.rail_model.proofs.Collected.{collected}
use Rattle.conflict_finder.specs.Runs.{run_uses_in_turn}
use Rattle.conflict_finder.specs.ByNumber.{IsFoundInPart, AreFoundInParts}
use Rattle.conflict_finder.proofs.InParts.{in_all_parts}
use Rattle.conflict_finder.proofs.parts.found_by_threads.Goals as goal

pub collect-requires-clause-ready : goal.collect-requires-clause-ready
collect-requires-clause-ready g c κs within =
    let ends = c.into_par_iter.ensures in
    rw (c.map.ensures.base, c.map.ensures.f, c.with_min_len.ensures.base, ends.0, ends.1)
    (λ k d lt. ((c.requires.lists, c.requires.most, c.requires.there), λ y p. tt))

pub returns : goal.returns
returns g c =
    let ends = c.into_par_iter.ensures in
    let h = c.in_ok-collect.ensures in
    let chain = rw (c.map.ensures.base, c.map.ensures.f, c.with_min_len.ensures.base) at h.1 in
    let lists = length c.args.room.now in
    let parts = c.parts_for-parts.result in
    let run_uses = run_uses_in_turn c.args.stairs.now c.args.starts.now in
    let found = IsFoundInPart lists (lists / parts + 1) run_uses in
    let places : chain.0 ≡ range_with_len 0 parts =
    chain.1 ∙ (λ i. nat_range (ends.0 i) (ends.1 i)) ∙ ap (range_with_len 0) (let count : parts - 0 ≡ parts = omega arith in count) in
    IfOk-then c.in_ok-collect.field-0 _ (λ all. AreFoundInParts run_uses all.items)
    (collected found (λ all. all.items) chain.0 h.0 c.in_ok-collect.field-0 _ chain.2 h.2)
    (λ all made. in_all_parts lists parts run_uses all.items c.requires.lists c.parts_for-parts.ensures (subst (λ some. AllZip found some all.items) places made))

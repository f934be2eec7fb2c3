use Rattle.std.proofs.Common.{◌≡◌, ◌-◌, ◌<◌, length, get_or, ◌⊎◌, refl, subst, ◌∙◌, arith}
use Rattle.std.specs.Prelude.{◌≤ℤ◌}
use Rattle.std.proofs.lemmas.List.{get_or_default}
use Rattle.cycle_time.specs.declared.demand.Demand.{Demand}
use Rattle.cycle_time.specs.Rings.{no_demand}
use Rattle.cycle_time.specs.Laying.{AreBetweenSame}
use Rattle.cycle_time.proofs.Merged.{pushed, replaced}
use Rattle.cycle_time.proofs.merging.add.Goals as goal

pub returns-then-are_between_same : goal.returns-then-are_between_same
returns-then-are_between_same c =
    let before = c.args.demands.now.items in
    let e = c.args.demand in
    let h = c.heavier.result in
    let k = c.len-count.result - 1 in
    let within : k < length before = omega (arith, c.if-count-gt0.true, c.len-count.ensures) in
    let at : c.index.result.now ≡ get_or before k no_demand =
    c.index.ensures ∙ get_or_default before k c.index.result.now no_demand within in
    let again : c.index-then-are_between_same.result.now ≡ get_or before k no_demand =
    c.index-then-are_between_same.ensures
    ∙ get_or_default before k c.index-then-are_between_same.result.now no_demand within in
    replaced before _ k within e h
    (subst (λ d. AreBetweenSame d e) at (c.are_between_same.ensures c.if-are_between_same.true))
    (subst (λ d. (h ≡ d) ⊎ (h ≡ e)) again c.heavier.ensures.either)
    (subst (λ (d : Demand). d.weight ≤ℤ h.weight) again c.heavier.ensures.one) c.heavier.ensures.other refl

pub returns : goal.returns
returns c = pushed c.args.demands.now.items c.push.new.self.items c.args.demand c.in_ok-push.ensures.items

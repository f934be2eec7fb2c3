use Rattle.std.proofs.Common.{◌≡◌, ◌<◌, [], ◌∷◌, ◌++◌, length, map, get_or, take, sym, ap, ◌∙◌, subst, arith}
use Rattle.std.proofs.lemmas.List.{map_more, get_or_default}
use Rattle.rail_model.specs.declared.stair.Stair.{Stair}
use Rattle.rail_model.specs.Conflict.{no_stair}
use Rattle.section_cut.specs.Starts.{StartsBetween}
use Rattle.section_cut.specs.Spans.{AreOver}
use Rattle.section_cut.proofs.Starts.{starts_more}
use Rattle.section_cut.proofs.all_stairways.AllStairways.of.Goals as goal

pub loop-stair-preserved : goal.loop-stair-preserved
loop-stair-preserved c =
    let all = c.slice-stair-items.result.now in
    let n = c.loop-stair.stair-index in
    let below : n < length all = omega (arith, c.loop-stair-test.true) in
    let its = λ (s : Stair). s.uses in
    let uses : c.slice-uses.result.now ≡ (get_or all n no_stair).uses =
    c.slice-uses.ensures ∙ ap its (c.stair-item.is ∙ get_or_default all n c.stair-item.result no_stair below) in
    record {
      between =
          starts_more all c.loop-stair.starts.items c.push.new.self.items n c.stair-item.result c.starts_of.result
          below c.stair-item.is (subst (StartsBetween c.starts_of.result) c.slice-uses.ensures c.starts_of.ensures)
          c.in_ok-push.ensures.items c.loop-stair.invariant.between;
      listed =
          subst (λ us. AreOver us c.add.new.self)
          (ap (λ us. map its (take n all) ++ us ∷ []) uses ∙ sym (map_more its all n no_stair below))
          (c.in_ok-add.ensures (map its (take n all)) c.loop-stair.invariant.listed);
    }

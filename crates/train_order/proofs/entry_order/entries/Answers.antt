use Rattle.std.proofs.Common.{◌++◌, [], ◌∷◌, ap, sym, ◌∙◌, map, arith}
use Rattle.std.proofs.lemmas.List.{map-append}
use Rattle.rail_model.proofs.Lists.{range_more}
use Rattle.train_order.specs.declared.entry_order.Moment.{Moment}
use Rattle.train_order.proofs.entry_order.entries.Goals as goal

pub loop-member-preserved : goal.loop-member-preserved
loop-member-preserved c =
    let i = c.loop-member.member in
    ap (map (λ (m : Moment). m.member)) c.in_ok-push.ensures.items ∙ map-append (λ (m : Moment). m.member) c.loop-member.entries.items _
    ∙ ap (λ is. is ++ i ∷ []) c.loop-member.invariant ∙ sym (range_more 0 i i (omega arith))

use Rattle.std.proofs.Common.{◌++◌, ◌∷◌, [], map, take, drop, sym, ap, ◌∙◌}
use Rattle.std.specs.List.{zip}
use Rattle.plan_model.specs.Disorder.{link_of}
use Rattle.train_order.proofs.Cycle.{pairs_more, pairs_all}
use Rattle.train_order.proofs.told.links.Goals as goal

pub loop-k-preserved : goal.loop-k-preserved
loop-k-preserved c =
    let members = c.args.members.now in
    let link = link_of c.args.cut.now in
    c.in_ok-push.ensures.ok ∙ ap (λ ls. ls ++ c.link.result ∷ []) c.loop-k.invariant
    ∙ ap (λ one. map link (take c.loop-k.k (zip members (drop 1 members ++ take 1 members))) ++ one ∷ []) c.link.ensures
    ∙ sym (pairs_more link members c.requires.ring.some c.loop-k.k c.next_place-next.result c.loop-k-test.true
    c.next_place-next.ensures.within c.next_place-next.ensures.next)

pub returns : goal.returns
returns c =
    c.loop-k.invariant
    ∙ pairs_all (link_of c.args.cut.now) c.args.members.now c.requires.ring.some c.loop-k.k c.loop-k-test.false

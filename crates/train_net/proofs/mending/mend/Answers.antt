use Rattle.std.proofs.Common.{◌<◌, sym, subst}
use Rattle.std.specs.Prelude.{All, IfSome}
use Rattle.std.specs.List.Sorted.{IsPermutation}
use Rattle.plan_model.specs.Members.{members, member_count}
use Rattle.train_order.proofs.Apart.{below}
use Rattle.train_net.specs.Mending.{MendsIn}
use Rattle.train_net.proofs.Remade.{mends_as_before}
use Rattle.train_net.proofs.mending.mend.Goals as goal

pub returns-in-Some-clause-net : goal.returns-in-Some-clause-net
returns-in-Some-clause-net c =
    let cut = c.args.cut.now in
    let origin = c.args.origin.now in
    let net = c.args.net.now in
    let later = c.in-Some.later in
    let mends : MendsIn cut origin net net.order later =
    subst (λ os. MendsIn cut origin net os later) c.in_ok-order.ensures
    (subst (λ o. IfSome o (MendsIn cut origin net c.in_ok-order.order)) c.in-Some.is c.in_ok-later.ensures) in
    λ old sound is_net is.
    (mends_as_before cut origin net later (c.stand_as_before.ensures c.if-stand_as_before.true) mends old sound is_net is).net

pub returns-in-Some-clause-order : goal.returns-in-Some-clause-order
returns-in-Some-clause-order c =
    let cut = c.args.cut.now in
    let origin = c.args.origin.now in
    let net = c.args.net.now in
    let later = c.in-Some.later in
    let mends : MendsIn cut origin net net.order later =
    subst (λ os. MendsIn cut origin net os later) c.in_ok-order.ensures
    (subst (λ o. IfSome o (MendsIn cut origin net c.in_ok-order.order)) c.in-Some.is c.in_ok-later.ensures) in
    λ old sound is_net is.
    (mends_as_before cut origin net later (c.stand_as_before.ensures c.if-stand_as_before.true) mends old sound is_net is).ordering

pub mended_in-requires-in-Some-2-clause-there : goal.mended_in-requires-in-Some-2-clause-there
mended_in-requires-in-Some-2-clause-there c =
    let cut = c.args.cut.now in
    subst (All (λ i. i < member_count cut)) (sym c.from_vec.ensures)
    (below cut c.in-Some-2.order.items
    (subst (λ o. IfSome o (λ v. IsPermutation (members cut) v.items)) c.in-Some-2.is c.in_ok-order-2.ensures.once))

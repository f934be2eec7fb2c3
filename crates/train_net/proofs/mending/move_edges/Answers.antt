use Rattle.std.proofs.Common.{◌+◌, take, sym, subst}
use Rattle.std.specs.List.{AllZip}
use Rattle.std.proofs.lemmas.List.{get_or_default}
use Rattle.std.proofs.lemmas.List.Elements.{all_zip_more}
use Rattle.train_net.specs.Mending.{IsMoved}
use Rattle.train_net.proofs.mending.move_edges.Goals as goal

pub loop-edge-preserved : goal.loop-edge-preserved
loop-edge-preserved c =
    let R = IsMoved c.args.now.now in
    let k = c.loop-edge.edge-index in
    subst (AllZip R (take (k + 1) c.args.edges.now)) (sym c.in_ok-push-in-Some.ensures.items)
    (all_zip_more R c.args.edges.now c.loop-edge.moved.items k _ c.in-Some.edge c.loop-edge-test.true
    (get_or_default c.args.edges.now k _ _ c.loop-edge-test.true) c.loop-edge.invariant c.in-Some.ensures)

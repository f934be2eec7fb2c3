use Rattle.std.proofs.Common.{subst}
use Rattle.std.specs.Prelude.{IfSome}
use Rattle.train_net.specs.Mending.{AreAllMended}
use Rattle.train_net.proofs.Remade.{is_mended}
use Rattle.train_net.proofs.mending.mended_in.Goals as goal

pub returns-in-Some : goal.returns-in-Some
returns-in-Some c =
    let cut = c.args.cut.now in
    let origin = c.args.origin.now in
    let net = c.args.net.now in
    let now = c.args.now.now in
    let order = c.args.order in
    let edges = c.in-Some.edges in
    let mended : AreAllMended cut origin now order net.edges edges =
    subst (λ os. AreAllMended cut origin now os net.edges edges) c.slice.ensures
    (subst (λ o. IfSome o (AreAllMended cut origin now c.slice.result.now net.edges)) c.in-Some.is c.in_ok-edges.ensures) in
    λ old sound is_net is once agree.
    is_mended old cut origin now net order edges sound c.requires.sound is_net is once agree c.requires.now mended

use Rattle.std.proofs.Common.{sym, subst}
use Rattle.std.specs.Prelude.{IfSome}
use Rattle.std.proofs.lemmas.Option.{IfSome_then}
use Rattle.std.proofs.lemmas.Result.{IfOk-weaker}
use Rattle.plan_model.specs.Members.{member_count}
use Rattle.train_net.specs.Mended.{AreMarked}
use Rattle.train_net.specs.Mending.{AreRemadeUpto, AreAllMended}
use Rattle.train_net.proofs.mending.edges_in.Goals as goal

pub returns : goal.returns
returns c =
    let cut = c.args.cut.now in
    let origin = c.args.earlier.origin.now in
    let now = c.args.earlier.now.now in
    let order = c.args.order.now in
    let old = c.args.earlier.edges.now in
    let marks = c.deref.result.now in
    IfOk-weaker c.remade.result (λ r. IfSome r (AreRemadeUpto cut origin now marks order old (member_count cut)))
    (λ r. IfSome r (AreAllMended cut origin now order old))
    (λ r is. IfSome_then r is (λ edges remade. record {
      marks = marks;
      marked = subst (AreMarked cut origin order) (sym c.deref.ensures.value) c.in_ok-marks.ensures.marked;
      remade = remade;
    }))
    c.remade.ensures

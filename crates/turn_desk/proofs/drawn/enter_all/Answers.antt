use Rattle.std.proofs.Common.{◌≡◌, subst, arith}
use Rattle.turn_desk.specs.Entering.{Issues}
use Rattle.turn_desk.proofs.Drawing.{issues_none, issues_more}
use Rattle.turn_desk.proofs.drawn.enter_all.Goals as goal

pub loop-made-init : goal.loop-made-init
loop-made-init g c = issues_none g.V.Kept.pass_of g.V.Kept.issued_by _ _

pub loop-made-preserved : goal.loop-made-preserved
loop-made-preserved g c =
    let did = c.in_ok-enter.ensures in
    issues_more g.V.Kept.pass_of g.V.Kept.issued_by _ _ _ _ _ did.entry.0 c.loop-made.invariant did.entry.1
    did.entry.2 did.issues

pub returns : goal.returns
returns g c =
    let kept = g.V.Kept in
    let all : c.loop-made._made ≡ c.args.count = omega arith in
    subst (λ n. Issues kept.pass_of kept.issued_by c.args.by n (kept.entries c.args.value.now)
    (kept.entries c.loop-made.value)) all c.loop-made.invariant

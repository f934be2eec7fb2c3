use Rattle.turn_desk.specs.Entering.{Issues}
use Rattle.turn_desk.proofs.drawn.enter_all.Given as goal

abbrev pub invariant-loop-made : goal.invariant-loop-made
invariant-loop-made g l =
    let kept = g.V.Kept in Issues kept.pass_of kept.issued_by l.by l._made (kept.entries l.initial.value)
    (kept.entries l.value)

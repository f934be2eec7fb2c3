use Rattle.std.proofs.Common.{sym, subst, ◌∙◌}
use Rattle.std.proofs.lemmas.Bool.{both_ways}
use Rattle.critical_chain.specs.Parts.{HasTrains, KeepsAll}
use Rattle.critical_chain.specs.Checked.{entries_of}
use Rattle.critical_chain.proofs.Fitting.{checked, frame, trains, keeps_all}
use Rattle.critical_chain.proofs.checking.is_checked.Goals as goal
use Rattle.critical_chain.proofs.checking.is_checked.Goals.{then-has_frame, else-has_frame}

pub returns-then-has_trains : goal.returns-then-has_trains
returns-then-has_trains c =
    let cut = c.args.cut.now in
    let plan = c.args.plan.now in
    elim c.if-has_frame.branch [
      | then-has_frame w ↦
          let frame_is = c.has_frame.ensures.0 w.if-has_frame.true in
          let there : HasTrains cut plan.placed = w.has_trains.ensures.0 (sym w.value-is ∙ c.if-has_trains.true) in (
            λ t. checked cut plan c.requires.sound frame_is there
                (subst (λ k. KeepsAll k (entries_of plan) plan) c.of.ensures (c.keeps_all.ensures.0 t)),
            λ k. c.keeps_all.ensures.1 (subst (λ m. KeepsAll m (entries_of plan) plan) (sym c.of.ensures)
                (keeps_all cut plan c.requires.sound c.requires.order c.requires.few k)),
          )
      | else-has_frame w ↦
          absurd (both_ways c.if-has_frame.value (w.value-is ∙ w.if-has_frame.false) c.if-has_trains.true)
    ]

pub returns-else-has_trains : goal.returns-else-has_trains
returns-else-has_trains c =
    let cut = c.args.cut.now in
    let plan = c.args.plan.now in
    elim c.if-has_frame.branch [
      | then-has_frame w ↦ (
        λ t. absurd (both_ways c.if-has_frame.value c.if-has_trains.false t),
        λ k.
            w.value-is
            ∙ w.has_trains.ensures.1 (trains cut plan c.requires.sound c.requires.order c.requires.few k),
      )
      | else-has_frame w ↦ (
        λ t. absurd (both_ways c.if-has_frame.value c.if-has_trains.false t),
        λ k. w.value-is ∙ c.has_frame.ensures.1 (frame cut plan c.requires.sound c.requires.order c.requires.few k),
      )
    ]

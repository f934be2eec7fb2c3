use Rattle.std.proofs.Common.{◌+◌, take, get_or, sym, subst}
use Rattle.std.proofs.lemmas.List.Elements.{All-get_or}
use Rattle.cycle_time.specs.Demands.{IsDemand}
use Rattle.cycle_time.specs.Raising.{AreRaised, AreEarly}
use Rattle.cycle_time.specs.Settling.{IsSoFar}
use Rattle.cycle_time.proofs.Rounded.{kept_more, too_late, once, early_after, same_length, ends_there, named_there}
use Rattle.cycle_time.specs.Rings.{no_demand}
use Rattle.cycle_time.proofs.Raised.{raised_more}
use Rattle.cycle_time.proofs.settling.round.Goals as goal
use Rattle.cycle_time.proofs.settling.round.Goals.{then-raise+else-is_late, else-raise}

pub returns-then-is_late-clause-raised : goal.returns-then-is_late-clause-raised
returns-then-is_late-clause-raised c =
    let cut = c.args.cut.now in
    let e = get_or c.args.demands.now c.loop-demand.demand-index no_demand in
    let is = All-get_or (IsDemand cut) c.args.demands.now c.loop-demand.demand-index no_demand c.loop-demand-test.true c.requires.demands in
    raised_more cut c.args.period c.loop-demand.entries c.loop-demand.causes e is c.raise.new.entries c.raise.new.causes
    (c.raise.ensures.raised c.if-raise.true) c.loop-demand.invariant.0

pub returns-then-is_late-clause-round : goal.returns-then-is_late-clause-round
returns-then-is_late-clause-round c =
    let cut = c.args.cut.now in
    let e = get_or c.args.demands.now c.loop-demand.demand-index no_demand in
    let is = All-get_or (IsDemand cut) c.args.demands.now c.loop-demand.demand-index no_demand c.loop-demand-test.true c.requires.demands in
    let ends = ends_there cut c.args.period c.loop-demand.entries c.loop-demand.causes e is c.loop-demand.invariant.0 in
    too_late cut c.args.period e is c.loop-demand.entries c.raise.new.entries c.loop-demand.causes c.raise.new.causes
    (c.raise.ensures.raised c.if-raise.true) c.loop-demand.invariant.1 ends.0 ends.1 _ c.args.entries.now c.loop-demand.top
    c.loop-demand.invariant.2 (c.is_late.ensures.late c.if-is_late.true)

pub later-requires-clause-top : goal.later-requires-clause-top
later-requires-clause-top c =
    let cut = c.args.cut.now in
    let e = get_or c.args.demands.now c.loop-demand.demand-index no_demand in
    let is = All-get_or (IsDemand cut) c.args.demands.now c.loop-demand.demand-index no_demand c.loop-demand-test.true c.requires.demands in
    let ends = ends_there cut c.args.period c.loop-demand.entries c.loop-demand.causes e is c.loop-demand.invariant.0 in
    named_there c.args.period _ c.args.entries.now c.loop-demand.entries c.raise.new.entries c.loop-demand.top c.loop-demand.invariant.2
    (same_length cut c.args.period e is c.loop-demand.entries c.raise.new.entries c.loop-demand.causes c.raise.new.causes
    (c.raise.ensures.raised c.if-raise.true) c.loop-demand.invariant.1 ends.0 ends.1)

pub loop-demand-preserved : goal.loop-demand-preserved
loop-demand-preserved c =
    let cut = c.args.cut.now in
    let e = get_or c.args.demands.now c.loop-demand.demand-index no_demand in
    let is = All-get_or (IsDemand cut) c.args.demands.now c.loop-demand.demand-index no_demand c.loop-demand-test.true c.requires.demands in
    let ends = ends_there cut c.args.period c.loop-demand.entries c.loop-demand.causes e is c.loop-demand.invariant.0 in
    elim c.if-raise.branch [
      | then-raise+else-is_late w ↦
          let by = c.raise.ensures.raised w.if-raise.true in (
            raised_more cut c.args.period c.loop-demand.entries c.loop-demand.causes e is c.raise.new.entries c.raise.new.causes by
                c.loop-demand.invariant.0,
            early_after cut c.args.period e is c.loop-demand.entries c.raise.new.entries c.loop-demand.causes c.raise.new.causes by
                c.loop-demand.invariant.1 ends.0 ends.1 (w.is_late.ensures.early w.if-is_late.false),
            subst (IsSoFar c.args.period (take (c.loop-demand.demand-index + 1) c.args.demands.now) c.args.entries.now c.raise.new.entries)
                (sym w.top-is)
                (once cut c.args.period e is c.loop-demand.entries c.raise.new.entries c.loop-demand.causes c.raise.new.causes by
                c.loop-demand.invariant.1 ends.0 ends.1 _ c.args.entries.now c.loop-demand.top c.loop-demand.invariant.2 w.later.result
                w.later.ensures),
          )
      | else-raise w ↦
          let kept = c.raise.ensures.kept w.if-raise.false in (
            subst (λ xs. AreRaised cut c.args.period xs c.raise.new.causes) (sym kept.0)
                (subst (AreRaised cut c.args.period c.loop-demand.entries) (sym kept.1) c.loop-demand.invariant.0),
            subst AreEarly (sym kept.0) c.loop-demand.invariant.1,
            subst (IsSoFar c.args.period (take (c.loop-demand.demand-index + 1) c.args.demands.now) c.args.entries.now c.raise.new.entries)
                (sym w.top-is)
                (kept_more c.args.period c.args.demands.now c.loop-demand.demand-index no_demand c.args.entries.now c.loop-demand.entries
                c.raise.new.entries c.loop-demand.top c.loop-demand-test.true kept.0 kept.2 c.loop-demand.invariant.2),
          )
    ]

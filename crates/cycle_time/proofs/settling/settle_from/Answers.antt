use Rattle.std.proofs.Common.{sym, subst}
use Rattle.cycle_time.specs.Cycle.{IsLeastRepeating}
use Rattle.cycle_time.specs.Rings.{IsBehind}
use Rattle.cycle_time.proofs.Settled.{repeats_at, early_again, refused}
use Rattle.cycle_time.proofs.Trails.{are_causes}
use Rattle.cycle_time.proofs.settling.settle_from.Goals as goal

pub ring_behind-requires-clause-causes : goal.ring_behind-requires-clause-causes
ring_behind-requires-clause-causes c =
    let (trails, raised) = c.round.ensures.raised in
    are_causes c.args.cut.now c.args.period c.round.new.entries c.round.new.causes trails raised

pub returns-in-Some-2 : goal.returns-in-Some-2
returns-in-Some-2 c =
    refused c.args.cut.now c.requires.sound c.requires.none c.requires.few c.args.period c.round.new.entries c.round.new.causes
    c.in-Some-2.ring c.round.ensures.raised
    (subst (IsBehind c.round.new.causes c.in-Some.top) c.in-Some-2.is c.in_ok-ring.ensures)

pub loop-top-preserved : goal.loop-top-preserved
loop-top-preserved c = (
  c.round.ensures.raised,
  early_again c.args.cut.now c.requires.sound c.requires.few c.args.period c.loop-top.entries c.round.new.entries
      c.round.new.causes c.in-Some.top c.round.ensures.raised c.in-Some.ensures.round
      (subst (IsBehind c.round.new.causes c.in-Some.top) c.in_default-2.is c.in_ok-ring.ensures),
)

pub returns : goal.returns
returns c =
    subst (IsLeastRepeating c.args.cut.now c.args.period) (sym c.in_ok-list_of.ensures)
    (repeats_at c.args.cut.now c.requires.sound c.args.demands.now c.requires.enough c.args.period c.loop-top.entries
    c.round.new.entries c.round.new.causes c.round.ensures.raised c.in_default.ensures.round)

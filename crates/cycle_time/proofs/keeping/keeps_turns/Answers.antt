use Rattle.std.proofs.Common.{false, refl, arith}
use Rattle.std.proofs.lemmas.Bool.{both_ways}
use Rattle.cycle_time.proofs.Kept.{turn_more, turn_back}
use Rattle.cycle_time.proofs.keeping.keeps_turns.Goals as goal

pub returns-then-not-keeps : goal.returns-then-not-keeps
returns-then-not-keeps c = (
  λ t. absurd (both_ways false refl t),
  λ turns.
      absurd (both_ways c.keeps.result c.if-not-keeps.true (c.keeps.ensures.1
      (turn_back c.args.cut.now c.args.period c.args.entries.now c.args.place c.args.visits.now c.loop-k.k c.loop-k.auto.k
      c.demand_of-demand.result c.demand_of-demand.ensures.is c.loop-k-test.true turns))),
)

pub loop-k-preserved : goal.loop-k-preserved
loop-k-preserved c =
    turn_more c.args.cut.now c.args.period c.args.entries.now c.args.place c.args.visits.now c.loop-k.k c.loop-k.auto.k
    c.demand_of-demand.result c.demand_of-demand.ensures.is c.loop-k.invariant (c.keeps.ensures.0 c.if-not-keeps.false)

pub returns : goal.returns
returns c = (λ t k l. c.loop-k.invariant k (omega (arith, l, c.loop-k-test.false)), λ k. refl)

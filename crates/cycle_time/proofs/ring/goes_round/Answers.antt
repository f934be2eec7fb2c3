use Rattle.std.proofs.Common.{false, refl}
use Rattle.std.proofs.lemmas.Bool.{both_ways}
use Rattle.cycle_time.proofs.Led.{led_none, led_more, led_step}
use Rattle.cycle_time.proofs.ring.goes_round.Goals as goal

pub loop-k-init : goal.loop-k-init
loop-k-init c = led_none c.args.cut.now c.args.first c.args.ring.now c.args.first

pub returns-then-not-leads_on : goal.returns-then-not-leads_on
returns-then-not-leads_on c = (
  λ t. absurd (both_ways false refl t),
  λ h.
      absurd (both_ways c.leads_on.result c.if-not-leads_on.true (c.leads_on.ensures.1
      (led_step c.args.cut.now c.args.first c.args.ring.now c.args.first c.loop-k.k c.loop-k.train c.loop-k.invariant c.loop-k-test.true h))),
)

pub loop-k-preserved : goal.loop-k-preserved
loop-k-preserved c =
    led_more c.args.cut.now c.args.first c.args.ring.now c.args.first c.loop-k.k c.loop-k.train c.loop-k.invariant c.loop-k-test.true
    (c.leads_on.ensures.0 c.if-not-leads_on.false)

use Rattle.cycle_time.specs.Laying.{AreLaidAgain}
use Rattle.cycle_time.proofs.laying.lay_again.Given as goal

abbrev pub invariant-loop-block : goal.invariant-loop-block
invariant-loop-block l = AreLaidAgain l.cut l.order l.demands.items l.ends l.block

use Rattle.std.proofs.Common.{ℕ, ◌<◌}
use Rattle.std.specs.Prelude.{slice_index_or}
use Rattle.plan_model.specs.Members.{member}
use Rattle.critical_chain.specs.Chain.{no_train}
use Rattle.critical_chain.specs.Parts.{IsTrain}
use Rattle.critical_chain.proofs.trains.has_trains.Given as goal

abbrev pub invariant-loop-i : goal.invariant-loop-i
invariant-loop-i l =
    (k : ℕ) → k < l.i → IsTrain (member l.cut k) l.cut.section.from_s (slice_index_or l.placed k no_train)

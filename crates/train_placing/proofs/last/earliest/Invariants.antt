use Rattle.std.proofs.Common.{◌≡◌, take}
use Rattle.std.specs.Prelude.{fold}
use Rattle.train_placing.specs.Last.{after_use}
use Rattle.train_placing.proofs.last.earliest.Given as goal

abbrev pub invariant-loop-one : goal.invariant-loop-one
invariant-loop-one l = l.entry ≡ fold (after_use l.row.entry l.last) l.from (take l.one-index l.row.uses)

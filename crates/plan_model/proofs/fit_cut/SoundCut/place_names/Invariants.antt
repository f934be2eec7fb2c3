use Rattle.std.proofs.Common.{◌≡◌, take}
use Rattle.plan_model.specs.Members.{place_names}
use Rattle.plan_model.proofs.fit_cut.SoundCut.place_names.Given as goal

abbrev pub invariant-loop-place : goal.invariant-loop-place
invariant-loop-place l = l.names ≡ take l.place (place_names l.self)

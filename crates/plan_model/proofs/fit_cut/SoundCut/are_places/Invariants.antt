use Rattle.std.proofs.Common.{◌≡◌, ℕ, ◌<◌, [], get_or}
use Rattle.plan_model.specs.Members.{place_name}
use Rattle.plan_model.proofs.fit_cut.SoundCut.are_places.Given as goal

abbrev pub invariant-loop-place : goal.invariant-loop-place
invariant-loop-place l = (k : ℕ) → k < l.place → get_or l.names k [] ≡ place_name l.self k

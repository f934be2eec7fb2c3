use Rattle.std.proofs.Common.{◌≡◌, ℕ, ◌<◌}
use Rattle.std.specs.Prelude.{Some}
use Rattle.train_net.specs.Mended.{stood}
use Rattle.train_net.proofs.mending.keep_positions.Given as goal

-- the first ones do
abbrev pub invariant-loop-i : goal.invariant-loop-i
invariant-loop-i l = (k a : ℕ) → k < l.i → stood l.origin k ≡ Some a → a ≡ k

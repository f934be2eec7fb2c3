use Rattle.std.proofs.Common.{◌≡◌, ◌<◌, ◌==◌, ℕ, length, take}
use Rattle.std.specs.Prelude.{None, slice_index_or, find}
use Rattle.train_net.specs.Near.{filled, near_by}
use Rattle.train_net.proofs.near.fill.Given as goal

-- the table with the first uses
abbrev pub invariant-loop-one : goal.invariant-loop-one
invariant-loop-one l = record {
  count : length l.near ≡ length l.initial.near;
  all : (place : ℕ) → place < length l.initial.near → slice_index_or l.near place None
      ≡ filled (slice_index_or l.initial.near place None)
      (near_by l.train (find (λ u. u.block == place) (take l.one-index l.uses)) None);
}

use Rattle.std.proofs.Common.{◌≡◌, ℕ, length, take}
use Rattle.std.specs.Prelude.{None, slice_index_or}
use Rattle.train_order.specs.Starts.{start_of}
use Rattle.train_order.specs.OutOfTurn.{AreFrom}
use Rattle.train_order.proofs.pairs.put_starts.Given as goal

-- the table after the first uses
abbrev pub invariant-loop-one : goal.invariant-loop-one
invariant-loop-one l = record {
  count : length l.starts ≡ length l.initial.starts;
  each : (place : ℕ) → slice_index_or l.starts place None ≡ start_of (take l.one-index l.uses) place;
  from : AreFrom l.first l.starts;
}

use Rattle.std.proofs.Common.{◌≡◌, ◌<◌, ℕ, length, take}
use Rattle.std.specs.Prelude.{None, slice_index_or, fold}
use Rattle.train_placing.specs.Last.{with_use}
use Rattle.train_placing.proofs.last.occupy.Given as goal

-- the places after the first uses
abbrev pub invariant-loop-one : goal.invariant-loop-one
invariant-loop-one l = record {
  count : length l.last ≡ length l.initial.last;
  all : (p : ℕ) → p < length l.initial.last → slice_index_or l.last p None
      ≡ fold (with_use l.row.entry l.train l.entry p) (slice_index_or l.initial.last p None)
      (take l.one-index l.row.uses);
}

use Rattle.std.proofs.Common.{◌≡◌, ℕ, ◌<◌, ◌*◌, ◌/◌, length, take}
use Rattle.std.specs.Prelude.{ℤ, pos, slice_index_or, fold}
use Rattle.headway_table.specs.Numbers.{raised_from}
use Rattle.headway_table.proofs.row.raise_by_all.Given as goal

-- each is raised by the first uses, four by four
abbrev pub invariant-loop-four : goal.invariant-loop-four
invariant-loop-four l = record {
  count : length l.greatest ≡ length l.initial.greatest;
  each : (j : ℕ) → j < length l.initial.greatest → slice_index_or l.greatest j (pos 0)
      ≡ fold (raised_from l.starts l.row.entry j) (slice_index_or l.initial.greatest j (pos 0))
      (take (4 * l.four) l.row.uses);
}

-- each is raised by the uses that were left, on top of the fours
abbrev pub invariant-loop-k : goal.invariant-loop-k
invariant-loop-k l = record {
  count : length l.greatest ≡ length l.initial.greatest;
  each : (j : ℕ) (z : ℤ) → j < length l.initial.greatest
      → slice_index_or l.initial.greatest j (pos 0)
      ≡ fold (raised_from l.starts l.row.entry j) z (take (4 * (length l.row.uses / 4)) l.row.uses)
      → slice_index_or l.greatest j (pos 0) ≡ fold (raised_from l.starts l.row.entry j) z (take l.k l.row.uses);
}

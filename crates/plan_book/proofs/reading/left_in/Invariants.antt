use Rattle.std.proofs.Common.{◌≡◌, ℕ, ◌≤◌, length, take}
use Rattle.std.specs.Prelude.{sum_by}
use Rattle.std.specs.List.{range_with_len}
use Rattle.plan_model.specs.Journal.{opening, left_of}
use Rattle.plan_book.proofs.reading.left_in.Given as goal

-- the tasks that are left to the first planners
abbrev pub invariant-loop-place : goal.invariant-loop-place
invariant-loop-place l = record {
  left : l.left ≡ sum_by (λ (p : ℕ). length (left_of l.journal p)) (range_with_len 1 l.place);
  most : l.left ≤ sum_by length (take l.place (opening l.journal).scripts);
}

use Rattle.std.proofs.Common.{◌≡◌, map, take}
use Rattle.row_text.specs.Adds.{AddsAll}
use Rattle.capacity_report.specs.Answers.{train_row}
use Rattle.capacity_report.specs.LastTrains.{bytes_of}
use Rattle.capacity_report.proofs.last_trains.rows_anew.Given as goal

abbrev pub invariant-loop-i : goal.invariant-loop-i
invariant-loop-i l = record {
  rows : AddsAll l.fn.sheet l.sheet (map (train_row l.plan) (take l.i l.plan.placed));
  bytes : l.bytes.items ≡ map bytes_of (map (train_row l.plan) (take l.i l.plan.placed));
}

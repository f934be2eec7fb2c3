use Rattle.std.proofs.Common.{◌≡◌, map, take}
use Rattle.capacity_report.specs.Answers.{train_row}
use Rattle.capacity_report.specs.LastTrains.{bytes_of}
use Rattle.capacity_report.proofs.LastTrains.{IsAgain}
use Rattle.capacity_report.proofs.last_trains.rows_again.Given as goal

abbrev pub invariant-loop-i : goal.invariant-loop-i
invariant-loop-i l = record {
  so_far : IsAgain l.text l.plan l.last.plan l.last.from l.fn.sheet.rows l.sheet.rows l.start l.end l.i;
  bytes : l.bytes.items ≡ map bytes_of (map (train_row l.plan) (take l.i l.plan.placed));
}

use Rattle.std.proofs.Common.{◌≡◌, ◌*◌}
use Rattle.std.specs.Prelude.{min}
use Rattle.section_cut.specs.LineCuts.{AreRowsTo}
use Rattle.section_cut.specs.declared.line_cuts.TheConstants.{RUNS_A_PART}
use Rattle.section_cut.proofs.line_cuts.rows_of_all.Given as goal

-- the rows of the members among the runs of the parts so far
abbrev pub invariant-loop-part : goal.invariant-loop-part
invariant-loop-part l = record {
  stamp : l.all.stamp ≡ l.stamp;
  rows : AreRowsTo l.tables (min l.runs (l.part * RUNS_A_PART)) l.all;
}

use Rattle.std.proofs.Common.{◌≡◌}
use Rattle.std.specs.Prelude.{option_map}
use Rattle.plan_model.specs.Cut.{stamped, cut_of}
use Rattle.acceptance_plans.proofs.changes.write_edits.Given as goal

-- the cut is that of the tables
abbrev pub invariant-loop-edit : goal.invariant-loop-edit
invariant-loop-edit l = cut_of l.tables l.name ≡ option_map (stamped 0) l.cut

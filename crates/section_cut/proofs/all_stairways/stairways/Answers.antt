use Rattle.std.proofs.Common.{◌≡◌, length, map, take, ap, ◌∙◌, arith}
use Rattle.std.specs.Prelude.{drop}
use Rattle.std.proofs.lemmas.List.{take_all}
use Rattle.std.proofs.lemmas.Result.{IfOk-weaker}
use Rattle.rail_model.specs.Blocking.{stair_of}
use Rattle.rail_model.specs.Conflict.{timetable}
use Rattle.rail_model.proofs.Timetables.{stairs_count}
use Rattle.section_cut.proofs.LineCuts.{stairs_by_paths}
use Rattle.section_cut.proofs.all_stairways.stairways.Goals as goal

pub returns : goal.returns
returns c =
    let tables = c.args.tables.now in
    let stairs = map stair_of c.in_ok-paths.paths in
    let same = stairs_by_paths tables c.in_ok-paths.paths c.in_ok-paths.ensures.same in
    IfOk-weaker c.stairways_between.result (λ all. all ≡ drop 0 (take c.runs.result stairs)) (λ all. all ≡ timetable tables)
    (λ all is. is ∙ take_all c.runs.result stairs (omega (arith, c.runs.ensures.count, stairs_count tables, ap length same)) ∙ same)
    c.stairways_between.ensures

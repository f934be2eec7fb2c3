use Rattle.std.proofs.Common.{◌<◌, length, arith}
use Rattle.std.specs.Prelude.{option_map}
use Rattle.rail_model.specs.Tables.{run_at, path_in}
use Rattle.section_cut.specs.Wanted.{stair_wanted}
use Rattle.section_cut.proofs.PathsStay.{stair_told}
use Rattle.section_cut.proofs.ReachedRuns.{stairs_more}
use Rattle.section_cut.proofs.Wanted.{stair_is}
use Rattle.section_cut.proofs.reached_stairs.reached_runs.Goals as goal

pub loop-run-preserved : goal.loop-run-preserved
loop-run-preserved c =
    let earlier = c.args.before.now in
    let later = c.args.after.now in
    let block = c.args.block in
    let n = c.loop-run.run in
    let below : n < length later.runs = omega (arith, c.loop-run-test.true, c.runs-run-end.ensures.count) in
    let told = option_map (λ t. t.items) c.in_ok-told.told in
    stairs_more earlier later block c.loop-run.all.items c.push.new.self.items n c.in_ok-stair.stair
    c.in_ok-push.ensures.items c.loop-run.invariant
    (stair_told earlier later c.args.edit.now c.requires.after c.requires.keeps c.in_ok-passing.passing.items c.in_ok-passing.ensures block n below
    (stair_wanted told (path_in later (run_at later n)))
    (stair_is later c.learn_sound.ensures block n below told c.in_ok-told.ensures)
    c.index.result.now c.index.ensures c.in_ok-stair.stair c.in_ok-stair.ensures)

pub stair_if_passing-requires-clause-paths : goal.stair_if_passing-requires-clause-paths
stair_if_passing-requires-clause-paths c = c.in_ok-found.ensures

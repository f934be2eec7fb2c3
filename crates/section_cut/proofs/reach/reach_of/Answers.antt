use Rattle.std.proofs.Common.{sym, ap, ◌∙◌, subst}
use Rattle.std.specs.Prelude.{filter, IfSome}
use Rattle.section_cut.specs.Connected.{joins}
use Rattle.section_cut.specs.OneRun.{IsOneRun}
use Rattle.section_cut.specs.ReachedRuns.{StayBeside}
use Rattle.section_cut.specs.EditedRun.{KeepsRoute}
use Rattle.section_cut.proofs.KeptBlocks.{same_traffic}
use Rattle.section_cut.proofs.NoRun.{cuts_stay}
use Rattle.section_cut.proofs.Reached.{one_run, one_section}
use Rattle.section_cut.proofs.reach.reach_of.Goals as goal

pub returns-in-Some : goal.returns-in-Some
returns-in-Some c =
    one_section c.args.before.now c.args.after.now c.args.edit.now c.in-Some.name c.requires (sym c.section_edited.ensures ∙ c.in-Some.is)

pub returns-in-Some-run_edited : goal.returns-in-Some-run_edited
returns-in-Some-run_edited c =
    let before = c.args.before.now in
    let after = c.args.after.now in
    let name = c.in-Some-run_edited.name in
    let run = c.in_ok-edited.edited in
    let named = c.in_ok-edited.ensures.name in
    record {
      one = subst (λ n. IsOneRun before after n run.stair) (sym named)
          (one_run before after c.args.edit.now name run.stair c.requires
          (sym c.run_edited.ensures ∙ c.in-Some-run_edited.is) c.in_ok-edited.ensures.stair);
      route = λ e. subst (KeepsRoute before after) (sym named) (c.in_ok-edited.ensures.route e);
      joined = c.in_ok-edited.ensures.joined ∙ ap (λ n. filter (joins n) after.connections) (sym named);
    }

pub returns-then-reaches_no_run : goal.returns-then-reaches_no_run
returns-then-reaches_no_run c =
    cuts_stay c.args.before.now c.args.after.now c.args.edit.now c.requires c.learn_sound.ensures c.learn_sound-2.ensures
    (c.reaches_no_run.ensures c.if-reaches_no_run.true)

pub reached_runs-requires-clause-same : goal.reached_runs-requires-clause-same
reached_runs-requires-clause-same c =
    same_traffic c.args.before.now c.args.after.now c.args.edit.now c.requires (c.keeps_blocks.ensures c.if-keeps_blocks.true)

pub reach_of_runs-requires-clause-block : goal.reach_of_runs-requires-clause-block
reach_of_runs-requires-clause-block c =
    subst (λ t. IfSome c.block_moved-block.result (StayBeside c.args.before.now t)) (sym c.requires) c.block_moved-block.ensures

use Rattle.std.proofs.Common.{refl, arith}
use Rattle.plan_model.proofs.Legality.{legal_has_one}
use Rattle.session_run.proofs.InTurn.{is_planner, none_done, one_script_more, scripts_done}
use Rattle.session_run.proofs.alone.do_scripts.Goals as goal

pub loop-place-init : goal.loop-place-init
loop-place-init c = (refl, c.requires.kept)

pub do_script-requires-clause-planner : goal.do_script-requires-clause-planner
do_script-requires-clause-planner c =
    is_planner c.args.book.now c.loop-place.place c.loop-place.book (legal_has_one c.args.book.now c.journal-first.ensures.is_journal.legal)
    c.requires.none c.loop-place.invariant.0 (omega (arith, c.loop-place-test.true, c.planners-planners.ensures))

pub do_script-requires-clause-none : goal.do_script-requires-clause-none
do_script-requires-clause-none c =
    none_done c.args.book.now c.loop-place.place c.loop-place.book (legal_has_one c.args.book.now c.journal-first.ensures.is_journal.legal)
    c.requires.none c.loop-place.invariant.0 (omega (arith, c.loop-place-test.true, c.planners-planners.ensures))

pub loop-place-preserved : goal.loop-place-preserved
loop-place-preserved c = (
  one_script_more c.args.book.now c.loop-place.place c.loop-place.book (legal_has_one c.args.book.now c.journal-first.ensures.is_journal.legal)
      c.requires.none c.loop-place.invariant.0 (omega (arith, c.loop-place-test.true, c.planners-planners.ensures))
      c.do_script.new.book c.in_ok-do_script.ensures.done,
  c.in_ok-do_script.ensures.kept,
)

pub do_script-requires-clause-kept : goal.do_script-requires-clause-kept
do_script-requires-clause-kept c = c.loop-place.invariant.1

pub catch_up-requires-clause-kept : goal.catch_up-requires-clause-kept
catch_up-requires-clause-kept c = c.loop-place.invariant.1

pub returns : goal.returns
returns c =
    scripts_done c.args.book.now c.loop-place.place c.loop-place.book c.catch_up.new.book
    (omega (arith, c.loop-place-test.false, c.planners-planners.ensures)) c.loop-place.invariant.0 c.in_ok-catch_up.ensures.ok
    c.journal-last.ensures.is_journal.legal

use Rattle.section_worker.specs.Keeping.{KeepsWhatWasRead}
use Rattle.session_run.specs.Ahead.{AreAhead}
use Rattle.session_run.specs.Turns.{IsCatchingUp}
use Rattle.session_run.proofs.alone.catch_up.Given as goal

-- some sections are answered, what is kept was read, and so was what is answered ahead
abbrev pub invariant-loop-step : goal.invariant-loop-step
invariant-loop-step l =
    IsCatchingUp l.step l.initial.book l.book × KeepsWhatWasRead l.worker l.book × AreAhead l.book l.ahead

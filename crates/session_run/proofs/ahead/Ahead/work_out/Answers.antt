use Rattle.session_run.proofs.AnsweredAhead.{worked_out}
use Rattle.session_run.proofs.ahead.Ahead.work_out.Goals as goal

pub returns : goal.returns
returns c =
    worked_out c.args.self.now _ _ c.answer_by.result c.ok.ensures.value c.answer_by.ensures.reading c.answer_by.ensures.keep
    c.answer_by.ensures.answer

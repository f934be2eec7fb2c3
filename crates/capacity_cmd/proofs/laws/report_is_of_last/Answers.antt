use Rattle.capacity_cmd.proofs.LastAnswers.{answered_last, reports_last}
use Rattle.capacity_cmd.proofs.laws.report_is_of_last.Goals as goal

pub returns : goal.returns
returns c = record {
  answers = λ tables at scripts workers journal is. answered_last journal is.legal is.current;
  report = λ tables at scripts workers journal text is written. reports_last journal text is.legal is.current written;
}

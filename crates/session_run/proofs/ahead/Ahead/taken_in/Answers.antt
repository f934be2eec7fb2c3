use Rattle.std.proofs.Common.{sym, ap, ◌∙◌}
use Rattle.std.proofs.lemmas.Option.{MatchOption-at_some}
use Rattle.rail_model.specs.declared.items.Section.{Section}
use Rattle.session_run.specs.Ahead.{AreOf}
use Rattle.session_run.proofs.AnsweredAhead.{keeps_put}
use Rattle.session_run.proofs.ahead.Ahead.taken_in.Goals as goal
use Rattle.session_run.proofs.ahead.Ahead.taken_in.Goals.{In-Some}

are_of : (c : In-Some) → AreOf c.args.self.now.reading (c.in-Some.kept, c.in-Some.answer)
are_of c = MatchOption-at_some _ _ _ (sym c.take.ensures.value ∙ c.in-Some.is) c.requires

pub returns-clause-answer : goal.returns-clause-answer
returns-clause-answer c = record {
  section = ap (λ (s : Section). s.name) c.section.ensures;
  at = c.at.ensures;
  answer = (are_of (goal.at.returns-clause-answer c).In-Some).1;
}

pub returns-clause-keeps : goal.returns-clause-keeps
returns-clause-keeps c =
    keeps_put c.section.result.now.name c.args.self.now.reading c.args.worker.now c.put.new.self c.in-Some.kept
    (ap (λ (s : Section). s.name) c.section.ensures) (are_of (goal.at.returns-clause-keeps c).In-Some).0
    c.in_ok-put.ensures.ok

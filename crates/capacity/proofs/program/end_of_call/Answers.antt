use Rattle.std.proofs.Common.{◌∙◌, ap, sym, inl, inr, is_some}
use Rattle.std.proofs.lemmas.Bool.{false≢true}
use Rattle.capacity_cmd.specs.Outcome.{status_number}
use Rattle.capacity.proofs.program.end_of_call.Goals as goal

pub returns : goal.returns
returns g c =
    let is = c.from.ensures ∙ c.number.ensures in
    record {
      status = c.call-status.result;
      call = c.call-status.ensures;
      number = is;
      bad_words = λ bad. elim c.call-status.ensures [
        | inl had ↦ absurd (had.good bad)
        | inr has ↦ (elim has.why [ inl rejected ↦ is ∙ ap status_number rejected.0 | inr memory ↦ absurd (memory.1 bad) ], has.unread, has.unwritten)
      ];
      no_words = λ none. elim c.call-status.ensures [
        | inl had ↦ absurd (false≢true (sym none ∙ ap is_some had.told_are))
        | inr has ↦ (elim has.why [ inl bad ↦ inl (is ∙ ap status_number bad.0) | inr memory ↦ inr (is ∙ ap status_number memory.0) ], has.unread, has.unwritten)
      ];
    }

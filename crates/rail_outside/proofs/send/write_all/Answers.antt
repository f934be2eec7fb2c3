use Rattle.std.proofs.Common.{Some, ◌∙◌, arith, length-take, length-drop}
use Rattle.std.proofs.KnownBytes.{Appends-kept}
use Rattle.rail_outside.proofs.Pieces.{after_error, Appends-more}
use Rattle.rail_outside.proofs.send.write_all.Goals as goal

pub loop-sent-preserved : goal.loop-sent-preserved
loop-sent-preserved g c =
    let told = c.in_ok-sent.ensures in
    let past = c.loop-sent.invariant in
    let text = c.args.text.now in
    let sent = c.loop-sent.sent in
    record {
      in_text = omega (arith, told.within, simp (length-take, length-drop) at told.within);
      prefix = Appends-more _ _ _ text sent c.in_ok-sent.field-0 past.prefix told.appended;
      taken = Appends-more (Some _) (Some _) (Some _) text sent c.in_ok-sent.field-0 past.taken told.more;
      no_fault = told.no_fault ∙ past.no_fault;
    }

pub returns-in_err-sent-clause-prefix : goal.returns-in_err-sent-clause-prefix
returns-in_err-sent-clause-prefix g c =
    let past = c.loop-sent.invariant in
    let told = c.in_err-sent.ensures in
    after_error c.from_residual.result
    (c.loop-sent.sent, past.in_text, Appends-kept _ _ _ _ past.prefix told.nothing, told.none_taken ∙ past.taken)

use Rattle.std.proofs.Common.{◌≡◌, ◌++◌, ◌∙◌}
use Rattle.std.specs.Io.KnownBytes.{Appends}
use Rattle.std.proofs.KnownBytes.{Appends-kept}
use Rattle.std.proofs.lemmas.Result.{on_ok_weaker, on_err_weaker}
use Rattle.rail_outside.proofs.Pieces.{Appends-whole}
use Rattle.rail_outside.proofs.send.send_all.Given.{Over}
use Rattle.rail_outside.proofs.send.send_all.Goals as goal

all_written : (g : Over) (c : goal.After-flush g) → Appends (g.K.Sink.written c.args.sink.now) (g.K.Sink.written c.flush.new.self) c.args.text.now
all_written g c = Appends-kept _ _ _ _ c.in_ok-write_all.ensures.sent c.flush.ensures.nothing

all_taken : (g : Over) (c : goal.After-flush g) → g.K.Sink.taken c.flush.new.self ≡ g.K.Sink.taken c.args.sink.now ++ c.args.text.now
all_taken g c = c.flush.ensures.none_taken ∙ c.in_ok-write_all.ensures.taken

pub returns-clause-sent : goal.returns-clause-sent
returns-clause-sent g c = on_ok_weaker c.flush.result (λ _. all_written g c) c.flush.ensures.all

pub returns-clause-taken : goal.returns-clause-taken
returns-clause-taken g c = on_ok_weaker c.flush.result (λ _. all_taken g c) c.flush.ensures.all

pub returns-clause-prefix : goal.returns-clause-prefix
returns-clause-prefix g c =
    on_err_weaker c.flush.result (λ _. Appends-whole _ _ _ _ _ (all_written g c) (all_taken g c)) c.flush.ensures.failed

use Rattle.std.proofs.Common.{◌≡◌, ◌++◌, Some, flat_map, refl, ap, ◌∙◌}
use Rattle.std.specs.Io.KnownBytes.{Appends}
use Rattle.std.proofs.KnownBytes.{Appends-nil}
use Rattle.std.proofs.lemmas.Result.{on_ok_weaker, on_err_weaker}
use Rattle.rail_outside.proofs.Pieces.{after_error, Appends-whole, Appends-all, Appends-piece, Appends-part}
use Rattle.rail_outside.proofs.send.send_each.Given.{Over}
use Rattle.rail_outside.proofs.send.send_each.Goals as goal

pub loop-piece-init : goal.loop-piece-init
loop-piece-init g c = record {
  written = Appends-nil _;
  taken = Appends-nil (Some (g.K.Sink.taken c.args.sink.now));
  no_fault = refl;
}

pub loop-piece-preserved : goal.loop-piece-preserved
loop-piece-preserved g c =
    let so_far = c.loop-piece.invariant in
    let told = c.in_ok-write_all.ensures in
    let is = c.deref.ensures.value ∙ ap (λ piece. piece.items) c.piece-item.is in
    record {
      written = Appends-piece c.args.pieces.now c.loop-piece.piece-index c.loop-piece-test.true c.piece-item.result _ is _ _ _
          so_far.written told.sent;
      taken = Appends-piece c.args.pieces.now c.loop-piece.piece-index c.loop-piece-test.true c.piece-item.result _ is
          (Some _) (Some _) (Some _) so_far.taken told.taken;
      no_fault = told.no_fault ∙ so_far.no_fault;
    }

pub returns-in_err-write_all-clause-prefix : goal.returns-in_err-write_all-clause-prefix
returns-in_err-write_all-clause-prefix g c =
    let (n, within, wrote, took) = c.in_err-write_all.ensures.prefix in
    let so_far = c.loop-piece.invariant in
    after_error c.from_residual.result
    (Appends-part c.args.pieces.now c.loop-piece.piece-index c.loop-piece-test.true c.piece-item.result _
    (c.deref.ensures.value ∙ ap (λ piece. piece.items) c.piece-item.is) _ _ _ _ _ _ so_far.written so_far.taken n within wrote took)

all_written : (g : Over) (c : goal.After-flush g) → Appends (g.K.Sink.written c.args.sink.now) (g.K.Sink.written c.flush.new.self) (flat_map (λ piece. piece.items) c.args.pieces.now)
all_written g c =
    Appends-all _ _ _ c.args.pieces.now c.loop-piece.piece-index c.loop-piece-test.false c.loop-piece.invariant.written
    c.flush.ensures.nothing

all_taken : (g : Over) (c : goal.After-flush g) → g.K.Sink.taken c.flush.new.self ≡ g.K.Sink.taken c.args.sink.now ++ flat_map (λ piece. piece.items) c.args.pieces.now
all_taken g c =
    Appends-all (Some _) (Some _) (Some _) c.args.pieces.now c.loop-piece.piece-index c.loop-piece-test.false c.loop-piece.invariant.taken
    c.flush.ensures.none_taken

pub returns-clause-sent : goal.returns-clause-sent
returns-clause-sent g c = on_ok_weaker c.flush.result (λ _. all_written g c) c.flush.ensures.all

pub returns-clause-taken : goal.returns-clause-taken
returns-clause-taken g c = on_ok_weaker c.flush.result (λ _. all_taken g c) c.flush.ensures.all

pub returns-clause-prefix : goal.returns-clause-prefix
returns-clause-prefix g c =
    on_err_weaker c.flush.result (λ _. Appends-whole _ _ _ _ _ (all_written g c) (all_taken g c)) c.flush.ensures.failed

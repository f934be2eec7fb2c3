use Rattle.std.proofs.Common.{◌≡◌, ◌+◌, ◌≤◌, ◌∙◌, [], ◌∷◌, ◌++◌, length, map, ap, sym, arith}
use Rattle.std.specs.List.{range_with_len}
use Rattle.std.proofs.lemmas.List.FromFn.{map-range_with_len_more, length-map-range_with_len}
use Rattle.rail_model.specs.Blocking.{hop_count, use_of}
use Rattle.blocking_time.proofs.walk.stairway.Goals as goal

pub loop-done-preserved : goal.loop-done-preserved
loop-done-preserved c =
    let uses = map (use_of c.args.path.now) (range_with_len 1 c.loop-done.done) in
    let more = map-range_with_len_more (use_of c.args.path.now) 1 c.loop-done.done (c.loop-done.done + 1) (omega arith) in
    record {
      uses = c.in_ok-push.ensures.items ∙ ap (λ l. l ++ c.use_in.result ∷ []) c.loop-done.invariant.uses ∙ ap (λ u. uses ++ u ∷ []) c.use_in.ensures ∙ sym more;
      stop = c.next_stop-stop.ensures;
    }

pub from_vec-requires : goal.from_vec-requires
from_vec-requires c =
    let whole : c.loop-done.done ≡ hop_count c.args.path.now = grind arith in
    let count = ap length c.loop-done.invariant.uses ∙ length-map-range_with_len (use_of c.args.path.now) 1 c.loop-done.done in
    let most : hop_count c.args.path.now ≤ 256 = c.requires.fits.most in
    omega arith

pub returns : goal.returns
returns c =
    let whole : c.loop-done.done ≡ hop_count c.args.path.now = grind arith in
    c.from_vec.ensures ∙ c.loop-done.invariant.uses ∙ ap (λ n. map (use_of c.args.path.now) (range_with_len 1 n)) whole

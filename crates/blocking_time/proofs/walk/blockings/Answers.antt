use Rattle.std.proofs.Common.{◌≡◌, ◌+◌, ◌≤◌, ◌<ℤ◌, ◌∙◌, [], ◌∷◌, ◌++◌, length, map, ap, sym, arith}
use Rattle.std.specs.List.{range_with_len}
use Rattle.std.proofs.lemmas.List.FromFn.{map-range_with_len_more, length-map-range_with_len}
use Rattle.rail_model.specs.Blocking.{hop_count}
use Rattle.blocking_time.specs.declared.walk.Blocking.{Blocking}
use Rattle.blocking_time.specs.Blocking.{IsUseBounded, blocking_of}
use Rattle.blocking_time.proofs.Uses.{All-blockings, not_empty, bounded}
use Rattle.blocking_time.proofs.walk.blockings.Goals as goal

pub returns-clause-not_empty : goal.returns-clause-not_empty
returns-clause-not_empty c =
    let whole : c.loop-i.i ≡ hop_count c.args.path.now = grind arith in
    All-blockings (λ (b : Blocking). b.used.start <ℤ b.used.«end») c.args.path.now (not_empty c.args.path.now c.requires) c.from_vec.result c.loop-i.i (c.from_vec.ensures ∙ c.loop-i.invariant.0) whole

pub returns-clause-bounded : goal.returns-clause-bounded
returns-clause-bounded c =
    let whole : c.loop-i.i ≡ hop_count c.args.path.now = grind arith in
    All-blockings (λ (b : Blocking). IsUseBounded b.used) c.args.path.now (bounded c.args.path.now c.requires) c.from_vec.result c.loop-i.i (c.from_vec.ensures ∙ c.loop-i.invariant.0) whole

pub from_vec-requires : goal.from_vec-requires
from_vec-requires c =
    let whole : c.loop-i.i ≡ hop_count c.args.path.now = grind arith in
    let count = ap length c.loop-i.invariant.0 ∙ length-map-range_with_len (blocking_of c.args.path.now) 1 c.loop-i.i in
    let most : hop_count c.args.path.now ≤ 256 = c.requires.most in
    omega arith

pub loop-i-preserved : goal.loop-i-preserved
loop-i-preserved c =
    let more = map-range_with_len_more (blocking_of c.args.path.now) 1 c.loop-i.i (c.loop-i.i + 1) (omega arith) in
    (c.in_ok-push.ensures.items ∙ ap (λ l. l ++ c.blocking_in.result ∷ []) c.loop-i.invariant.0 ∙ ap (λ b. map (blocking_of c.args.path.now) (range_with_len 1 c.loop-i.i) ++ b ∷ []) c.blocking_in.ensures ∙ sym more, c.next_stop-stop.ensures)

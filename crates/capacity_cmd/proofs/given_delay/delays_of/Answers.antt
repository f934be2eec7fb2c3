use Rattle.std.proofs.Common.{Some, map, sym, ap, ◌∙◌, arith}
use Rattle.std.specs.List.{range_with_len}
use Rattle.std.specs.String.{string_bytes}
use Rattle.std.proofs.lemmas.List.FromFn.{map-range_with_len_more}
use Rattle.capacity_cmd.specs.Command.{pair_at, all_of}
use Rattle.capacity_cmd.proofs.GivenDelays.{all_of_more, nothing_given}
use Rattle.capacity_cmd.proofs.given_delay.delays_of.Goals as goal

pub returns-in-None : goal.returns-in-None
returns-in-None c =
    sym (nothing_given string_bytes c.args.words.now c.loop-k.k c.loop-k-test.true (sym c.pair_at.ensures ∙ c.in-None.is))

pub loop-k-preserved : goal.loop-k-preserved
loop-k-preserved c =
    let k = c.loop-k.k in
    let F = pair_at (map string_bytes c.args.words.now) in
    ap Some c.in_ok-push-in-Some.ensures.ok
    ∙ all_of_more (map F (range_with_len 0 k)) (F k) c.in-Some.given c.loop-k.delays c.loop-k.invariant
    (sym c.pair_at.ensures ∙ c.in-Some.is)
    ∙ ap all_of (sym (map-range_with_len_more F 0 k k (omega arith)))

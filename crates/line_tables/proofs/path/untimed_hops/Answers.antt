use Rattle.std.proofs.Common.{map, sym, ap, ◌∙◌, arith}
use Rattle.std.proofs.lemmas.List.{map_more, take_all}
use Rattle.line_tables.specs.Hops.{hop_of}
use Rattle.line_tables.proofs.path.untimed_hops.Goals as goal

pub loop-key-preserved : goal.loop-key-preserved
loop-key-preserved c =
    let so_far = c.loop-key.invariant in
    record {
      hops = rw (c.push_reserved.ensures.items, c.untimed_hop.ensures, so_far.hops) (sym (map_more (hop_of c.args.blocks.now c.args.signals.now) c.args.keys.now c.loop-key.key-index 0 c.loop-key-test.true));
      count = omega (arith, so_far.count, c.push_reserved.ensures.len);
      room = c.push_reserved.ensures.capacity ∙ so_far.room;
    }

pub push_reserved-requires : goal.push_reserved-requires
push_reserved-requires c =
    let so_far = c.loop-key.invariant in
    omega (arith, so_far.count, so_far.room, c.loop-key-test.true)

pub returns : goal.returns
returns c =
    let all = take_all c.loop-key.key-index c.args.keys.now c.loop-key-test.false in
    c.from_vec.ensures ∙ c.loop-key.invariant.hops ∙ ap (map (hop_of c.args.blocks.now c.args.signals.now)) all

use Rattle.std.proofs.Common.{◌≡◌, get_or, refl, sym, ap, ◌∙◌, arith}
use Rattle.std.proofs.lemmas.List.{map_more, take_all}
use Rattle.line_tables.specs.Table.{under, name_at}
use Rattle.line_tables.specs.KeptRoutes.{names_under}
use Rattle.line_tables.proofs.Labels.{signal_name}
use Rattle.line_tables.proofs.kept_route.names_of.Goals as goal

pub loop-key-preserved : goal.loop-key-preserved
loop-key-preserved c =
    let signals = c.args.signals.now in
    let keys = c.args.keys.now in
    let i = c.loop-key.key-index in
    let so_far = c.loop-key.invariant in
    let name : c.get.result.now.item.name ≡ name_at signal_name (under signals) (get_or keys i 0) = rw c.get.ensures.item refl in
    record {
      names = rw (c.push_reserved.ensures.items, name, so_far.names) (sym (map_more (name_at signal_name (under signals)) keys i 0 c.loop-key-test.true));
      count = omega (arith, so_far.count, c.push_reserved.ensures.len);
      room = c.push_reserved.ensures.capacity ∙ so_far.room;
    }

pub push_reserved-requires : goal.push_reserved-requires
push_reserved-requires c =
    let so_far = c.loop-key.invariant in
    omega (arith, so_far.count, so_far.room, c.loop-key-test.true)

pub returns : goal.returns
returns c =
    let all = take_all c.loop-key.key-index c.args.keys.now c.loop-key-test.false in
    c.from_vec.ensures ∙ c.loop-key.invariant.names ∙ ap (names_under c.args.signals.now) all

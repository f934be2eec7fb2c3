use Rattle.std.proofs.Common.{◌≡◌, Some, map, get_or, sym, ap, ◌∙◌, refl, arith}
use Rattle.std.specs.List.{list_all}
use Rattle.std.proofs.lemmas.Bool.{and_from}
use Rattle.std.proofs.lemmas.List.{map-append, map_more, take_all}
use Rattle.std.proofs.lemmas.List.Folds.{list_all_at, list_all_more}
use Rattle.rail_model.specs.Rules.{is_named}
use Rattle.line_tables.specs.Table.{key_of, named}
use Rattle.line_tables.proofs.linked.known_keys.Goals as goal

pub returns-in_default-clause-known : goal.returns-in_default-clause-known
returns-in_default-clause-known g c =
    let p = is_named (named g.T.Named.label) c.args.table.now in
    let names = c.args.names.now in
    let i = c.loop-name.name-index in
    let n = c.name-item.result in
    let within = c.loop-name-test.true in
    let is : n ≡ get_or names i n = c.name-item.is in
    sym (list_all_at p names i n within (ap p (sym is) ∙ sym c.in_default.ensures.there))

pub loop-name-preserved : goal.loop-name-preserved
loop-name-preserved g c =
    let p = is_named (named g.T.Named.label) c.args.table.now in
    let f = key_of g.T.Named.label c.args.table.now in
    let names = c.args.names.now in
    let i = c.loop-name.name-index in
    let n = c.name-item.result in
    let so_far = c.loop-name.invariant in
    let within = c.loop-name-test.true in
    let is : n ≡ get_or names i n = c.name-item.is in
    record {
      known = list_all_more p names i n within ∙ and_from _ _ so_far.known (ap p (sym is) ∙ sym c.in-Some.ensures.there);
      keys = map_more f names i n within ∙ rw (so_far.keys, ← is, ← c.in-Some.ensures.key, c.push_reserved.ensures.items, map-append) refl;
      count = omega (arith, so_far.count, c.push_reserved.ensures.len);
      room = c.push_reserved.ensures.capacity ∙ so_far.room;
    }

pub push_reserved-requires : goal.push_reserved-requires
push_reserved-requires g c =
    let so_far = c.loop-name.invariant in
    omega (arith, so_far.count, so_far.room, c.loop-name-test.true)

pub returns-clause-known : goal.returns-clause-known
returns-clause-known g c =
    let p = is_named (named g.T.Named.label) c.args.table.now in
    let all = take_all c.loop-name.name-index c.args.names.now c.loop-name-test.false in
    sym (ap (list_all p) (sym all) ∙ c.loop-name.invariant.known)

pub returns-clause-keys : goal.returns-clause-keys
returns-clause-keys g c =
    let f = key_of g.T.Named.label c.args.table.now in
    let all = take_all c.loop-name.name-index c.args.names.now c.loop-name-test.false in
    ap (map f) (sym all) ∙ c.loop-name.invariant.keys ∙ ap (map Some) (sym c.from_vec.ensures)

use Rattle.std.proofs.Common.{◌≡◌, ◌<◌, length, rules, arith, to_z, of_z, w32}
use Rattle.std.specs.Prelude.{pos, slice_index_or}
use Rattle.headway_table.specs.Numbers.{raised_at}
use Rattle.headway_table.proofs.Place.{one_more}
use Rattle.headway_table.proofs.row.raise.Goals as goal

pub loop-j-preserved : goal.loop-j-preserved
loop-j-preserved c =
    let now = c.loop-j.greatest in
    let j = c.loop-j.j in
    let x = to_z w32 (of_z w32 c.raised.result) in
    let there : j < length now = omega (arith, c.loop-j-test.true, c.loop-j.invariant.count) in
    let is : x ≡ raised_at c.args.place.now j (slice_index_or now j (pos 0)) = search rules in
    one_more (raised_at c.args.place.now) j c.args.greatest.now now x c.loop-j.invariant there is

use Rattle.std.proofs.Common.{◌≤◌, refl, arith, get_or}
use Rattle.std.proofs.lemmas.List.{get_or_read}
use Rattle.line_tables.specs.KeyCounts.{count_of}
use Rattle.line_tables.proofs.Counts.{times_at, counted_within}
use Rattle.line_tables.proofs.key_counts.KeyCounts.remove.Goals as goal

pub index_mut-requires : goal.index_mut-requires
index_mut-requires c =
    let keys = c.args.keys.now in
    let i = c.loop-key.key-index in
    let k = get_or keys i 0 in
    let some : 1 ≤ count_of c.loop-key.self-inside.counts.items k =
    omega (arith, c.loop-key.invariant k, rw (← c.self.view_is) at (c.requires k), times_at keys i k c.loop-key-test.true refl) in
    omega (arith, counted_within c.loop-key.self-inside.counts.items k some)

pub overflow_sub-index_mut : goal.overflow_sub-index_mut
overflow_sub-index_mut c =
    let keys = c.args.keys.now in
    let i = c.loop-key.key-index in
    let k = get_or keys i 0 in
    let some : 1 ≤ count_of c.loop-key.self-inside.counts.items k =
    omega (arith, c.loop-key.invariant k, rw (← c.self.view_is) at (c.requires k), times_at keys i k c.loop-key-test.true refl) in
    let within = counted_within c.loop-key.self-inside.counts.items k some in
    omega (arith, get_or_read c.loop-key.self-inside.counts.items k c.index_mut.result.now within c.index_mut.ensures.value 0)

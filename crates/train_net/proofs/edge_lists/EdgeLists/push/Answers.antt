use Rattle.std.proofs.Common.{◌≡◌, ◌++◌, ap, length, arith}
use Rattle.std.proofs.lemmas.List.{length-append}
use Rattle.train_net.proofs.Parts.{ends_more, parts_more}
use Rattle.train_net.proofs.edge_lists.EdgeLists.push.Goals as goal

pub invariant_of-self-2 : goal.invariant_of-self-2
invariant_of-self-2 c =
    let old = c.self.inside.edges.items in
    let ends = c.self.inside.ends.items in
    let items = c.in_ok-extend_from_slice.ensures.items in
    let ok = c.extend_from_slice.new.self.ok in
    let count : c.len.result ≡ length (old ++ c.args.edges.now) = omega (arith, ok, ap length items) in
    rw (c.push_reserved.ensures.items, c.reserve.ensures.items, items, count)
    (ends_more 0 ends (length old) (length (old ++ c.args.edges.now)) c.self.invariant (omega (arith, length-append old c.args.edges.now)))

pub returns : goal.returns
returns c =
    let old = c.self.inside.edges.items in
    let ends = c.self.inside.ends.items in
    let items = c.in_ok-extend_from_slice.ensures.items in
    let ok = c.extend_from_slice.new.self.ok in
    let count : c.len.result ≡ length (old ++ c.args.edges.now) = omega (arith, ok, ap length items) in
    rw (c.push_reserved.ensures.items, c.reserve.ensures.items, items, count, ← c.self.view_is)
    (parts_more 0 ends old c.args.edges.now c.self.invariant)

use Rattle.std.proofs.Common.{rules, ◌≡◌, List, length, take, drop, ◌++◌, sym, subst, arith}
use Rattle.std.specs.Prelude.{slice_index}
use Rattle.std.proofs.lemmas.List.{take_at}
use Rattle.train_net.specs.declared.edge.Edge.{Edge}
use Rattle.train_net.specs.Net.{AreEdges, edges_to}
use Rattle.train_net.proofs.making.all_edges.Goals as goal

pub returns-clause-each : goal.returns-clause-each
returns-clause-each c =
    let new = c.put_edges.new.edges in
    let rest = drop (length new) c.in_ok-edges.edges.items in
    let long : c.in_ok-edges.edges.len ≡ length new = first_of (search rules, omega (arith, c.put_edges.ensures.lists, c.deref_mut.ensures.len)) in
    let same : take c.in_ok-edges.edges.len (new ++ rest) ≡ new = take_at new rest c.in_ok-edges.edges.len (sym long) in
    λ at l.
    subst (λ (es : List (List Edge)). AreEdges c.args.cut.now c.args.order.now at (edges_to es (slice_index c.args.order.now at))) (sym same)
    (c.in_ok-put_edges.ensures.each at l)

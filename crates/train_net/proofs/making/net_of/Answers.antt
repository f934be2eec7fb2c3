use Rattle.std.proofs.Common.{◌<◌, ℕ, List, length, sym, ap, subst, ◌∙◌}
use Rattle.std.specs.Prelude.{slice_index}
use Rattle.train_net.specs.declared.edge.Edge.{Edge}
use Rattle.train_net.specs.Net.{AreEdges, edges_to, IsNet}
use Rattle.train_net.proofs.making.net_of.Goals as goal

pub returns-clause-net : goal.returns-clause-net
returns-clause-net c =
    let cut = c.args.cut.now in
    let order = c.args.order in
    let items = c.in_ok-lists.lists.items in
    let each : (at : ℕ) → at < length order → AreEdges cut order at (edges_to items (slice_index order at)) =
    subst (λ (os : List ℕ). (at : ℕ) → at < length os → AreEdges cut os at (edges_to items (slice_index os at))) c.slice.ensures
    c.in_ok-lists.ensures.each in
    let is = c.in_ok-edges.ensures ∙ c.deref.ensures.value in
    record {
      net =
          subst (λ (es : List (List Edge)). IsNet cut order es) (sym is)
          (record { in_order = c.requires.order; each = each });
      lists = ap length is ∙ c.in_ok-lists.ensures.lists;
    }

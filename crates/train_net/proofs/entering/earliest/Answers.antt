use Rattle.std.proofs.Common.{◌≡◌, ◌++◌, [], ◌∷◌, List, take, get_or, rules, sym, subst, ◌∙◌, to_z, of_z, w64}
use Rattle.std.specs.Prelude.{pos}
use Rattle.std.proofs.lemmas.List.{take_more}
use Rattle.train_net.specs.declared.edge.Edge.{Edge}
use Rattle.train_net.specs.Read.{IsSolved}
use Rattle.train_net.proofs.Entered.{solved_more}
use Rattle.train_net.proofs.entering.earliest.Goals as goal

pub loop-edge-preserved : goal.loop-edge-preserved
loop-edge-preserved c =
    let entries = c.args.entries.now in
    let edges = c.args.edges.now in
    let k = c.loop-edge.edge-index in
    let floor = to_z w64 (of_z w64 c.args.floor) in
    let none : Edge = record { from = 0; weight = pos 0; place = 0 } in
    let e = get_or edges k none in
    let next = c.with_edge-entry.result in
    let fits : to_z w64 (of_z w64 next) ≡ next = search rules in
    subst (λ (es : List Edge). IsSolved floor es entries (to_z w64 (of_z w64 next)))
    (sym (take_more edges k none c.loop-edge-test.true))
    (subst (IsSolved floor (take k edges ++ e ∷ []) entries) (sym (fits ∙ c.with_edge-entry.ensures))
    (solved_more floor (take k edges) entries _ e c.loop-edge.invariant))

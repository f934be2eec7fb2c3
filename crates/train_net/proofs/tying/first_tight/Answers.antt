use Rattle.std.proofs.Common.{◌≡◌, ◌++◌, [], ◌∷◌, List, take, get_or, rules, sym, ap, subst, ◌∙◌, to_z, of_z, w64}
use Rattle.std.specs.Prelude.{pos}
use Rattle.std.proofs.lemmas.List.{take_more, take_all}
use Rattle.train_net.specs.declared.edge.Edge.{Edge}
use Rattle.train_net.specs.Reading.{first_of_two, IsFirstOf}
use Rattle.train_net.proofs.First.{first_more}
use Rattle.train_net.proofs.tying.first_tight.Goals as goal

pub loop-edge-preserved : goal.loop-edge-preserved
loop-edge-preserved c =
    let cut = c.args.cut.now in
    let edges = c.args.edges.now in
    let entries = c.args.entries.now in
    let entry = to_z w64 (of_z w64 c.args.entry) in
    let k = c.loop-edge.edge-index in
    let none : Edge = record { from = 0; weight = pos 0; place = 0 } in
    let e = get_or edges k none in
    record {
      first =
          subst (λ (es : List Edge). IsFirstOf cut es entries entry c.first_of_two-best.result)
          (sym (take_more edges k none c.loop-edge-test.true))
          (subst (IsFirstOf cut (take k edges ++ e ∷ []) entries entry)
          (sym (c.first_of_two-best.ensures.first ∙ ap (first_of_two cut c.loop-edge.best) c.tight_of.ensures))
          (first_more cut (take k edges) entries entry e c.loop-edge.best c.loop-edge.invariant.first));
      there = c.first_of_two-best.ensures.there;
    }

pub returns : goal.returns
returns c =
    let cast : to_z w64 (of_z w64 c.args.entry) ≡ c.args.entry = search rules in
    subst (λ t. IsFirstOf c.args.cut.now c.args.edges.now c.args.entries.now t c.loop-edge.best) cast
    (subst (λ (es : List Edge). IsFirstOf c.args.cut.now es c.args.entries.now (to_z w64 (of_z w64 c.args.entry)) c.loop-edge.best)
    (take_all c.loop-edge.edge-index c.args.edges.now c.loop-edge-test.false) c.loop-edge.invariant.first)

use Rattle.std.proofs.Common.{[], ◌∷◌, ◌++◌, List, sym, subst}
use Rattle.std.specs.Prelude.{Option, Some}
use Rattle.train_net.specs.declared.edge.Edge.{Edge}
use Rattle.train_net.specs.Gathered.{with_last, Gathers}
use Rattle.train_net.proofs.Gathering.{gathers_one, gathers_tighter}
use Rattle.train_net.proofs.edges.gather.Goals as goal

pub returns-then-one-edge-clause-gathers : goal.returns-then-one-edge-clause-gathers
returns-then-one-edge-clause-gathers c =
    let cut = c.args.cut.now in
    let edges = c.args.edges.now in
    let t = c.tighter.result in
    subst (λ (o : Option Edge). Gathers cut (with_last edges o) c.args.next (edges ++ t ∷ [])) (sym c.in-Some-last.is)
    (subst (λ (o : Option Edge). Gathers cut (edges ++ c.in-Some-last.one ∷ []) o (edges ++ t ∷ [])) (sym c.in-Some.is)
    (gathers_tighter cut edges c.in-Some-last.one c.in-Some.edge t c.tighter.ensures.tighter))

pub returns-in-None-last-clause-gathers : goal.returns-in-None-last-clause-gathers
returns-in-None-last-clause-gathers c =
    let cut = c.args.cut.now in
    let edges = c.args.edges.now in
    let e = c.in-Some.edge in
    subst (λ (o : Option Edge). Gathers cut (with_last edges o) c.args.next (edges ++ e ∷ [])) (sym c.in-None-last.is)
    (subst (λ (o : Option Edge). Gathers cut edges o (edges ++ e ∷ [])) (sym c.in-Some.is) (gathers_one cut edges e))

pub returns-in_ok-push-in-Some-last-clause-gathers :
    goal.returns-in_ok-push-in-Some-last-clause-gathers
returns-in_ok-push-in-Some-last-clause-gathers c =
    let cut = c.args.cut.now in
    let edges = c.args.edges.now in
    let e = c.in-Some.edge in
    let more = edges ++ c.in-Some-last.one ∷ [] in
    subst (λ (o : Option Edge). Gathers cut (with_last edges o) c.args.next (c.push.new.self ++ e ∷ [])) (sym c.in-Some-last.is)
    (subst (λ (o : Option Edge). Gathers cut more o (c.push.new.self ++ e ∷ [])) (sym c.in-Some.is)
    (subst (λ (es : List Edge). Gathers cut more (Some e) (es ++ e ∷ [])) (sym c.in_ok-push-in-Some-last.ensures.ok)
    (gathers_one cut more e)))

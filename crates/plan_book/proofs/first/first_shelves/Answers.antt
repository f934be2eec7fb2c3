use Rattle.std.proofs.Common.{◌≡◌, suc, List, ◌++◌, ◌∷◌, [], length, map, refl, rules, ap, sym, subst, ◌∙◌, append_assoc, append-nil, arith}
use Rattle.std.specs.Prelude.{All, IfSome}
use Rattle.std.specs.Vec.Iter.{into_iter_items}
use Rattle.std.proofs.lemmas.Simd.{map-map}
use Rattle.std.proofs.lemmas.List.Elements.{All-push}
use Rattle.plan_model.specs.Cut.{stamped, IsSoundCut, section_cut}
use Rattle.rail_model.specs.declared.items.Section.{Section}
use Rattle.plan_book.specs.declared.shelf.Shelf.{Shelf}
use Rattle.plan_book.specs.First.{shelf_of_cut}
use Rattle.plan_book.specs.Shelves.{kept_cut}
use Rattle.plan_book.proofs.first.first_shelves.Goals as goal

none_left : {X : Type 0} (xs : List X) → length xs ≡ 0 → xs ≡ []
none_left [] none = refl
none_left (x ∷ xs) none = absurd (omega (arith, none))

pub first_shelf-requires : goal.first_shelf-requires
first_shelf-requires c = subst (All IsSoundCut) c.in-Some.ensures.steps.0 c.loop-cut.invariant.left 0 c.in-Some.cut (omega arith)

pub loop-cut-init : goal.loop-cut-init
loop-cut-init c =
    let f = shelf_of_cut c.args.at in
    let cuts = c.into_iter-cut-iterator.ensures.into_iter_gives.0 ∙ c.into_vec-cut-items.ensures in
    record {
      same = ap (λ ss. ss ++ map f (into_iter_items c.into_iter-cut-iterator.result)) c.in_ok-shelves.ensures ∙ ap (map f) (cuts ∙ c.in_ok-all_cuts.ensures.same);
      sound = rw c.in_ok-shelves.ensures (λ k d l. absurd (omega (arith, l)));
      left = subst (All IsSoundCut) (sym cuts) c.in_ok-all_cuts.ensures.sound;
      long = search rules;
    }

pub loop-cut-preserved : goal.loop-cut-preserved
loop-cut-preserved c =
    let f = shelf_of_cut c.args.at in
    let shelf = c.in_ok-first_shelf.field-0 in
    let rest = into_iter_items c.next.new.self in
    let steps : into_iter_items c.loop-cut.cut-iterator ≡ c.in-Some.cut ∷ rest = c.in-Some.ensures.steps.0 in
    let left = subst (All IsSoundCut) steps c.loop-cut.invariant.left in
    record {
      same =
          ap (λ ss. ss ++ map f rest) c.in_ok-push.ensures.ok
          ∙ append_assoc c.loop-cut.shelves (shelf ∷ []) (map f rest)
          ∙ ap (λ s. c.loop-cut.shelves ++ s ∷ map f rest) c.in_ok-first_shelf.ensures
          ∙ ap (λ cs. c.loop-cut.shelves ++ map f cs) (sym steps)
          ∙ c.loop-cut.invariant.same;
      sound = rw c.in_ok-push.ensures.ok
          (All-push (λ (s : Shelf). IfSome (kept_cut s) IsSoundCut) c.loop-cut.shelves shelf c.loop-cut.invariant.sound
          (rw c.in_ok-first_shelf.ensures (left 0 c.in-Some.cut (omega arith))));
      left = λ k d l. left (suc k) d (omega (arith, l));
      long = omega (arith, c.in-Some.ensures.steps.1, ap length steps, c.loop-cut.invariant.long);
    }

pub returns : goal.returns
returns c =
    let none = none_left (into_iter_items c.loop-cut.cut-iterator) (omega (arith, c.loop-cut.invariant.long, c.in-None.ensures.steps.0)) in
    record {
      same =
          sym (append-nil c.loop-cut.shelves)
          ∙ ap (λ cs. c.loop-cut.shelves ++ map (shelf_of_cut c.args.at) cs) (sym none)
          ∙ c.loop-cut.invariant.same
          ∙ map-map (shelf_of_cut c.args.at) (λ (s : Section). stamped c.args.at (section_cut c.args.tables.now s)) c.args.tables.now.sections;
      sound = c.loop-cut.invariant.sound;
    }

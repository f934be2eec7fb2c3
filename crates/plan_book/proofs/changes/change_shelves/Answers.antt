use Rattle.std.proofs.Common.{◌≡◌, ◌<◌, length, get_or, sym, ap, ◌∙◌, subst, arith}
use Rattle.std.proofs.lemmas.List.{length-set, get_or_default}
use Rattle.std.proofs.lemmas.Option.{get_or_from_slice_get, slice_get_within}
use Rattle.plan_book.specs.declared.changes.ShelfChange.{ShelfChange}
use Rattle.plan_book.specs.declared.shelf.Shelf.{Shelf}
use Rattle.plan_book.specs.Changes.{IsReady, changed}
use Rattle.plan_book.proofs.AtPlace.{upto_set, beyond_set}
use Rattle.plan_book.proofs.changes.change_shelves.Goals as goal

pub change_shelf-requires : goal.change_shelf-requires
change_shelf-requires c =
    let s = c.get_mut.result.now in
    let d = c.index_mut.result.now in
    let place = c.loop-place.place in
    let within : place < length c.args.shelves.now = omega (arith, slice_get_within c.loop-place.shelves place s c.get_mut.ensures.item, c.loop-place.invariant.count) in
    let shelf_is : get_or c.args.shelves.now place s ≡ s =
    sym (c.loop-place.invariant.same place s (omega arith)) ∙ get_or_from_slice_get c.loop-place.shelves place s s c.get_mut.ensures.item in
    let change_is : get_or c.args.changes place d ≡ c.replace-change.result =
    ap (λ cs. get_or cs place d) (sym c.into_vec-changes.ensures) ∙ sym (c.loop-place.invariant.left place d (omega arith))
    ∙ sym c.index_mut.ensures.value ∙ sym c.replace-change.ensures.value in
    subst (λ x. IsReady x c.replace-change.result) shelf_is
    (subst (IsReady (get_or c.args.shelves.now place s)) change_is (c.requires.ready place s d within))

pub loop-place-preserved : goal.loop-place-preserved
loop-place-preserved c =
    let s = c.get_mut.result.now in
    let given = c.index_mut.result.now in
    let change = c.replace-change.result in
    let new = c.change_shelf.new.shelf in
    let place = c.loop-place.place in
    let old = c.args.shelves.now in
    let changes = c.into_vec-changes.result.items in
    let now = c.loop-place.changes.items in
    let within = slice_get_within c.loop-place.shelves place s c.get_mut.ensures.item in
    let there : place < length now =
    omega (arith, within, c.loop-place.invariant.count, c.loop-place.invariant.changes, ap length c.into_vec-changes.ensures, c.requires.count) in
    let shelf_is : (d : Shelf) → get_or old place d ≡ s = λ d.
    sym (c.loop-place.invariant.same place d (omega arith)) ∙ get_or_from_slice_get c.loop-place.shelves place s d c.get_mut.ensures.item in
    let change_is : (d : ShelfChange) → get_or changes place d ≡ change = λ d.
    sym (c.loop-place.invariant.left place d (omega arith)) ∙ get_or_default now place d given there
    ∙ sym c.index_mut.ensures.value ∙ sym c.replace-change.ensures.value in
    let at_place : (d : Shelf) (e : ShelfChange) → new ≡ changed c.args.number (get_or old place d) (get_or changes place e) = λ d e.
    c.change_shelf.ensures ∙ sym (ap (λ x. changed c.args.number x change) (shelf_is d))
    ∙ sym (ap (changed c.args.number (get_or old place d)) (change_is e)) in
    record {
      count = length-set c.loop-place.shelves place new ∙ c.loop-place.invariant.count;
      changes = length-set now place c.replace-change.new.dest ∙ c.loop-place.invariant.changes;
      done = λ k d e below.
          upto_set c.loop-place.shelves place new d k (λ x. x ≡ changed c.args.number (get_or old k d) (get_or changes k e)) within below
          (λ here. subst (λ n. new ≡ changed c.args.number (get_or old n d) (get_or changes n e)) (sym here) (at_place d e))
          (λ early. c.loop-place.invariant.done k d e early);
      same = λ k d above.
          beyond_set c.loop-place.shelves place new d k above ∙ c.loop-place.invariant.same k d (omega (arith, above));
      left = λ k e above.
          beyond_set now place c.replace-change.new.dest e k above ∙ c.loop-place.invariant.left k e (omega (arith, above));
    }

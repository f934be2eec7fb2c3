use Rattle.std.proofs.Common.{◌≡◌, ◌+◌, ◌<◌, length, get_or, sym, ◌∙◌, subst, inl, inr, arith}
use Rattle.std.proofs.lemmas.Bool.{cases_lt}
use Rattle.std.proofs.lemmas.List.{length-set, get_or_default}
use Rattle.std.proofs.lemmas.Option.{get_or_from_slice_get, slice_get_within}
use Rattle.plan_book.specs.declared.changes.ShelfChange.{ShelfChange}
use Rattle.plan_book.specs.declared.shelf.Shelf.{Shelf}
use Rattle.plan_book.specs.Changes.{IsAlike, IsReady, HasItsPlace}
use Rattle.plan_book.proofs.Widening.{alike_itself}
use Rattle.plan_book.proofs.AtPlace.{upto_set, beyond_set}
use Rattle.plan_book.proofs.changes.make_ready.Goals as goal

pub make_shelf_ready-requires : goal.make_shelf_ready-requires
make_shelf_ready-requires c =
    let s = c.get_mut.result.now in
    let change = c.index-changes-place.result in
    let place = c.loop-place.place in
    let within : place < length c.args.shelves.now = omega (arith, slice_get_within c.loop-place.shelves place s c.get_mut.ensures.item, c.loop-place.invariant.count) in
    let shelf_is : get_or c.args.shelves.now place s ≡ s =
    sym (c.loop-place.invariant.same place s (omega arith)) ∙ get_or_from_slice_get c.loop-place.shelves place s s c.get_mut.ensures.item in
    subst (λ x. HasItsPlace x change) shelf_is
    (subst (HasItsPlace (get_or c.args.shelves.now place s)) (sym c.index-changes-place.is) (c.requires.places place s change within))

pub returns-in_err-make_shelf_ready-clause-same : goal.returns-in_err-make_shelf_ready-clause-same
returns-in_err-make_shelf_ready-clause-same c =
    let s = c.get_mut.result.now in
    let new = c.make_shelf_ready.new.shelf in
    let place = c.loop-place.place in
    let within = slice_get_within c.loop-place.shelves place s c.get_mut.ensures.item in
    let shelf_is : (d : Shelf) → get_or c.args.shelves.now place d ≡ s = λ d.
    sym (c.loop-place.invariant.same place d (omega arith)) ∙ get_or_from_slice_get c.loop-place.shelves place s d c.get_mut.ensures.item in
    record {
      count = length-set c.loop-place.shelves place new ∙ c.loop-place.invariant.count;
      each = λ k d below. elim (cases_lt k (place + 1)) [
        | inl upto ↦
            upto_set c.loop-place.shelves place new d k (IsAlike (get_or c.args.shelves.now k d)) within upto
            (λ here. subst (λ n. IsAlike (get_or c.args.shelves.now n d) new) (sym here) (subst (λ x. IsAlike x new) (sym (shelf_is d)) c.make_shelf_ready.ensures.same))
            (λ early. c.loop-place.invariant.alike k d early)
        | inr beyond ↦
            subst (IsAlike (get_or c.args.shelves.now k d))
            (sym (beyond_set c.loop-place.shelves place new d k beyond ∙ c.loop-place.invariant.same k d (omega (arith, beyond))))
            (alike_itself (get_or c.args.shelves.now k d))
      ];
    }

pub loop-place-preserved : goal.loop-place-preserved
loop-place-preserved c =
    let s = c.get_mut.result.now in
    let change = c.index-changes-place.result in
    let new = c.make_shelf_ready.new.shelf in
    let place = c.loop-place.place in
    let old = c.args.shelves.now in
    let changes = c.args.changes.now in
    let within = slice_get_within c.loop-place.shelves place s c.get_mut.ensures.item in
    let shelf_is : (d : Shelf) → get_or old place d ≡ s = λ d.
    sym (c.loop-place.invariant.same place d (omega arith)) ∙ get_or_from_slice_get c.loop-place.shelves place s d c.get_mut.ensures.item in
    let there : place < length changes = omega (arith, within, c.loop-place.invariant.count, c.requires.count) in
    let change_is : (d : ShelfChange) → get_or changes place d ≡ change = λ d.
    get_or_default changes place d change there ∙ sym c.index-changes-place.is in
    record {
      count = length-set c.loop-place.shelves place new ∙ c.loop-place.invariant.count;
      alike = λ k d below.
          upto_set c.loop-place.shelves place new d k (IsAlike (get_or old k d)) within below
          (λ here. subst (λ n. IsAlike (get_or old n d) new) (sym here) (subst (λ x. IsAlike x new) (sym (shelf_is d)) c.make_shelf_ready.ensures.same))
          (λ early. c.loop-place.invariant.alike k d early);
      ready = λ k d e below.
          upto_set c.loop-place.shelves place new d k (λ x. IsReady x (get_or changes k e)) within below
          (λ here. subst (λ n. IsReady new (get_or changes n e)) (sym here) (subst (IsReady new) (sym (change_is e)) c.in_ok-make_shelf_ready.ensures.ready))
          (λ early. c.loop-place.invariant.ready k d e early);
      same = λ k d above.
          beyond_set c.loop-place.shelves place new d k above ∙ c.loop-place.invariant.same k d (omega (arith, above));
    }

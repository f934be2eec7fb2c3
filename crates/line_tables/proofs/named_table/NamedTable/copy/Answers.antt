use Rattle.std.proofs.Common.{◌≡◌, Option, Some, None, ap, ◌∙◌, refl}
use Rattle.std.proofs.lemmas.List.Elements.{same_from_all_zip}
use Rattle.slab.specs.Slab.{get as slot, IsSlotClone}
use Rattle.line_tables.proofs.Kept.{kept_by_copy}
use Rattle.line_tables.proofs.named_table.NamedTable.copy.Goals as goal

same_pair : {A B : Type 0} (x y : A × B) → (y.0 ≡ x.0) × (y.1 ≡ x.1) → y ≡ x
same_pair x y r = ap (λ u. (u, y.1)) r.0 ∙ ap (λ v. (x.0, v)) r.1

same_slot : {X : Type 0} (C : X → X → Type 0) → ((a b : X) → C a b → b ≡ a) → (x y : Option X) → IsSlotClone C x y → y ≡ x
same_slot C same None y h = h
same_slot C same (Some x) None h = absurd h
same_slot C same (Some x) (Some y) h = ap Some (same x y h)

pub invariant_of-result : goal.invariant_of-result
invariant_of-result g c =
    let s = c.self.inside in
    let names = same_from_all_zip _ s.by_name.entries c.in_ok-clone-3.field-0.entries c.in_ok-clone-3.ensures.cases same_pair in
    let slots = same_from_all_zip _ s.slots.slots c.in_ok-clone-2.field-0.slots c.in_ok-clone-2.ensures.cases.slots (same_slot g.T.Clone.is_clone g.met.T.TableItem.copies) in
    let order = same_from_all_zip _ s.order.items c.in_ok-clone.field-0.items c.in_ok-clone.ensures.cases.0 (λ x y r. r) in
    kept_by_copy g.T.Named.label (slot s.slots) _ s.order.items _ _ _ c.self.invariant (λ k. rw slots refl) order (λ n. rw names refl)

pub returns : goal.returns
returns g c =
    let s = c.self.inside in
    let slots = same_from_all_zip _ s.slots.slots c.in_ok-clone-2.field-0.slots c.in_ok-clone-2.ensures.cases.slots (same_slot g.T.Clone.is_clone g.met.T.TableItem.copies) in
    let order = same_from_all_zip _ s.order.items c.in_ok-clone.field-0.items c.in_ok-clone.ensures.cases.0 (λ x y r. r) in
    rw (← c.self.view_is, slots, order) refl

-- What is made of each of several items, and collected where each could be made.
use Rattle.std.proofs.Common.{◌≡◌, List, [], ◌∷◌, map, refl, ap, subst, sym, ◌∙◌}
use Rattle.std.specs.Prelude.{Result, Ok, Err, IfOk, MatchResult}
use Rattle.std.specs.List.{AllZip}

module _ {A X : Type 0} (E : Type 0) (R : A → X → Type 0) where
  made : (some : List A) (items : List X) → AllZip (λ a (r : Result X E). IfOk r (R a)) some (map Ok items) → AllZip R some items
  made [] [] each = each
  made [] (x ∷ items) each = absurd each
  made (a ∷ some) [] each = absurd each
  made (a ∷ some) (x ∷ items) each = (each.0, made some items each.1)

-- what holds of each that could be made holds of all that are collected
pub collected : {A X V E : Type 0} (R : A → X → Type 0) (items : V → List X) (some : List A) (results : List (Result X E))
    (whole : Result V E) (Q : E → Type 0) → AllZip (λ a (r : Result X E). IfOk r (R a)) some results
    → MatchResult whole (λ v. (own : List X) × (results ≡ map Ok own) × (items v ≡ own)) Q
    → IfOk whole (λ v. AllZip R some (items v))
collected {X = X} {E = E} R items some results (Ok v) Q each h =
    subst (AllZip R some) (sym h.2)
    (made E R some h.0 (subst (AllZip (λ a (r : Result X E). IfOk r (R a)) some) h.1 each))
collected R items some results (Err e) Q each h = tt

-- items that are each made by a function are its images
images : {A X : Type 0} (f : A → X) (some : List A) (items : List X) → AllZip (λ a x. x ≡ f a) some items → items ≡ map f some
images f [] [] each = refl
images f [] (x ∷ items) each = absurd each
images f (a ∷ some) [] each = absurd each
images f (a ∷ some) (x ∷ items) each =
    ap (λ y. y ∷ items) each.0 ∙ ap (λ ys. f a ∷ ys) (images f some items each.1)

-- the images that are collected
pub images_collected : {A X V E : Type 0} (f : A → X) (items : V → List X) (some : List A) (results : List (Result X E))
    (whole : Result V E) (Q : E → Type 0) → AllZip (λ a (r : Result X E). IfOk r (λ x. x ≡ f a)) some results
    → MatchResult whole (λ v. (own : List X) × (results ≡ map Ok own) × (items v ≡ own)) Q
    → IfOk whole (λ v. items v ≡ map f some)
images_collected f items some results (Ok v) Q each h =
    images f some (items v) (collected (λ a x. x ≡ f a) items some results (Ok v) Q each h)
images_collected f items some results (Err e) Q each h = tt

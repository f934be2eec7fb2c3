-- Whether a run has another number of legs than its changed route has signals.
use Rattle.std.proofs.Common.{◌≡◌, ◌==◌, Bool, true, false, not, ◌&&◌, List, [], ◌∷◌, length, get_or, refl, ap, ◌∙◌, inl, inr}
use Rattle.std.specs.Prelude.{All}
use Rattle.std.specs.List.{list_any}
use Rattle.std.proofs.lemmas.Bool.{cases_Bool, eqb-true, not-true, not-false}
use Rattle.std.proofs.lemmas.List.Elements.{All-head, All-tail}
use Rattle.rail_model.specs.declared.items.Route.{Route}
use Rattle.rail_model.specs.declared.items.Run.{Run}
use Rattle.rail_model.specs.declared.items.Item.TheVariants as item
use Rattle.rail_model.specs.declared.edit.Kind.TheVariants as kind
use Rattle.rail_model.specs.declared.tables.Tables.{Tables}
use Rattle.rail_model.specs.Name.{is_same}
use Rattle.rail_model.specs.Tables.{route_named}
use Rattle.rail_model.specs.Rules.{makes_miscount, miscounts_legs, is_used, IsSound}
use Rattle.rail_model.proofs.NameOrder.{same_name}

-- a second test that depends on the first alone
any_and : {X : Type 0} (p q : X → Bool) (b : Bool) (xs : List X) → All (λ x. p x ≡ true → q x ≡ b) xs → list_any (λ x. p x && q x) xs ≡ (b && list_any p xs)
any_and p q true [] h = refl
any_and p q false [] h = refl
any_and p q b (x ∷ xs) h =
    let P : _ → Type 0 = λ x. p x ≡ true → q x ≡ b in
    let rest = any_and p q b xs (All-tail P x xs h) in
    elim (cases_Bool (p x)) [
      | inl t ↦ elim (cases_Bool b) [
        | inl u ↦ rw (t, All-head P x xs h t, u) refl
        | inr u ↦ rw (t, All-head P x xs h t, rest, u) refl
      ]
      | inr t ↦ rw (t, rest) refl
    ]

pub makes_miscount_is : (t : Tables) (r : Route) → IsSound t → makes_miscount t (item.Route r) ≡ (not (length (route_named t r.name).signals == length r.signals) && is_used t kind.Route r.name)
makes_miscount_is t r s =
    any_and (λ (run : Run). is_same run.route r.name) (λ run. not (length run.legs == length r.signals)) (not (length (route_named t r.name).signals == length r.signals)) t.runs
    (λ k d l same.
    let run = get_or t.runs k d in
    let legs = eqb-true _ _ (not-false _ (not-true (miscounts_legs t (item.Run run)) (s.runs.each k d l).count)) in
    ap (λ n. not (n == length r.signals)) (legs ∙ ap (λ m. length (route_named t m).signals) (same_name run.route r.name same)))

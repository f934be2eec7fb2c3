use Rattle.std.proofs.Common.{◌≡◌, true, false, List, ℕ, [], get_or, refl, sym, ap, ◌∙◌, inl, inr, arith}
use Rattle.std.specs.List.{list_any}
use Rattle.std.proofs.lemmas.Bool.{both_ways, cases_Bool, cases_lt}
use Rattle.std.proofs.lemmas.List.{get_or_default}
use Rattle.std.proofs.lemmas.List.Folds.{list_any_at, list_any_none}
use Rattle.rail_model.specs.Name.{is_same}
use Rattle.rail_model.proofs.NameOrder.{same_name, is_same-from}
use Rattle.rail_model.proofs.Paths.{place_within}
use Rattle.rail_model.proofs.Places.{number_of-missing}
use Rattle.section_cut.proofs.one_run.has_name.Goals as goal

pub returns-then-same_name : goal.returns-then-same_name
returns-then-same_name c =
    let names = c.args.names.now in
    let name = c.args.name.now in
    let k = c.loop-one.one-index in
    let test = λ (n : List ℕ). is_same n name in
    let item = c.one-item.result in
    let here : is_same (get_or names k item) name ≡ true = is_same-from (get_or names k item) name (sym c.one-item.is ∙ c.same_name.ensures.0 c.if-same_name.true) in
    (λ _. place_within test names (list_any_at test names k item c.loop-one-test.true here), λ _. refl)

pub loop-one-preserved : goal.loop-one-preserved
loop-one-preserved c =
    let names = c.args.names.now in
    let n = c.loop-one.one-index in
    let item = c.one-item.result in
    λ k l e. elim (cases_lt k n) [
      | inl lt ↦ c.loop-one.invariant k lt e
      | inr ge ↦
          let last : k ≡ n = omega (arith, l, ge) in
          both_ways c.same_name.result c.if-same_name.false
          (c.same_name.ensures.1 (c.one-item.is ∙ get_or_default names n item [] c.loop-one-test.true ∙ ap (λ j. get_or names j []) (sym last) ∙ e))
    ]

pub returns : goal.returns
returns c =
    let names = c.args.names.now in
    let name = c.args.name.now in
    let none : list_any (λ (n : List ℕ). is_same n name) names ≡ false =
    list_any_none (λ (n : List ℕ). is_same n name) names
    (λ k d l. elim (cases_Bool (is_same (get_or names k d) name)) [
      | inl e ↦ absurd (c.loop-one.invariant k (omega (arith, l, c.loop-one-test.false)) (get_or_default names k [] d l ∙ same_name (get_or names k d) name e))
      | inr e ↦ e
    ]) in
    (λ e. absurd (cc), λ there. absurd (omega (arith, there, number_of-missing (λ (n : List ℕ). n) names name none)))

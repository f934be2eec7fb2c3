-- Rows whose names rise: the row of a name.
use Rattle.std.proofs.Common.{◌≡◌, Bool, false, cond, ℕ, zero, suc, ◌<◌, List, [], ◌∷◌, length, get_or, Option, Some, None, refl, sym, ap, ◌∙◌, subst, inl, inr, arith}
use Rattle.std.specs.Prelude.{find, filter}
use Rattle.std.specs.List.Sorted.{IsPartitionedBy}
use Rattle.std.proofs.lemmas.Bool.{cases_Bool, cases_order}
use Rattle.std.proofs.lemmas.List.{get_or_default}
use Rattle.std.proofs.lemmas.List.Elements.{All-filter}
use Rattle.rail_model.specs.Name.{is_same, is_before, IsBefore, NamesRise}
use Rattle.rail_model.proofs.Lists.{find_none}
use Rattle.rail_model.proofs.NameOrder.{is_same-from, is_same-before, is_same-after, same_or_after, is_before-from, IsBefore-from, IsBefore-trans}
use Rattle.plan_model.specs.declared.cut.CutRow.{CutRow}
use Rattle.plan_model.specs.Members.{no_member}
use Rattle.section_cut.specs.EditedRun.{StandsAt}
use Rattle.section_cut.specs.Stamps.{AreBefore, IsReached, IsOwn}

-- where names rise, the first item of an item's name is the item
pub found_at : {X : Type 0} (name : X → List ℕ) (items : List X) (k : ℕ) (d : X) → NamesRise name items → k < length items
    → find (λ x. is_same (name x) (name (get_or items k d))) items ≡ Some (get_or items k d)
found_at name [] k d rise within = absurd (omega (arith, within))
found_at name (x ∷ items) zero d rise within = rw (is_same-from (name x) (name x) refl) refl
found_at name (x ∷ items) (suc k) d rise within =
    rw (is_same-before (name x) (name (get_or items k d)) (rise 0 (suc k) d (omega arith) within))
    (found_at name items k d (λ i j e before below. rise (suc i) (suc j) e (omega arith) (omega arith)) (omega arith))

module _ (rows : List CutRow) (name : List ℕ) (at : ℕ) (rise : NamesRise (λ r. r.name) rows) (reached : IsReached rows name at) where
  -- the row at the place of the name, if its name is another, comes after the name
  pub after_there : (below : at < length rows) → ((get_or rows at no_member).name ≡ name → ⊥)
      → IsBefore name (get_or rows at no_member).name
  after_there below other =
      elim (same_or_after (get_or rows at no_member).name name (reached.stops below)) [
        | inl e ↦ absurd (other e)
        | inr later ↦ later
      ]

  -- then there is no row of the name
  pub none_found : (at < length rows → (get_or rows at no_member).name ≡ name → ⊥)
      → find (λ r. is_same r.name name) rows ≡ None
  none_found other =
      find_none (λ r. is_same r.name name) rows
      (λ k d within.
      rw (get_or_default rows k d no_member within)
      (elim (cases_order k at) [
        | inl e ↦
            let below : at < length rows = omega arith in
            rw e (is_same-after name (get_or rows at no_member).name (after_there below (other below)))
        | inr o ↦ elim o [
          | inl early ↦ is_same-before (get_or rows k no_member).name name (reached.before.below k early)
          | inr late ↦
              let below : at < length rows = omega arith in
              is_same-after name (get_or rows k no_member).name
              (IsBefore-trans name (get_or rows at no_member).name (get_or rows k no_member).name
              (after_there below (other below)) (rise at k no_member late within))
        ]
      ]))

  -- the row there, if it has the name, is the row of the name
  pub own_found : (own : Option CutRow) → IsOwn rows name at own → own ≡ find (λ r. is_same r.name name) rows
  own_found None gone = sym (none_found (λ below e. gone (below, e)))
  own_found (Some row) own =
      sym (subst (λ n. find (λ (r : CutRow). is_same r.name n) rows ≡ Some (get_or rows at no_member)) own.0.1
      (found_at (λ (r : CutRow). r.name) rows at no_member rise own.0.0) ∙ ap Some own.1)

  -- and it stands there
  pub own_stands : (own : Option CutRow) → IsOwn rows name at own → StandsAt rows at own
  own_stands None gone = reached.before.within
  own_stands (Some row) own = (own.0.0, own.1)

  -- the rows before it have names before each later name
  pub before_later : (later : List ℕ) → IsBefore name later → AreBefore rows later at
  before_later later before = record {
    within = reached.before.within;
    below = λ k l. IsBefore-trans (get_or rows k no_member).name name later (reached.before.below k l) before;
  }

-- where names rise, so do those that pass a test: the item of a name is found if it passes
pub found_passing : {X : Type 0} (name : X → List ℕ) (p : X → Bool) (xs : List X) (k : ℕ) (d : X) → NamesRise name xs → k < length xs
    → find (λ x. is_same (name x) (name (get_or xs k d))) (filter p xs) ≡ cond (p (get_or xs k d)) (Some (get_or xs k d)) None
found_passing name p [] k d rise below = absurd (omega (arith, below))
found_passing name p (x ∷ xs) zero d rise below =
    elim (cases_Bool (p x)) [
      | inl e ↦ rw (e, is_same-from (name x) (name x) refl) refl
      | inr e ↦ rw e
          (find_none (λ y. is_same (name y) (name x)) (filter p xs)
          (All-filter p (λ y. is_same (name y) (name x) ≡ false) xs
          (λ k e l. is_same-after (name x) (name (get_or xs k e)) (rise 0 (suc k) e (omega arith) (omega (arith, l))))))
    ]
found_passing name p (x ∷ xs) (suc k) d rise below =
    let rest = found_passing name p xs k d (λ i j e before in_list. rise (suc i) (suc j) e (omega (arith, before)) (omega (arith, in_list))) (omega (arith, below)) in
    elim (cases_Bool (p x)) [
      | inl e ↦ rw (e, is_same-before (name x) (name (get_or xs k d)) (rise 0 (suc k) d (omega arith) below)) rest
      | inr e ↦ rw e rest
    ]

-- rows with names before a name come before those without
pub rows_partitioned : (rows : List CutRow) (name : List ℕ) → NamesRise (λ r. r.name) rows → IsPartitionedBy (λ r. is_before r.name name) rows
rows_partitioned rows name rise i j d le l passes =
    let last = IsBefore-from (get_or rows j d).name name passes in
    elim (cases_order i j) [
      | inl e ↦ rw e passes
      | inr o ↦ elim o [
        | inl lt ↦ is_before-from (get_or rows i d).name name (IsBefore-trans (get_or rows i d).name (get_or rows j d).name name (rise i j d lt l) last)
        | inr gt ↦ absurd (omega (arith, le, gt))
      ]
    ]

-- A kept row that is looked for by its name and stamp.
use Rattle.std.proofs.Common.{◌≡◌, ℕ, suc, Bool, true, false, List, [], ◌∷◌, get_or, drop, None, Some, inl, inr, subst, refl, arith}
use Rattle.std.specs.Prelude.{◌==◌, Contains, find}
use Rattle.std.specs.List.{list_any}
use Rattle.std.proofs.lemmas.List.{drop_more}
use Rattle.std.proofs.lemmas.Bool.{and_parts, cases_Bool, eqb-true}
use Rattle.rail_model.specs.Name.{is_same}
use Rattle.rail_model.proofs.NameOrder.{same_name}
use Rattle.plan_model.specs.declared.cut.CutRow.{CutRow}
use Rattle.plan_model.specs.Members.{no_member}
use Rattle.plan_repair.specs.Kept.{AgreeByStamps, has}
use Rattle.plan_repair.specs.Left.{HasName}

-- what is found is there, and passes
found_has : {X : Type 0} (p : X → Bool) (xs : List X) (x : X) → find p xs ≡ Some x → Contains xs x × (p x ≡ true)
found_has p [] x e = absurd (cc)
found_has p (y ∷ ys) x e =
    elim (cases_Bool (p y)) [
      | inl passes ↦
          let same : Some y ≡ Some x = rw passes at e in
          let is : y ≡ x = cc in
          ((0, omega arith, is), subst (λ z. p z ≡ true) is passes)
      | inr out ↦
          let rest = found_has p ys x (rw out at e) in
          ((suc rest.0.0, omega (arith, rest.0.1), rest.0.2), rest.1)
    ]

-- where nothing is found, nothing passes
pub none_has : {X : Type 0} (p : X → Bool) (xs : List X) → find p xs ≡ None → list_any p xs ≡ false
none_has p [] e = refl
none_has p (x ∷ xs) e =
    elim (cases_Bool (p x)) [
      | inl passes ↦ let found : Some x ≡ None = rw passes at e in absurd (cc)
      | inr out ↦ rw out (none_has p xs (rw out at e))
    ]

-- the kept row of a row's name and stamp is the row
pub kept_is : (kept rows : List CutRow) (one row : CutRow) → AgreeByStamps kept rows → Contains rows row
    → find (has row.name row.stamp) kept ≡ Some one → one ≡ row
kept_is kept rows one row agree there found =
    let has_both = found_has (has row.name row.stamp) kept one found in
    let both = and_parts (is_same one.name row.name) (one.stamp == row.stamp) has_both.1 in
    agree one row has_both.0 there (same_name one.name row.name both.0) (eqb-true one.stamp row.stamp both.1)

-- so is the first of those from a position on
pub stays : (kept rows : List CutRow) (i : ℕ) (row : CutRow) → HasName kept i row.name → AgreeByStamps (drop i kept) rows
    → Contains rows row → (get_or kept i no_member).stamp ≡ row.stamp → get_or kept i no_member ≡ row
stays kept rows i row first agree there stamp =
    agree (get_or kept i no_member) row (rw (drop_more kept i no_member first.there) (0, omega arith, refl)) there first.name stamp

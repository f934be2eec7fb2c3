-- The stamps of rows after an edit.
use Rattle.std.proofs.Common.{◌≡◌, ℕ, ◌+◌, ◌<◌, List, length, map, take, get_or, set, Some, None, refl, sym, ap, ◌∙◌, subst, inl, inr}
use Rattle.std.specs.Prelude.{All}
use Rattle.std.proofs.lemmas.List.{map-set, set-get_or, get_or-map, take_more_set}
use Rattle.std.proofs.lemmas.List.Elements.{All-push}
use Rattle.plan_model.specs.declared.cut.CutRow.{CutRow}
use Rattle.plan_model.specs.declared.cut.Cut.{Cut}
use Rattle.plan_model.specs.Cut.{stamped_row}
use Rattle.plan_model.specs.Members.{no_member}
use Rattle.section_cut.specs.Change.{IsRestamped}
use Rattle.section_cut.specs.Stamps.{IsStamped}

-- the row of the name before the edit has this value, or another, or isn't there
pub stamp_kept : (number : ℕ) (before row : CutRow) → stamped_row 0 before ≡ stamped_row 0 row
    → IsStamped number (Some before) (stamped_row before.stamp row)
stamp_kept number before row same = inl (ap (λ r. Some (stamped_row before.stamp r)) same)

pub stamp_new : (number : ℕ) (before row : CutRow) → (stamped_row 0 before ≡ stamped_row 0 row → ⊥)
    → IsStamped number (Some before) (stamped_row number row)
stamp_new number before row differ =
    inr (refl, λ e. let both : Some (stamped_row 0 before) ≡ Some (stamped_row 0 row) = e in differ (cc))

pub stamp_first : (number : ℕ) (row : CutRow) → IsStamped number None (stamped_row number row)
stamp_first number row = inr (refl, λ e. let it : None ≡ Some (stamped_row 0 row) = e in absurd (cc))

-- the rows with one more of them stamped
module _ (number : ℕ) (old : Cut) (rows : List CutRow) (i stamp : ℕ) (within : i < length rows) where
  abbrev row : CutRow
  row = get_or rows i no_member

  pub value_kept : map (stamped_row 0) (set rows i (stamped_row stamp row)) ≡ map (stamped_row 0) rows
  value_kept =
      let mark = stamped_row 0 in
      map-set mark rows i (stamped_row stamp row)
      ∙ ap (set (map mark rows) i) (sym (get_or-map mark rows i no_member no_member within))
      ∙ set-get_or (map mark rows) i no_member

  pub stamps_more : All (IsRestamped number (Some old)) (take i rows) → IsRestamped number (Some old) (stamped_row stamp row)
      → All (IsRestamped number (Some old)) (take (i + 1) (set rows i (stamped_row stamp row)))
  stamps_more all one =
      subst (All (IsRestamped number (Some old))) (sym (take_more_set rows i (stamped_row stamp row) within))
      (All-push (IsRestamped number (Some old)) (take i rows) (stamped_row stamp row) all one)

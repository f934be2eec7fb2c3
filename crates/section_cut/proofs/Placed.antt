-- A cut with another row for one name, or without it: by the place of the name among its rows.
use Rattle.std.proofs.Common.{◌≡◌, ℕ, suc, ◌+◌, ◌<◌, ◌≤◌, false, List, ◌∷◌, ◌++◌, length, map, take, drop, get_or, insert, set, Some, None, refl, sym, ap, ◌∙◌, subst, inl, inr, arith}
use Rattle.std.specs.Prelude.{filter, find, remove, All, Option, IfSome}
use Rattle.std.specs.Option.{option_to_list}
use Rattle.std.proofs.lemmas.Bool.{both_ways, false_from_ne_true, cases_lt}
use Rattle.std.proofs.lemmas.List.{take-append-drop, get_or-take, get_or-drop, length-take-le, length-drop, length-map, append-nil, set_split, get_or-set_same, get_or-map, get_or_default, map-set, set-get_or}
use Rattle.std.proofs.lemmas.List.Edits.{length-insert, length-remove}
use Rattle.std.proofs.lemmas.List.Elements.{filter-append, All-append, All-cons, All-take, All-drop}
use Rattle.std.proofs.Math.Seq.{drop-cons}
use Rattle.rail_model.specs.Name.{is_before, is_same, IsBefore, NamesRise}
use Rattle.rail_model.proofs.NameOrder.{is_before-from, is_before-back, is_before-itself, IsBefore-trans, IsBefore-from}
use Rattle.rail_model.proofs.Places.{filter_all, filter_none}
use Rattle.plan_model.specs.declared.cut.CutRow.{CutRow}
use Rattle.plan_model.specs.declared.cut.Cut.{Cut}
use Rattle.plan_model.specs.Cut.{stamped_row, stamped, IsSoundCut}
use Rattle.plan_model.specs.Members.{no_member}
use Rattle.section_cut.specs.declared.cut_changes.CutChange.{CutChange}
use Rattle.section_cut.specs.declared.cut_changes.CutChange.TheVariants as change
use Rattle.section_cut.specs.Change.{IsRestamped, IsChange}
use Rattle.section_cut.specs.EditedRun.{IsPut, rows_put}
use Rattle.section_cut.specs.Stamps.{IsReached, IsThere, IsOwn, IsStamped}
use Rattle.section_cut.specs.OneRun.{before, behind, with_one, cut_with}
use Rattle.section_cut.proofs.Rows.{found_at, after_there, none_found}
use Rattle.section_cut.proofs.Restamped.{stamp_first, stamp_new}

abbrev name_of : CutRow → List ℕ
name_of r = r.name

module _ (rows : List CutRow) (n : List ℕ) (at : ℕ) (rise : NamesRise name_of rows) (reached : IsReached rows n at) where
  within : at ≤ length rows
  within = reached.before.within

  whole : take at rows ++ drop at rows ≡ rows
  whole = take-append-drop at rows

  early : All (λ r. IsBefore r.name n) (take at rows)
  early k d l =
      let here : k < at = omega (arith, length-take-le at rows within) in
      let there : k < length rows = omega (arith, within) in
      rw (get_or-take at rows k d here) (subst (λ (r : CutRow). IsBefore r.name n) (get_or_default rows k no_member d there) (reached.before.below k here))

  late : All (λ r. is_before r.name n ≡ false) (drop at rows)
  late k d l =
      let there : at + k < length rows = omega (arith, length-drop at rows) in
      let first : at < length rows = omega arith in
      rw (get_or-drop at rows k d, get_or_default rows (at + k) d no_member there)
      (elim (cases_lt 0 k) [
        | inl more ↦
            let step : IsBefore (get_or rows at no_member).name (get_or rows (at + k) no_member).name =
            rise at (at + k) no_member (omega arith) there in
            false_from_ne_true (is_before (get_or rows (at + k) no_member).name n)
            (λ h. both_ways (is_before (get_or rows at no_member).name n) (reached.stops first)
            (is_before-from (get_or rows at no_member).name n
            (IsBefore-trans (get_or rows at no_member).name (get_or rows (at + k) no_member).name n step (IsBefore-from (get_or rows (at + k) no_member).name n h))))
        | inr none ↦
            let same : at + k ≡ at = omega arith in
            rw same (reached.stops first)
      ])

  front_is : before name_of n rows ≡ take at rows
  front_is =
      let test = λ (r : CutRow). is_before r.name n in
      ap (filter test) (sym whole) ∙ filter-append test (take at rows) (drop at rows)
      ∙ rw (filter_all test (take at rows) (λ k d l. is_before-from (get_or (take at rows) k d).name n (early k d l)), filter_none test (drop at rows) late) (append-nil (take at rows))

  back_of : (rest : List CutRow) → rest ≡ drop at rows → behind name_of n rows ≡ behind name_of n rest
  back_of rest is =
      let test = λ (r : CutRow). is_before n r.name in
      ap (filter test) (sym whole) ∙ filter-append test (take at rows) (drop at rows)
      ∙ rw (filter_none test (take at rows) (λ k d l. is_before-back (get_or (take at rows) k d).name n (early k d l))) (ap (filter test) (sym is))

  -- the rows from a place on come after the name
  all_behind : (from : ℕ) → ((k : ℕ) → from ≤ k → k < length rows → IsBefore n (get_or rows k no_member).name)
      → behind name_of n (drop from rows) ≡ drop from rows
  all_behind from each =
      filter_all (λ (r : CutRow). is_before n r.name) (drop from rows)
      (λ k d l.
      let there : from + k < length rows = omega (arith, length-drop from rows) in
      rw (get_or-drop from rows k d, get_or_default rows (from + k) d no_member there)
      (is_before-from n (get_or rows (from + k) no_member).name (each (from + k) (omega arith) there)))

  pub with_gone : (IsThere rows n at → ⊥) → (one : Option CutRow) → with_one name_of n one rows ≡ take at rows ++ (option_to_list one ++ drop at rows)
  with_gone gone one =
      let each : (k : ℕ) → at ≤ k → k < length rows → IsBefore n (get_or rows k no_member).name = λ k from below.
      let here : at < length rows = omega arith in
      let first = after_there rows n at rise reached here (λ e. gone (here, e)) in
      elim (cases_lt at k) [
        | inl past ↦ IsBefore-trans n (get_or rows at no_member).name (get_or rows k no_member).name first (rise at k no_member past below)
        | inr not_past ↦ let same : k ≡ at = omega arith in rw same first
      ] in
      rw (front_is, back_of (drop at rows) refl ∙ all_behind at each) refl

  pub with_there : IsThere rows n at → (one : Option CutRow) → with_one name_of n one rows ≡ take at rows ++ (option_to_list one ++ drop (suc at) rows)
  with_there there one =
      let each : (k : ℕ) → suc at ≤ k → k < length rows → IsBefore n (get_or rows k no_member).name = λ k from below.
      subst (λ m. IsBefore m (get_or rows k no_member).name) there.1 (rise at k no_member (omega arith) below) in
      let own : is_before n (get_or rows at no_member).name ≡ false =
      subst (λ m. is_before n m ≡ false) (sym there.1) (is_before-itself n) in
      let back : behind name_of n rows ≡ drop (suc at) rows =
      back_of (get_or rows at no_member ∷ drop (suc at) rows) (sym (drop-cons rows at no_member there.0))
      ∙ rw own (all_behind (suc at) each) in
      rw (front_is, back) refl

module _ (old : Cut) (n : List ℕ) (at number : ℕ) (sound : IsSoundCut old) (reached : IsReached old.rows n at) where
  -- rows that stand as before keep their stamps
  stay : All (IsRestamped number (Some old)) old.rows
  stay k d l = inl (found_at name_of old.rows k d sound.names_rise l)

  -- ---- the edit doesn't touch the section

  none_there : (IsThere old.rows n at → ⊥) → stamped 0 (cut_with n None old) ≡ stamped 0 old
  none_there gone =
      ap (λ rows. stamped 0 (record old { rows = rows }))
      (with_gone old.rows n at sound.names_rise reached gone None ∙ take-append-drop at old.rows)

  set_is : IsThere old.rows n at → (row : CutRow) → with_one name_of n (Some row) old.rows ≡ set old.rows at row
  set_is there row = with_there old.rows n at sound.names_rise reached there (Some row) ∙ sym (set_split old.rows at row there.0)

  -- the rows with one of this name, or without one
  pub rows_put_is : (own row : Option CutRow) → IsOwn old.rows n at own → with_one name_of n row old.rows ≡ rows_put old.rows at own row
  rows_put_is None None gone = with_gone old.rows n at sound.names_rise reached gone None ∙ take-append-drop at old.rows
  rows_put_is None (Some row) gone = with_gone old.rows n at sound.names_rise reached gone (Some row)
  rows_put_is (Some own) None is = with_there old.rows n at sound.names_rise reached is.0 None
  rows_put_is (Some own) (Some row) is = set_is is.0 row

  same_there : IsThere old.rows n at → (row : CutRow) → stamped_row 0 (get_or old.rows at no_member) ≡ stamped_row 0 row
      → stamped 0 (cut_with n (Some row) old) ≡ stamped 0 old
  same_there there row same =
      let mark = stamped_row 0 in
      ap (λ rows. stamped 0 (record old { rows = rows })) (set_is there row)
      ∙ ap (λ rows. record old { rows = rows })
      (map-set mark old.rows at row
      ∙ ap (set (map mark old.rows) at) (sym same ∙ sym (get_or-map mark old.rows at no_member no_member there.0))
      ∙ set-get_or (map mark old.rows) at no_member)

  -- ---- it touches the section

  touched : (row : Option CutRow) (rows : List CutRow) → with_one name_of n row old.rows ≡ rows
      → All (IsRestamped number (Some old)) rows → (map (stamped_row 0) rows ≡ map (stamped_row 0) old.rows → ⊥) → IsSoundCut (cut_with n row old)
      → IsChange (Some (stamped 0 old)) (Some (stamped 0 (cut_with n row old))) number (Some old) (change.Touched (Some (record old { rows = rows })))
  touched row rows is stamps differ later = (
    λ e.
        let both : stamped 0 (cut_with n row old) ≡ stamped 0 old = cc in
        differ (ap (map (stamped_row 0)) (sym is) ∙ ap (λ (c : Cut). c.rows) both),
    record {
      same = ap (λ rs. Some (stamped 0 (record old { rows = rs }))) is;
      stamps = stamps;
      sound = subst (λ rs. IsSoundCut (record old { rows = rs })) is later;
    },
  )

  removed : IsThere old.rows n at → IsSoundCut (cut_with n None old)
      → IsChange (Some (stamped 0 old)) (Some (stamped 0 (cut_with n None old))) number (Some old) (change.Touched (Some (record old { rows = remove old.rows at })))
  removed there later =
      let rows = old.rows in
      let mark = stamped_row 0 in
      touched None (remove rows at) (with_there rows n at sound.names_rise reached there None)
      (All-append (IsRestamped number (Some old)) (take at rows) (drop (suc at) rows)
      (All-take (IsRestamped number (Some old)) at rows stay) (All-drop (IsRestamped number (Some old)) (suc at) rows stay))
      (λ e. omega (arith, ap length e, length-map rows mark, length-map (remove rows at) mark, length-remove rows at there.0))
      later

  -- a row of this name, with the edit's number
  module _ (row : CutRow) (named : row.name ≡ n) (stamp : row.stamp ≡ number) where
    here : IsReached old.rows row.name at
    here = subst (λ m. IsReached old.rows m at) (sym named) reached

    marked : stamped_row number row ≡ row
    marked = ap (λ s. stamped_row s row) (sym stamp)

    around_row : (rest : ℕ) → IsRestamped number (Some old) row
        → All (IsRestamped number (Some old)) (take at old.rows ++ row ∷ drop rest old.rows)
    around_row rest own =
        All-append (IsRestamped number (Some old)) (take at old.rows) (row ∷ drop rest old.rows)
        (All-take (IsRestamped number (Some old)) at old.rows stay)
        (All-cons (IsRestamped number (Some old)) row (drop rest old.rows) own (All-drop (IsRestamped number (Some old)) rest old.rows stay))

    added : (IsThere old.rows n at → ⊥) → IsSoundCut (cut_with n (Some row) old)
        → IsChange (Some (stamped 0 old)) (Some (stamped 0 (cut_with n (Some row) old))) number (Some old) (change.Touched (Some (record old { rows = insert old.rows at row })))
    added gone later =
        let rows = old.rows in
        let mark = stamped_row 0 in
        let own : IsRestamped number (Some old) row = subst (λ o. IsStamped number o row)
        (sym (none_found rows row.name at sound.names_rise here (λ below e. gone (below, e ∙ named))))
        (subst (IsStamped number None) marked (stamp_first number row)) in
        touched (Some row) (insert rows at row) (with_gone rows n at sound.names_rise reached gone (Some row))
        (around_row at own)
        (λ e. omega (arith, ap length e, length-map rows mark, length-map (insert rows at row) mark, length-insert rows at row reached.before.within))
        later

    changed : IsThere old.rows n at → (stamped_row 0 (get_or old.rows at no_member) ≡ stamped_row 0 row → ⊥) → IsSoundCut (cut_with n (Some row) old)
        → IsChange (Some (stamped 0 old)) (Some (stamped 0 (cut_with n (Some row) old))) number (Some old) (change.Touched (Some (record old { rows = set old.rows at row })))
    changed there differ later =
        let rows = old.rows in
        let mark = stamped_row 0 in
        let found = subst (λ m. find (λ (r : CutRow). is_same r.name m) rows ≡ Some (get_or rows at no_member)) (there.1 ∙ sym named)
        (found_at name_of rows at no_member sound.names_rise there.0) in
        let own : IsRestamped number (Some old) row = subst (λ o. IsStamped number o row) (sym found)
        (subst (IsStamped number (Some (get_or rows at no_member))) marked (stamp_new number (get_or rows at no_member) row differ)) in
        touched (Some row) (set rows at row) (set_is there row)
        (subst (All (IsRestamped number (Some old))) (sym (set_split rows at row there.0)) (around_row (suc at) own))
        (λ e.
        let at_row : stamped_row 0 row ≡ stamped_row 0 (get_or rows at no_member) =
        sym (get_or-set_same (map mark rows) at (mark row) no_member (omega (arith, length-map rows mark, there.0)))
        ∙ ap (λ rs. get_or rs at no_member) (sym (map-set mark rows at row) ∙ e)
        ∙ get_or-map mark rows at no_member no_member there.0 in
        differ (sym at_row))
        later

  -- ---- what becomes of the cut with a row of this name, or without one
  pub put_is : (own row : Option CutRow) (result : CutChange) → IsOwn old.rows n at own → IfSome row (λ r. (r.name ≡ n) × (r.stamp ≡ number))
      → IsSoundCut (cut_with n row old) → IsPut at own row result
      → IsChange (Some (stamped 0 old)) (Some (stamped 0 (cut_with n row old))) number (Some old) result
  put_is None None result gone known later is = rw is (ap Some (none_there gone))
  put_is None (Some row) result gone known later is =
      let made = added row known.0 known.1 gone later in
      rw is (reached.before.within, made.0, made.1)
  put_is (Some own) None result own_is known later is =
      let made = removed own_is.0 later in
      rw is (own_is.0.0, made.0, made.1)
  put_is (Some own) (Some row) result own_is known later is = elim is [
    | inl same ↦ rw (same.1) (ap Some (same_there own_is.0 row (ap (stamped_row 0) own_is.1 ∙ same.0)))
    | inr other ↦
        let made = changed row known.0 known.1 own_is.0 (λ e. other.0 (ap (stamped_row 0) (sym own_is.1) ∙ e)) later in
        rw (other.1) (own_is.0.0, made.0, made.1)
  ]

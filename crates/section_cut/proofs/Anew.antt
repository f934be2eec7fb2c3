-- A section's cut that is made anew, each row with the number of an edit.
use Rattle.std.proofs.Common.{◌≡◌, ℕ, List, Option, Some, None, refl, sym, ap, ◌∙◌, subst}
use Rattle.std.specs.Prelude.{find, filter, All, IfSome, option_map}
use Rattle.std.proofs.lemmas.Simd.{map-map}
use Rattle.std.proofs.lemmas.List.Elements.{All-map}
use Rattle.rail_model.specs.declared.items.Section.{Section}
use Rattle.rail_model.specs.declared.tables.Tables.{Tables}
use Rattle.rail_model.specs.Name.{is_same}
use Rattle.plan_model.specs.declared.cut.CutRow.{CutRow}
use Rattle.plan_model.specs.declared.cut.Cut.{Cut}
use Rattle.plan_model.specs.Cut.{stamped_row, stamped, is_member, row_of, section_cut, cut_of}
use Rattle.section_cut.specs.declared.cut_changes.CutChange.{CutChange}
use Rattle.section_cut.specs.declared.cut_changes.StoredCut.{StoredCut}
use Rattle.section_cut.specs.Change.{IsChange}
use Rattle.section_cut.specs.Stored.{IsStored, IsChangeOfStored}

-- of two stamps the later stays
stamped_twice : (first later : ℕ) (cut : Cut) → stamped later (stamped first cut) ≡ stamped later cut
stamped_twice first later cut =
    ap (λ rows. record cut { rows = rows }) (map-map (stamped_row later) (stamped_row first) cut.rows)

-- a cut by tables has 0 for its stamps
by_section : (tables : Tables) (found : Option Section)
    → option_map (stamped 0) (option_map (section_cut tables) found) ≡ option_map (section_cut tables) found
by_section tables None = refl
by_section tables (Some s) =
    ap (λ rows. Some (record (section_cut tables s) { rows = rows }))
    (map-map (stamped_row 0) (row_of tables s) (filter (is_member tables s) tables.runs))

bare : (tables : Tables) (name : List ℕ) → option_map (stamped 0) (cut_of tables name) ≡ cut_of tables name
bare tables name = by_section tables (find (λ s. is_same s.name name) tables.sections)

-- each row of a cut that is made with a stamp has it
pub stamps_are : (number : ℕ) (value cut : Option Cut) → cut ≡ option_map (stamped number) value
    → IfSome cut (λ c. All (λ r. r.stamp ≡ number) c.rows)
stamps_are number value cut is = subst (λ o. IfSome o (λ c. All (λ r. r.stamp ≡ number) c.rows)) (sym is) (by_value value)
  where
    by_value : (value : Option Cut) → IfSome (option_map (stamped number) value) (λ c. All (λ r. r.stamp ≡ number) c.rows)
    by_value None = tt
    by_value (Some v) = All-map (λ (r : CutRow). r.stamp ≡ number) (stamped_row number) v.rows (λ k d below. refl)

twice : (first : ℕ) (value : Option Cut) → option_map (stamped 0) (option_map (stamped first) value) ≡ option_map (stamped 0) value
twice first None = refl
twice first (Some v) = ap Some (stamped_twice first 0 v)

-- the cut by tables with one stamp for all rows has the value of the cut by tables
pub value_of : (tables : Tables) (name : List ℕ) (stamp : ℕ) (cut : Option Cut) → cut ≡ option_map (stamped stamp) (cut_of tables name)
    → cut_of tables name ≡ option_map (stamped 0) cut
value_of tables name stamp cut is =
    sym (ap (option_map (stamped 0)) is ∙ twice stamp (cut_of tables name) ∙ bare tables name)

-- what an edit makes of a cut, by the cut after it that is made anew
pub change_is : {stored : StoredCut} → IsStored stored → (anew : Option Cut) (change : CutChange)
    → anew ≡ option_map (stamped stored.number) (cut_of stored.both.after.now stored.section.now)
    → IsChange (Some (stamped 0 stored.cut.now)) (option_map (stamped 0) anew) stored.number (Some stored.cut.now) change
    → IsChangeOfStored stored change
change_is {stored} was anew change is it =
    let later = stored.both.after.now in
    let old = stored.cut.now in
    subst (λ v. IsChange v (cut_of later stored.section.now) stored.number (Some old) change) (sym was.is)
    (subst (λ v. IsChange (Some (stamped 0 old)) v stored.number (Some old) change) (sym (value_of later stored.section.now stored.number anew is)) it)

-- Stamps: in two readings of one section, rows of equal name and stamp are equal.
use Rattle.std.proofs.Common.{◌≡◌, ℕ, zero, suc, ◌<◌, ◌≤◌, List, [], ◌∷◌, ◌++◌, length, map, get_or, Option, Some, None, refl, sym, ap, ◌∙◌, subst, arith}
use Rattle.std.specs.Prelude.{Contains, find, filter, unwrap_or, option_map}
use Rattle.std.proofs.lemmas.List.{length-map, get_or-map}
use Rattle.std.proofs.lemmas.List.Kept.{AllPairs-filter}
use Rattle.rail_model.specs.declared.items.Section.{Section}
use Rattle.rail_model.specs.declared.tables.Tables.{Tables}
use Rattle.rail_model.specs.Name.{is_same, IsBefore, NamesRise}
use Rattle.rail_model.specs.Rules.{IsSound}
use Rattle.rail_model.proofs.NameOrder.{is_same-from, is_same-before}
use Rattle.rail_model.proofs.Lists.{AllPairs-map}
use Rattle.plan_model.specs.declared.cut.CutRow.{CutRow}
use Rattle.plan_model.specs.declared.cut.Cut.{Cut}
use Rattle.plan_model.specs.declared.journal.Entry.{Entry}
use Rattle.plan_model.specs.Cut.{stamped_row, stamped, is_member, row_of, section_cut}
use Rattle.plan_model.specs.Journal.{last_number, tables_at}
use Rattle.plan_model.specs.Legal.{cut_at, row_at, IsStamp, IsReading, IsLegal}
use Rattle.plan_model.specs.JournalLaws.{StampTellsRow}
use Rattle.plan_model.proofs.Growing.{row_at-more}
use Rattle.plan_model.proofs.Legality.{legal_has_one, tables_are_sound}
use Rattle.plan_model.proofs.Changing.{same_from}

-- ---- the row of a name

-- where names rise, the first row of a row's name is the row
found_at : (rows : List CutRow) (k : ℕ) (d : CutRow) → NamesRise (λ r. r.name) rows → k < length rows
    → find (λ r. is_same r.name (get_or rows k d).name) rows ≡ Some (get_or rows k d)
found_at [] k d rise within = absurd (omega (arith, within))
found_at (r ∷ rows) zero d rise within = rw (is_same-from r.name r.name refl) refl
found_at (r ∷ rows) (suc k) d rise within =
    rw (is_same-before r.name (get_or rows k d).name (rise 0 (suc k) d (omega arith) within))
    (found_at rows k d (λ i j e before below. rise (suc i) (suc j) e (omega arith) (omega arith)) (omega arith))

-- the names of a cut's rows rise, where those of the runs do
rows_rise : (tables : Tables) (section : Option Section) (cut : Cut) → IsSound tables
    → option_map (section_cut tables) section ≡ Some cut → NamesRise (λ r. r.name) cut.rows
rows_rise tables None cut sound is = absurd (cc)
rows_rise tables (Some s) cut sound is =
    let same : section_cut tables s ≡ cut = ap (λ o. unwrap_or o cut) is in
    subst (λ c. NamesRise (λ r. r.name) c.rows) same
    (AllPairs-map (row_of tables s) (λ a b. IsBefore a.name b.name) (filter (is_member tables s) tables.runs)
    (AllPairs-filter (λ a b. IsBefore a.name b.name) (is_member tables s) tables.runs sound.runs.names))

-- ---- a row of a reading

module _ (journal : List Entry) (section : List ℕ) (cut : Cut) (row : CutRow) (legal : IsLegal journal) (reading : IsReading journal section cut) (there : Contains cut.rows row) where
  -- it stands, without its stamp, in the section's cut as it is now
  row_now : row_at journal section row.name (last_number journal) ≡ Some (stamped_row 0 row)
  unfolding row_at cut_at
  row_now =
      let rows = map (stamped_row 0) cut.rows in
      let rise = rows_rise (tables_at journal (last_number journal)) _ (stamped 0 cut) ((tables_are_sound journal legal).each (last_number journal)) reading.value in
      let at : get_or rows there.0 (stamped_row 0 row) ≡ stamped_row 0 row =
      get_or-map (stamped_row 0) cut.rows there.0 row (stamped_row 0 row) there.1 ∙ ap (stamped_row 0) there.2 in
      rw reading.value
      (subst (λ r. find (λ x. is_same x.name r.name) rows ≡ Some r) at
      (found_at rows there.0 (stamped_row 0 row) rise (omega (arith, length-map cut.rows (stamped_row 0), there.1))))

  its_stamp : IsStamp journal section row
  its_stamp = subst (IsStamp journal section) there.2 (reading.stamps there.0 row there.1)

  -- and stood there since the edit of its stamp
  pub row_then : row_at journal section row.name row.stamp ≡ Some (stamped_row 0 row)
  row_then = sym (same_from (row_at journal section row.name) row.stamp (last_number journal) its_stamp.to_last its_stamp.stays) ∙ row_now

  pub stamp_known : row.stamp ≤ last_number journal
  stamp_known = its_stamp.to_last

-- two rows that are equal without their stamps, which are equal
pub same_row : (row later : CutRow) → row.stamp ≡ later.stamp → stamped_row 0 row ≡ stamped_row 0 later → row ≡ later
same_row row later stamps same =
    ap (λ r. stamped_row row.stamp r) same ∙ ap (λ s. stamped_row s later) stamps

pub stamp_tells_row : StampTellsRow
stamp_tells_row journal more section one other row later legal longer_legal reading longer_reading there later_there names stamps =
    let first = row_then journal section one row legal reading there in
    let second = row_then (journal ++ more) section other later longer_legal longer_reading later_there in
    let agrees = row_at-more journal more section row.name row.stamp (legal_has_one journal legal)
    (stamp_known journal section one row legal reading there) in
    let same_there : row_at (journal ++ more) section row.name row.stamp ≡ Some (stamped_row 0 later) =
    ap (λ n. row_at (journal ++ more) section n row.stamp) names
    ∙ ap (row_at (journal ++ more) section later.name) stamps ∙ second in
    same_row row later stamps
    (ap (λ o. unwrap_or o (stamped_row 0 row)) (sym first ∙ sym agrees ∙ same_there))

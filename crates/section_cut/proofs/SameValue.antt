-- Cuts of one value: what holds of one holds of the other.
use Rattle.std.proofs.Common.{◌≡◌, ℕ, ◌<◌, List, length, map, get_or, Option, Some, None, refl, sym, ap, ◌∙◌, subst, inl, arith}
use Rattle.std.specs.Prelude.{find, option_map}
use Rattle.std.proofs.lemmas.List.{length-map, get_or-map}
use Rattle.std.proofs.lemmas.List.Folds.{fold-map}
use Rattle.line_tables.proofs.Found.{find_some}
use Rattle.rail_model.specs.declared.items.Section.{Section}
use Rattle.rail_model.specs.declared.items.Item.TheVariants as item
use Rattle.rail_model.specs.declared.tables.Tables.{Tables}
use Rattle.rail_model.specs.Name.{is_same, IsBefore, NamesRise}
use Rattle.rail_model.specs.Rules.{Stands, IsSound}
use Rattle.plan_model.specs.declared.cut.CutRow.{CutRow}
use Rattle.plan_model.specs.declared.cut.Cut.{Cut}
use Rattle.plan_model.specs.Cut.{stamped_row, stamped, IsSoundRow, IsSoundCut, section_cut, cut_of}
use Rattle.section_cut.specs.Change.{IsCutAfter}
use Rattle.section_cut.proofs.SoundCut.{sound_cut, sound_stamped}
use Rattle.section_cut.proofs.Rows.{found_at}

-- the names of rows rise, where those of rows of the same values do
pub rows_rise : (rows others : List CutRow) → map (stamped_row 0) others ≡ map (stamped_row 0) rows
    → NamesRise (λ r. r.name) rows → NamesRise (λ r. r.name) others
rows_rise rows others same rise i j d before below =
    let mark = stamped_row 0 in
    let long : length others ≡ length rows = omega (arith, ap length same, length-map rows mark, length-map others mark) in
    let name_of : (k : ℕ) → k < length others → (get_or rows k d).name ≡ (get_or others k d).name = λ k l.
    ap (λ r. r.name)
    (sym (get_or-map mark rows k d d (omega arith)) ∙ ap (λ rs. get_or rs k d) (sym same) ∙ get_or-map mark others k d d l) in
    subst (λ n. IsBefore n (get_or others j d).name) (name_of i (omega arith))
    (subst (λ n. IsBefore (get_or rows i d).name n) (name_of j below) (rise i j d before (omega arith)))

-- rows at one place of two lists that are equal but for stamps are so too
pub row_at : (a b : List CutRow) (i : ℕ) (d e : CutRow) → i < length a → i < length b
    → map (stamped_row 0) a ≡ map (stamped_row 0) b → stamped_row 0 (get_or a i d) ≡ stamped_row 0 (get_or b i e)
row_at a b i d e la lb same =
    sym (get_or-map (stamped_row 0) a i d d la) ∙ ap (λ rows. get_or rows i d) same
    ∙ get_or-map (stamped_row 0) b i e d lb

-- ---- soundness

bare_row : (stamp : ℕ) (cut : Cut) (row : CutRow) → IsSoundRow (stamped stamp cut) (stamped_row stamp row) → IsSoundRow cut row
bare_row stamp cut row sound = record {
  some_block = sound.some_block;
  most_blocks = sound.most_blocks;
  blocks_first = sound.blocks_first;
  places_differ = sound.places_differ;
  each = λ i e inside.
      let u = sound.each i e inside in
      record { place = u.place; some_time = u.some_time; starts = u.starts; ends = u.ends };
  entry = sound.entry;
  from_window = sound.from_window;
  to_window = sound.to_window;
}

-- a cut is sound where it is with one stamp for all rows
pub sound_bare : (stamp : ℕ) (cut : Cut) → IsSoundCut (stamped stamp cut) → IsSoundCut cut
sound_bare stamp cut sound =
    let mark = stamped_row stamp in
    let long = length-map cut.rows mark in
    record {
      window = sound.window;
      window_start = sound.window_start;
      some_block = sound.some_block;
      most_blocks = sound.most_blocks;
      most_connections = sound.most_connections;
      most_rows = omega (arith, long, sound.most_rows);
      places_differ = sound.places_differ;
      names_rise = λ i j d before below.
          subst (λ r. IsBefore r.name (get_or cut.rows j d).name) (get_or-map mark cut.rows i d d (omega arith))
          (subst (λ r. IsBefore (get_or (map mark cut.rows) i d).name r.name) (get_or-map mark cut.rows j d d below)
          (sound.names_rise i j d before (omega (arith, long))));
      each = λ k d below.
          bare_row stamp cut (get_or cut.rows k d)
          (subst (IsSoundRow (stamped stamp cut)) (get_or-map mark cut.rows k d d below) (sound.each k d (omega (arith, long))));
      two_rows = λ c from below. sym (fold-map _ mark 0 cut.rows) ∙ sound.two_rows c from below;
    }

-- cuts of one value are both sound
pub sound_same : (cut other : Cut) → stamped 0 other ≡ stamped 0 cut → IsSoundCut cut → IsSoundCut other
sound_same cut other same sound =
    sound_bare 0 other (subst IsSoundCut (sym same) (sound_stamped 0 cut sound))

-- the cut of a section of sound tables is sound
module _ (tables : Tables) (sound : IsSound tables) (name : List ℕ) where
  pub sound_found : (cut : Cut) (found : Option Section) → find (λ s. is_same s.name name) tables.sections ≡ found
      → option_map (section_cut tables) found ≡ Some cut → IsSoundCut cut
  sound_found cut None e is = absurd (cc)
  sound_found cut (Some s) e is =
      let same : section_cut tables s ≡ cut = cc in
      let stands = (find_some (λ (s : Section). is_same s.name name) tables.sections s e).1
      (λ s. Stands tables (item.Section s)) sound.sections.each in
      subst IsSoundCut same (sound_cut tables s sound stands)

  pub sound_cut_of : (cut : Cut) → cut_of tables name ≡ Some (stamped 0 cut) → IsSoundCut cut
  sound_cut_of cut is =
      sound_bare 0 cut (sound_found (stamped 0 cut) (find (λ s. is_same s.name name) tables.sections) refl is)

  -- an untouched cut is the cut after the edit
  pub untouched_is : (number : ℕ) (cut : Option Cut) → cut_of tables name ≡ option_map (stamped 0) cut
      → IsCutAfter (cut_of tables name) number cut cut
  untouched_is number None is = record { same = is; stamps = tt; sound = tt }
  untouched_is number (Some cut) is =
      let cut_sound = sound_cut_of cut is in
      record {
        same = is;
        stamps = λ k d below. inl (found_at (λ (r : CutRow). r.name) cut.rows k d cut_sound.names_rise below);
        sound = cut_sound;
      }

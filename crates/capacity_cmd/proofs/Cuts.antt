-- The cut of the section that is named, and what a command on it ends with.
use Rattle.std.proofs.Common.{◌≡◌, List, ℕ, Option, None, Some, Result, Ok, Err, refl, sym, ap, ◌∙◌, subst}
use Rattle.std.specs.Prelude.{option_map, option_and_then, find, filter}
use Rattle.std.proofs.lemmas.Simd.{map-map}
use Rattle.rail_model.specs.declared.items.Section.{Section}
use Rattle.rail_model.specs.declared.tables.Tables.{Tables}
use Rattle.rail_model.specs.Name.{is_same}
use Rattle.plan_model.specs.declared.cut.CutRow.{CutRow}
use Rattle.plan_model.specs.Cut.{stamped_row, stamped, is_member, row_of, section_cut, cut_of}
use Rattle.capacity_cmd.specs.declared.status.Cause.{Cause}
use Rattle.capacity_cmd.specs.Outcome.{Writes, Refuses}
use Rattle.capacity_cmd.specs.Ends.{EndsOnNamed}

-- the cut as it is defined has the stamp 0 in each row
pub stamped_none : (tables : Tables) (section : Section) → stamped 0 (section_cut tables section) ≡ section_cut tables section
stamped_none tables section =
    let cut = section_cut tables section in
    ap (λ (rows : List CutRow). record cut { rows = rows })
    (map-map (stamped_row 0) (row_of tables section) (filter (is_member tables section) tables.runs))

-- so has the cut of the section that a word names
pub stamped_named : (tables : Tables) (word : Option (List ℕ)) (name : List ℕ) → word ≡ Some name
    → option_map (stamped 0) (cut_of tables name) ≡ option_and_then (cut_of tables) word
stamped_named tables word name is =
    stamped_found (find (λ s. is_same s.name name) tables.sections) ∙ ap (option_and_then (cut_of tables)) (sym is)
  where
    stamped_found : (found : Option Section) → option_map (stamped 0) (option_map (section_cut tables) found) ≡ option_map (section_cut tables) found
    stamped_found None = refl
    stamped_found (Some section) = ap Some (stamped_none tables section)

-- a text for what is named is written, and where it isn't found the input is refused
pub writes_for_named : {X : Type 0} (IsText : X → List ℕ → Type 0) (found : Result X Cause) (x : X) (text : List ℕ)
    → found ≡ Ok x → IsText x text → EndsOnNamed IsText found (Writes text)
writes_for_named IsText found x text is h = subst (λ f. EndsOnNamed IsText f (Writes text)) (sym is) (text, h, refl)

pub refuses_unnamed : {X : Type 0} (IsText : X → List ℕ → Type 0) (found : Result X Cause) (why : Cause)
    → found ≡ Err why → EndsOnNamed IsText found (Refuses 0 why)
refuses_unnamed IsText found why is = subst (λ f. EndsOnNamed IsText f (Refuses 0 why)) (sym is) refl

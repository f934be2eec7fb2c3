-- What each step of writing leaves a sheet as.
use Rattle.std.proofs.Common.{◌≡◌, ℕ, ◌+◌, ◌-◌, ◌≤◌, Bool, true, false, ◌==◌, ◌&&◌, ◌||◌, List, [], ◌∷◌, ◌++◌, length, take, drop, slice_range, inl, inr, if◌then◌else◌, refl, sym, ap, ◌∙◌, append_assoc, arith, rules}
use Rattle.std.specs.List.{list_all}
use Rattle.std.specs.Global.{Vec}
use Rattle.std.specs.Vec.{with_items}
use Rattle.std.proofs.lemmas.List.{with_items_is}
use Rattle.std.proofs.lemmas.Bool.{cases_Bool, and_from, eqb-true, eqb-false, ne_eqb, eq-eqb}
use Rattle.std.proofs.lemmas.List.{append-nil, length-take-le, length-drop, take-take, drop-take, take-append-drop, take-append-le, drop-append-le}
use Rattle.std.proofs.lemmas.List.Folds.{list_all-append}
use Rattle.std.proofs.lemmas.List.Concat.{flat_map-append}
use Rattle.csv.specs.Writing.{default_writer, row_body}
use Rattle.row_text.specs.declared.sheet.Sheet.TheInside.{Inside}
use Rattle.row_text.specs.SheetRows.{Row, text_of_row, text_of_rows, has_fields, IsTextOf}
use Rattle.row_text.specs.Put.{more_text}
use Rattle.row_text.specs.Sheet.{ended_text, open_text, sheet_rows}
use Rattle.row_text.specs.SheetText.{HoldsRows, IsSheet}
use Rattle.row_text.proofs.SheetRows.{IsTrue-true, IsTrue-from, row_body-append, has_fields-append, ended_row-text}

-- the bytes that are used are those of the ended rows, and those of the row that is being written
open-is : (bytes : List ℕ) (ended used : ℕ) → ended ≤ used → slice_range bytes ended used ≡ drop ended (take used bytes)
open-is bytes ended used le =
    let whole : ended + (used - ended) ≡ used = omega arith in
    sym (rw whole at (drop-take ended (used - ended) bytes))

ended-is : (bytes : List ℕ) (ended used : ℕ) → ended ≤ used → take ended bytes ≡ take ended (take used bytes)
ended-is bytes ended used le = sym (take-take ended used bytes le)

used-is : (bytes : List ℕ) (ended used : ℕ) → ended ≤ used → take used bytes ≡ take ended bytes ++ slice_range bytes ended used
used-is bytes ended used le =
    rw (ended-is bytes ended used le, open-is bytes ended used le) (sym (take-append-drop ended (take used bytes)))

-- nothing is written
pub HoldsRows-none : (sheet : Inside) → sheet.ended ≡ 0 → sheet.used ≡ 0 → sheet.has_field ≡ false → HoldsRows sheet [] []
HoldsRows-none sheet ended used begun = record {
  order = omega arith;
  room = omega arith;
  ended = rw ended refl;
  each = search rules;
  body = rw (ended, used) refl;
  begun = begun;
}

-- fields are written, after room was made
pub pushed : (old new : Inside) (roomy : List ℕ) (more : Row) → IsSheet old → new.ended ≡ old.ended → new.has_field ≡ (old.has_field || has_fields more) → take old.used roomy ≡ take old.used old.text.items
    → take new.used new.text.items ≡ take old.used roomy ++ more_text old.has_field more → old.used ≤ new.used → new.used ≤ length new.text.items
    → HoldsRows new (sheet_rows old).rows ((sheet_rows old).row ++ more)
pushed old new roomy more h ended has_field kept written grown room =
    let le = h.order in
    let row = (sheet_rows old).row in
    let size : length (take old.used old.text.items) ≡ old.used = length-take-le old.used old.text.items h.room in
    let text : List ℕ = more_text old.has_field more in
    let written_all : take new.used new.text.items ≡ take old.used old.text.items ++ text = written ∙ rw kept refl in
    let ended_same : take old.ended new.text.items ≡ take old.ended old.text.items =
    ended-is new.text.items old.ended new.used (omega arith) ∙ ap (take old.ended) written_all ∙ take-append-le old.ended (take old.used old.text.items) text (omega arith) ∙ sym (ended-is old.text.items old.ended old.used le) in
    let open_more : slice_range new.text.items old.ended new.used ≡ slice_range old.text.items old.ended old.used ++ text =
    open-is new.text.items old.ended new.used (omega arith) ∙ ap (drop old.ended) written_all ∙ drop-append-le old.ended (take old.used old.text.items) text (omega arith)
    ∙ ap (λ open_bytes. open_bytes ++ text) (sym (open-is old.text.items old.ended old.used le)) in
    let begun = h.begun in
    record {
      order = omega arith;
      room = room;
      ended = rw (ended, ended_same) h.ended;
      each = h.each;
      body = rw ended (open_more ∙ ap (λ open_bytes. open_bytes ++ text) h.body ∙ ap (λ has. row_body default_writer row ++ more_text has more) begun ∙ sym (row_body-append row more));
      begun = has_field ∙ ap (λ has. has || has_fields more) begun ∙ sym (has_fields-append row more);
    }

-- the sheet whose text has other bytes, of which more are used
abbrev pub with_bytes : Inside → Vec ℕ → List ℕ → ℕ → Bool → Inside
with_bytes old room bytes used has_field = record {
  text = with_items room bytes;
  ended = old.ended;
  used = used;
  has_field = has_field;
}

-- fields are written into the room that was made for them
pub pushed_in : (old : Inside) (room : Vec ℕ) (before after : List ℕ) (used : ℕ) (has_field : Bool) (more : Row) → IsSheet old
    → before ≡ room.items → take old.used room.items ≡ take old.used old.text.items → length after ≡ length before
    → has_field ≡ (old.has_field || has_fields more) → take used after ≡ take old.used before ++ more_text old.has_field more → old.used ≤ used → used ≤ length before
    → HoldsRows (with_bytes old room after used has_field) (sheet_rows old).rows ((sheet_rows old).row ++ more)
pushed_in old room before after used has_field more h is kept size begun written grown within =
    let whole = room.ok.0 in
    let long : length after ≡ room.len = size ∙ ap length is ∙ sym whole in
    let same : (with_items room after).items ≡ after = with_items_is room after long in
    pushed old (with_bytes old room after used has_field) room.items more h refl begun kept
    (rw same (written ∙ rw is refl)) grown (rw same (omega (arith, size)))

-- whether the row that is being written shows nothing
pub is_blank-is : (sheet : Inside) (rows : List Row) (row : Row) → HoldsRows sheet rows row → (sheet.used == sheet.ended) ≡ (length (open_text sheet) == 0)
is_blank-is sheet rows row h =
    let order = h.order in
    let room = h.room in
    let size : length (open_text sheet) ≡ sheet.used - sheet.ended = length-take-le (sheet.used - sheet.ended) (drop sheet.ended sheet.text.items) (omega (arith, length-drop sheet.ended sheet.text.items)) in
    elim (cases_Bool (sheet.used == sheet.ended)) [
      | inl same ↦ rw same (sym (eq-eqb (length (open_text sheet)) 0 (omega (arith, size, eqb-true sheet.used sheet.ended same))))
      | inr other ↦ rw other (sym (ne_eqb (length (open_text sheet)) 0 (λ none. eqb-false sheet.used sheet.ended other (omega arith))))
    ]

-- the row is ended
pub HoldsRows-end : (old new : Inside) (rows : List Row) (row : Row) → HoldsRows old rows row → has_fields row ≡ true → new.ended ≡ new.used → new.has_field ≡ false → new.used ≤ length new.text.items
    → take new.used new.text.items ≡ take old.used old.text.items ++ ((if old.used == old.ended then 34 ∷ 34 ∷ [] else []) ++ 10 ∷ []) → HoldsRows new (rows ++ row ∷ []) []
HoldsRows-end old new rows row h some ended has_field room written =
    let none : new.used - new.used ≡ 0 = omega arith in
    let tail : List ℕ = (if old.used == old.ended then 34 ∷ 34 ∷ [] else []) ++ 10 ∷ [] in
    let all : take new.used new.text.items ≡ text_of_rows rows ++ text_of_row row =
    written ∙ ap (λ bytes. bytes ++ tail) (used-is old.text.items old.ended old.used h.order) ∙ append_assoc (ended_text old) (open_text old) tail
    ∙ rw (h.ended, is_blank-is old rows row h, h.body) (ap (λ bytes. text_of_rows rows ++ bytes) (ended_row-text row some)) in
    record {
      order = omega arith;
      room = room;
      ended = rw (ended, all) (sym (flat_map-append text_of_row rows (row ∷ []) ∙ ap (λ bytes. text_of_rows rows ++ bytes) (append-nil (text_of_row row))));
      each = IsTrue-from (list_all-append has_fields rows (row ∷ []) ∙ and_from (list_all has_fields rows) (has_fields row && true) (IsTrue-true h.each) (and_from (has_fields row) true some refl));
      body = rw (ended, none) refl;
      begun = has_field;
    }

-- rows that have this text are added to those that were ended
pub HoldsRows-append : (old new : Inside) (text : List ℕ) (rows more : List Row) → HoldsRows old rows [] → IsTextOf text more → new.ended ≡ new.used → new.has_field ≡ old.has_field → new.used ≤ length new.text.items
    → take new.used new.text.items ≡ ended_text old ++ text → HoldsRows new (rows ++ more) []
HoldsRows-append old new text rows more h is ended has_field room written =
    let none : new.used - new.used ≡ 0 = omega arith in
    record {
      order = omega arith;
      room = room;
      ended = rw ended (written ∙ rw (h.ended, is.written) (sym (flat_map-append text_of_row rows more)));
      each = IsTrue-from (list_all-append has_fields rows more ∙ and_from (list_all has_fields rows) (list_all has_fields more) (IsTrue-true h.each) (IsTrue-true is.each));
      body = rw (ended, none) refl;
      begun = has_field ∙ h.begun;
    }

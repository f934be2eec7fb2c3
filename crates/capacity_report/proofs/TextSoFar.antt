-- A text that has grown by rows.
use Rattle.std.proofs.Common.{◌≡◌, ℕ, ◌+◌, ◌<◌, List, [], ◌∷◌, ◌++◌, length, map, drop, get_or, sym, ap, ◌∙◌, append_assoc, append-nil, arith, length-append}
use Rattle.std.specs.Prelude.{All}
use Rattle.std.specs.List.{flat_map}
use Rattle.std.specs.Global.{Vec}
use Rattle.std.proofs.Math.Seq.{drop-append_seam}
use Rattle.std.proofs.lemmas.List.{map-append, length-map, get_or_append_left, get_or-append-add}
use Rattle.std.proofs.lemmas.List.Concat.{flat_map-append}
use Rattle.row_text.specs.SheetRows.{Row, text_of_row, text_of_rows}
use Rattle.plan_model.specs.declared.answer.Plan.{Plan}
use Rattle.capacity_report.specs.declared.last_trains.LastTrains.{LastTrains}
use Rattle.capacity_report.specs.declared.text_so_far.TextSoFar.{TextSoFar}
use Rattle.capacity_report.specs.Answers.{train_rows}
use Rattle.capacity_report.specs.LastTrains.{bytes_of, EndsWithTrains}
use Rattle.capacity_report.specs.TextSoFar.{text_at, IsThere, AreThere, so_far, Grows}

-- by rows on the sheet
pub grows_by : (before after : TextSoFar) (added : List Row) → AreThere before → after.texts ≡ before.texts → after.last ≡ before.last → after.sheet.rows ≡ before.sheet.rows ++ added → Grows before after added
grows_by before after added there texts last rows =
    let finished : List ℕ = flat_map (λ t. t.items) before.texts.items in
    record {
      text = rw (texts, rows)
          (ap (λ t. finished ++ t) (flat_map-append text_of_row before.sheet.rows added) ∙ sym (append_assoc finished (text_of_rows before.sheet.rows) (text_of_rows added)));
      there = rw (texts, last) there;
    }

-- by rows with which the text of the sheet is finished
pub grows_closed : (before after : TextSoFar) (text : Vec ℕ) (added : List Row) → after.texts.items ≡ before.texts.items ++ text ∷ [] → after.sheet.rows ≡ [] → text.items ≡ text_of_rows (before.sheet.rows ++ added) → AreThere after
    → Grows before after added
grows_closed before after text added texts none is there =
    let finished : List ℕ = flat_map (λ t. t.items) before.texts.items in
    record {
      text = rw (texts, none)
          (append-nil (flat_map (λ (t : Vec ℕ). t.items) (before.texts.items ++ text ∷ [])) ∙ flat_map-append (λ (t : Vec ℕ). t.items) before.texts.items (text ∷ [])
          ∙ ap (λ t. finished ++ t) (append-nil text.items ∙ is ∙ flat_map-append text_of_row before.sheet.rows added)
          ∙ sym (append_assoc finished (text_of_rows before.sheet.rows) (text_of_rows added)));
      there = there;
    }

-- by rows, and then by others
pub grows_then : {before later after : TextSoFar} (first rest : List Row) → Grows before later first → Grows later after rest → Grows before after (first ++ rest)
grows_then {before} first rest one two = record {
  text = two.text ∙ ap (λ t. t ++ text_of_rows rest) one.text ∙ append_assoc (so_far before) (text_of_rows first) (text_of_rows rest)
      ∙ ap (λ t. so_far before ++ t) (sym (flat_map-append text_of_row first rest));
  there = two.there;
}

-- a text of rows and then those of a plan's trains
pub ends_with : (text : List ℕ) (rows : List Row) (plan : Plan) (from : ℕ) (bytes : List ℕ) → text ≡ text_of_rows (rows ++ train_rows plan) → from ≡ length (text_of_rows rows) → bytes ≡ map bytes_of (train_rows plan)
    → EndsWithTrains text plan from bytes
ends_with text rows plan from bytes is at each =
    let parts = is ∙ flat_map-append text_of_row rows (train_rows plan) in
    record {
      within = omega (arith, ap length parts, length-append (text_of_rows rows) (text_of_rows (train_rows plan)));
      rows = ap (drop from) parts ∙ ap (λ n. drop n (text_of_rows rows ++ text_of_rows (train_rows plan))) at ∙ drop-append_seam (text_of_rows rows) (text_of_rows (train_rows plan));
      each = each;
    }

module _ (texts : List (Vec ℕ)) (text : Vec ℕ) where
  -- a text that is there stays, and the new one is the last
  text_at-old : (i : ℕ) → i < length texts → text_at (texts ++ text ∷ []) i ≡ text_at texts i
  text_at-old i l =
      let items = λ (t : Vec ℕ). t.items in
      ap (λ ts. get_or ts i []) (map-append items texts (text ∷ [])) ∙ get_or_append_left (map items texts) (text.items ∷ []) [] i (omega (arith, length-map texts items))

  text_at-new : text_at (texts ++ text ∷ []) (length texts) ≡ text.items
  text_at-new =
      let items = λ (t : Vec ℕ). t.items in
      let last : length texts ≡ length (map items texts) + 0 = omega (arith, length-map texts items) in
      ap (λ ts. get_or ts (length texts) []) (map-append items texts (text ∷ [])) ∙ ap (λ i. get_or (map items texts ++ text.items ∷ []) i []) last
      ∙ get_or-append-add (map items texts) (text.items ∷ []) 0 []

  still_there : (l : LastTrains) → IsThere texts l → IsThere (texts ++ text ∷ []) l
  still_there l is = record {
    text = omega (arith, is.text, length-append texts (text ∷ []));
    ends = rw (text_at-old l.text is.text) is.ends;
  }

  pub all_still_there : (last : List LastTrains) → All (IsThere texts) last → All (IsThere (texts ++ text ∷ [])) last
  all_still_there last all = λ k d l. still_there (get_or last k d) (all k d l)

  -- the trains with which the new text ends
  pub now_there : (trains : LastTrains) → trains.text ≡ length texts → EndsWithTrains text.items trains.plan trains.from trains.bytes.items → IsThere (texts ++ text ∷ []) trains
  now_there trains at ends = record {
    text = omega (arith, at, length-append texts (text ∷ []));
    ends = rw (at, text_at-new) ends;
  }

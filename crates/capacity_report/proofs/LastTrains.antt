-- Rows that are copied are those that would be written.
use Rattle.std.proofs.Common.{◌≡◌, ℕ, ◌+◌, ◌-◌, ◌<◌, ◌≤◌, true, ◌&&◌, List, [], ◌∷◌, ◌++◌, length, map, take, drop, get_or, slice_range, refl, sym, ap, ◌∙◌, append_assoc, append-nil, arith, length-append, length-drop}
use Rattle.std.specs.List.{list_all}
use Rattle.std.proofs.Math.Seq.{drop-append_seam, take-append_seam}
use Rattle.std.proofs.Math.ListN.{get_or-map as get_or-map-any}
use Rattle.std.proofs.lemmas.List.{drop-drop, drop-take, take-take, take-append-drop, take_more, map-append, length-map, get_or-map, ext_get_or}
use Rattle.std.proofs.lemmas.Bool.{and_from}
use Rattle.std.proofs.lemmas.List.Folds.{list_all-append}
use Rattle.std.proofs.lemmas.List.Concat.{flat_map-append}
use Rattle.row_text.proofs.SheetRows.{IsTrue-true, IsTrue-from}
use Rattle.row_text.specs.SheetRows.{Row, text_of_row, text_of_rows, has_fields, IsTextOf}
use Rattle.plan_model.specs.declared.answer.Placed.{Placed}
use Rattle.plan_model.specs.declared.answer.Plan.{Plan}
use Rattle.plan_model.specs.declared.answer.Tie.{Tie}
use Rattle.plan_model.specs.declared.answer.Tie.TheVariants.{Start, After}
use Rattle.plan_model.specs.PlacedList.{no_train}
use Rattle.critical_chain.specs.Chain.{train_at}
use Rattle.capacity_report.specs.Answers.{tie_fields, train_row, train_rows}
use Rattle.capacity_report.specs.LastTrains.{bytes_of, trains_of, AreAlike, EndsWithTrains}

-- the rows of the first `i` trains are written, but for those that are still to be copied: they have the text from
-- `start` to `end`, where the row of the next train begins
pub record IsAgain (text : List ℕ) (plan last : Plan) (from : ℕ) (before now : List Row) (start end i : ℕ) : Type 0 where
  pub waiting : List Row
  pub copied : IsTextOf (slice_range text start end) waiting
  pub written : now ++ waiting ≡ before ++ map (train_row plan) (take i plan.placed)
  pub order : start ≤ end
  pub within : end ≤ length text
  pub there : end ≡ from + length (text_of_rows (take i (train_rows last)))

-- the row of the train at `i` in a text that ends with these rows
module _ (text : List ℕ) (rows : List Row) (from i : ℕ) (within : from ≤ length text) (ends : drop from text ≡ text_of_rows rows) (there : i < length rows) where
  abbrev end_of : ℕ
  end_of = from + length (text_of_rows (take i rows))

  abbrev row : Row
  row = get_or rows i []

  texts : text_of_rows rows ≡ text_of_rows (take i rows) ++ (text_of_row row ++ text_of_rows (drop (i + 1) rows))
  texts =
      ap text_of_rows (sym (take-append-drop (i + 1) rows) ∙ ap (λ first. first ++ drop (i + 1) rows) (take_more rows i [] there) ∙ append_assoc (take i rows) (row ∷ []) (drop (i + 1) rows))
      ∙ flat_map-append text_of_row (take i rows) (row ∷ drop (i + 1) rows)

  from_end : drop end_of text ≡ text_of_row row ++ text_of_rows (drop (i + 1) rows)
  from_end =
      sym (drop-drop (length (text_of_rows (take i rows))) from text)
      ∙ ap (drop (length (text_of_rows (take i rows)))) (ends ∙ texts)
      ∙ drop-append_seam (text_of_rows (take i rows)) (text_of_row row ++ text_of_rows (drop (i + 1) rows))

  pub row_text : slice_range text end_of (end_of + bytes_of row) ≡ text_of_row row
  row_text =
      let many : (end_of + bytes_of row) - end_of ≡ bytes_of row = omega arith in
      ap (λ n. take n (drop end_of text)) many ∙ ap (take (bytes_of row)) from_end
      ∙ take-append_seam (text_of_row row) (text_of_rows (drop (i + 1) rows))

  pub row_end : end_of + bytes_of row ≡ from + length (text_of_rows (take (i + 1) rows))
  row_end =
      let more = ap (λ rs. length (text_of_rows rs)) (take_more rows i [] there)
      ∙ ap length (flat_map-append text_of_row (take i rows) (row ∷ []) ∙ ap (λ t. text_of_rows (take i rows) ++ t) (append-nil (text_of_row row)))
      ∙ length-append (text_of_rows (take i rows)) (text_of_row row) in
      omega (arith, more)

  pub row_within : end_of + bytes_of row ≤ length text
  row_within =
      let whole = ap length (ends ∙ texts) in
      omega (
        arith,
        whole,
        length-drop from text,
        length-append (text_of_rows (take i rows)) (text_of_row row ++ text_of_rows (drop (i + 1) rows)),
        length-append (text_of_row row) (text_of_rows (drop (i + 1) rows)),
      )

-- the names of trains, one by one
pub trains_from : (xs ys : List Placed) → length xs ≡ length ys → ((k : ℕ) → k < length xs → (get_or xs k no_train).train ≡ (get_or ys k no_train).train) → trains_of xs ≡ trains_of ys
trains_from xs ys same each =
    ext_get_or [] (trains_of xs) (trains_of ys) (omega (arith, same, length-map xs (λ (p : Placed). p.train), length-map ys (λ (p : Placed). p.train))) (λ k l.
    let here : k < length xs = omega (arith, l, length-map xs (λ (p : Placed). p.train)) in
    get_or-map (λ (p : Placed). p.train) xs k no_train [] here ∙ each k here
    ∙ sym (get_or-map (λ (p : Placed). p.train) ys k no_train [] (omega (arith, here, same))))

-- a train's name in a plan and in one like it
module _ (plan last : Plan) (alike : AreAlike plan last) where
  pub as_many : length plan.placed ≡ length last.placed
  as_many = sym (length-map plan.placed (λ (p : Placed). p.train)) ∙ ap length alike.trains ∙ length-map last.placed (λ (p : Placed). p.train)

  same_name : (k : ℕ) → (train_at plan k).train ≡ (train_at last k).train
  same_name k =
      sym (get_or-map-any (λ (p : Placed). p.train) plan.placed k no_train) ∙ ap (λ names. get_or names k []) alike.trains
      ∙ get_or-map-any (λ (p : Placed). p.train) last.placed k no_train

  same_tie : (t : Tie) → tie_fields plan t ≡ tie_fields last t
  same_tie Start = refl
  same_tie (After train block) = rw (same_name train, alike.places) refl

  -- its row is the same where its numbers and its tie are
  pub same_row : (i : ℕ) → (get_or plan.placed i no_train).planned ≡ (get_or last.placed i no_train).planned
      → (get_or plan.placed i no_train).entry ≡ (get_or last.placed i no_train).entry
      → (get_or plan.placed i no_train).tie ≡ (get_or last.placed i no_train).tie
      → train_row plan (get_or plan.placed i no_train) ≡ train_row last (get_or last.placed i no_train)
  same_row i planned entry tie = rw (same_name i, planned, entry, tie, same_tie (get_or last.placed i no_train).tie) refl

-- a part of a text, and then the next
slices : (text : List ℕ) (start end next : ℕ) → start ≤ end → end ≤ next → slice_range text start next ≡ slice_range text start end ++ slice_range text end next
slices text start end next order more =
    let n = end - start in
    let m = next - end in
    let whole : next - start ≡ n + m = omega arith in
    let there : start + n ≡ end = omega arith in
    let part : take n (take (n + m) (drop start text)) ≡ take n (drop start text) = take-take n (n + m) (drop start text) (omega arith) in
    ap (λ k. take k (drop start text)) whole
    ∙ sym (take-append-drop n (take (n + m) (drop start text)))
    ∙ ap (λ first. first ++ drop n (take (n + m) (drop start text))) part
    ∙ ap (λ rest. take n (drop start text) ++ rest) (drop-take n m (drop start text) ∙ ap (take m) (drop-drop n start text ∙ ap (λ k. drop k text) there))

-- rows that have a text, and one row more
text_more : {text more : List ℕ} {rows : List Row} (row : Row) → IsTextOf text rows → more ≡ text_of_row row → has_fields row ≡ true → IsTextOf (text ++ more) (rows ++ row ∷ [])
text_more {more = more} {rows = rows} row is one some = record {
  written = ap (λ t. t ++ more) is.written ∙ ap (λ t. text_of_rows rows ++ t) (one ∙ sym (append-nil (text_of_row row))) ∙ sym (flat_map-append text_of_row rows (row ∷ []));
  each = IsTrue-from (list_all-append has_fields rows (row ∷ []) ∙ and_from (list_all has_fields rows) (has_fields row && true) (IsTrue-true is.each) (and_from (has_fields row) true some refl));
}

-- the rows of the first trains, and the row of one more
pub trains_more : (plan : Plan) (i : ℕ) → i < length plan.placed → map (train_row plan) (take (i + 1) plan.placed) ≡ map (train_row plan) (take i plan.placed) ++ train_row plan (get_or plan.placed i no_train) ∷ []
trains_more plan i there = ap (map (train_row plan)) (take_more plan.placed i no_train there) ∙ map-append (train_row plan) (take i plan.placed) (get_or plan.placed i no_train ∷ [])

-- how many bytes the first rows have, and one more
pub bytes_more : (plan : Plan) (i size : ℕ) {bytes : List ℕ} → i < length plan.placed → bytes ≡ map bytes_of (map (train_row plan) (take i plan.placed))
    → size ≡ bytes_of (train_row plan (get_or plan.placed i no_train)) → bytes ++ size ∷ [] ≡ map bytes_of (map (train_row plan) (take (i + 1) plan.placed))
bytes_more plan i size {bytes} there so_far is =
    let rows = map (train_row plan) (take i plan.placed) in
    ap (λ b. b ++ size ∷ []) so_far ∙ ap (λ n. map bytes_of rows ++ n ∷ []) is
    ∙ sym (ap (map bytes_of) (trains_more plan i there) ∙ map-append bytes_of rows (train_row plan (get_or plan.placed i no_train) ∷ []))

module _ (text : List ℕ) (plan last : Plan) (from : ℕ) (bytes : List ℕ) (alike : AreAlike plan last) (ends : EndsWithTrains text last from bytes) (before now : List Row) (start end i size : ℕ) (so_far : IsAgain text plan last from before now start end i) (there : i < length plan.placed) (is : size ≡ get_or bytes i size) where
  there_last : i < length (train_rows last)
  there_last = omega (arith, as_many plan last alike, length-map last.placed (train_row last))

  row_is : get_or (train_rows last) i [] ≡ train_row last (get_or last.placed i no_train)
  row_is = get_or-map (train_row last) last.placed i no_train [] (omega (arith, as_many plan last alike))

  size_row : size ≡ bytes_of (get_or (train_rows last) i [])
  size_row = is ∙ ap (λ bs. get_or bs i size) ends.each ∙ get_or-map bytes_of (train_rows last) i [] size there_last

  next_is : end + size ≡ from + length (text_of_rows (take (i + 1) (train_rows last)))
  next_is = ap (λ k. k + size) so_far.there ∙ ap (λ n. from + length (text_of_rows (take i (train_rows last))) + n) size_row ∙ row_end text (train_rows last) from i ends.within ends.rows there_last

  pub next_within : end + size ≤ length text
  next_within = omega (arith, so_far.there, size_row, row_within text (train_rows last) from i ends.within ends.rows there_last)

  next_text : slice_range text end (end + size) ≡ text_of_row (train_row last (get_or last.placed i no_train))
  next_text =
      ap (λ k. slice_range text k (k + size)) so_far.there
      ∙ ap (λ n. slice_range text (from + length (text_of_rows (take i (train_rows last)))) (from + length (text_of_rows (take i (train_rows last))) + n)) size_row
      ∙ row_text text (train_rows last) from i ends.within ends.rows there_last ∙ ap text_of_row row_is

  -- how many bytes the row of the last plan's train has
  pub size_is : size ≡ bytes_of (train_row last (get_or last.placed i no_train))
  size_is = size_row ∙ ap bytes_of row_is

  -- the next row is to be copied, too
  pub again_same : train_row plan (get_or plan.placed i no_train) ≡ train_row last (get_or last.placed i no_train) → IsAgain text plan last from before now start (end + size) (i + 1)
  again_same same =
      let row = train_row plan (get_or plan.placed i no_train) in
      let order = so_far.order in
      let parts = slices text start end (end + size) so_far.order (omega arith) in
      record {
        waiting = so_far.waiting ++ row ∷ [];
        copied = rw parts (text_more row so_far.copied (next_text ∙ ap text_of_row (sym same)) refl);
        written = sym (append_assoc now so_far.waiting (row ∷ [])) ∙ ap (λ rs. rs ++ row ∷ []) so_far.written
            ∙ append_assoc before (map (train_row plan) (take i plan.placed)) (row ∷ []) ∙ ap (λ rs. before ++ rs) (sym (trains_more plan i there));
        order = omega arith;
        within = next_within;
        there = next_is;
      }

  -- the rows that were waiting are copied, and the next row is written
  pub again_other : (after : List Row) → after ≡ (now ++ so_far.waiting) ++ train_row plan (get_or plan.placed i no_train) ∷ [] → IsAgain text plan last from before after (end + size) (end + size) (i + 1)
  again_other after done =
      let row = train_row plan (get_or plan.placed i no_train) in
      let none : (end + size) - (end + size) ≡ 0 = omega arith in
      record {
        waiting = [];
        copied = record { written = rw none refl; each = refl };
        written = append-nil after ∙ done ∙ ap (λ rs. rs ++ row ∷ []) so_far.written
            ∙ append_assoc before (map (train_row plan) (take i plan.placed)) (row ∷ []) ∙ ap (λ rs. before ++ rs) (sym (trains_more plan i there));
        order = omega arith;
        within = next_within;
        there = next_is;
      }

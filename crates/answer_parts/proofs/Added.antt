-- Rows that calls and loops add to a sheet, all of them or a prefix.
use Rattle.std.proofs.Common.{◌≡◌, ℕ, ◌+◌, ◌<◌, ◌≤◌, List, [], ◌∷◌, ◌++◌, length, map, take, drop, get_or, Result, Ok, Err, OnOk, OnErr, sym, ap, ◌∙◌, append_assoc, append-nil, zero-add, arith}
use Rattle.std.specs.List.{range_with_len}
use Rattle.std.proofs.lemmas.List.{take_more, take_all, take-append-drop, map-append}
use Rattle.std.proofs.lemmas.List.FromFn.{length-range_with_len, get_or-range_with_len}
use Rattle.row_text.specs.SheetRows.{Row, SheetRows, with_row}
use Rattle.row_text.specs.Adds.{AddsAll, AddsFirst, Adds}
use Rattle.row_text.proofs.Adds.{adds_none, first_added, then_added}
use Rattle.answer_parts.specs.Adding.{AddsRow}

-- where the rows stayed, none was added
pub all_none : (before after : SheetRows) → after.rows ≡ before.rows → after.row ≡ [] → AddsAll before after []
all_none before after same closed = record { rows = same ∙ sym (append-nil before.rows); closed = closed }

-- one row
pub all_one : {before after : SheetRows} {row : Row} → after ≡ with_row before row → AddsAll before after (row ∷ [])
all_one is = record { rows = ap (λ (s : SheetRows). s.rows) is; closed = ap (λ (s : SheetRows). s.row) is }

pub adds_row : {T E : Type 0} (before after : SheetRows) (row : Row) (result : Result T E) → AddsRow result before after row → Adds result before after (row ∷ [])
adds_row before after row (Ok x) is = all_one is
adds_row before after row (Err e) same = adds_none (row ∷ []) same

-- all of the rows are a prefix of them
pub first_all : {before after : SheetRows} {added : List Row} → AddsAll before after added → AddsFirst before after added
first_all {before} {added = added} all = record {
  count = length added;
  rows = all.rows ∙ ap (λ rows. before.rows ++ rows) (sym (take_all (length added) added (omega arith)));
}

-- a prefix of the rows, and none after it
pub first_kept : {before later after : SheetRows} {added : List Row} → AddsFirst before later added → after.rows ≡ later.rows → AddsFirst before after added
first_kept part same = record { count = part.count; rows = same ∙ part.rows }

-- first these rows, then those
pub all_then : {before later after : SheetRows} {first rest : List Row} → AddsAll before later first → AddsAll later after rest → AddsAll before after (first ++ rest)
all_then {before} {first = first} {rest = rest} so_far step = record {
  rows = step.rows ∙ ap (λ rows. rows ++ rest) so_far.rows ∙ append_assoc before.rows first rest;
  closed = step.closed;
}

-- a call that adds those as its last step
pub then_adds : {T E : Type 0} {before later : SheetRows} {first : List Row} (after : SheetRows) (rest : List Row) (result : Result T E) → AddsAll before later first → Adds result later after rest → Adds result before after (first ++ rest)
then_adds after rest (Ok x) so_far step = all_then so_far step
then_adds {first = first} after rest (Err e) so_far step = then_added first so_far.rows step

-- what a call that adds rows ensures, clause by clause
module _ {T E : Type 0} (before after : SheetRows) (added : List Row) where
  pub adds_rows : (result : Result T E) → Adds result before after added → OnOk result (after.rows ≡ before.rows ++ added)
  adds_rows (Ok x) adds = adds.rows
  adds_rows (Err e) adds = tt

  pub adds_closed : (result : Result T E) → Adds result before after added → OnOk result (after.row ≡ [])
  adds_closed (Ok x) adds = adds.closed
  adds_closed (Err e) adds = tt

  pub adds_first : (result : Result T E) → Adds result before after added → OnErr result (AddsFirst before after added)
  adds_first (Ok x) adds = tt
  adds_first (Err e) adds = adds

-- the rows of the items of a list, item by item, where those of two lists are the rows of both
module _ {X : Type 0} (rows_of : List X → List Row) (joins : (xs ys : List X) → rows_of (xs ++ ys) ≡ rows_of xs ++ rows_of ys) (items : List X) (i : ℕ) where
  one_more : (d : X) → i < length items → rows_of (take (i + 1) items) ≡ rows_of (take i items) ++ rows_of (get_or items i d ∷ [])
  one_more d lt = ap rows_of (take_more items i d lt) ∙ joins (take i items) (get_or items i d ∷ [])

  split : (n : ℕ) → rows_of items ≡ rows_of (take n items) ++ rows_of (drop n items)
  split n = ap rows_of (sym (take-append-drop n items)) ∙ joins (take n items) (drop n items)

  -- those of one item more
  pub items_more : {before later after : SheetRows} {next : List Row} (d : X) → i < length items → next ≡ rows_of (get_or items i d ∷ [])
      → AddsAll before later (rows_of (take i items)) → AddsAll later after next → AddsAll before after (rows_of (take (i + 1) items))
  items_more {before = before} {after = after} {next = next} d lt is so_far step =
      let whole : rows_of (take (i + 1) items) ≡ rows_of (take i items) ++ next = one_more d lt ∙ ap (λ rows. rows_of (take i items) ++ rows) (sym is) in
      rw whole (all_then so_far step)

  -- those of the first items, and a prefix of those of the next
  pub items_within : {before later after : SheetRows} {next : List Row} (d : X) → i < length items → next ≡ rows_of (get_or items i d ∷ [])
      → AddsAll before later (rows_of (take i items)) → AddsFirst later after next → AddsFirst before after (rows_of items)
  items_within {before = before} {after = after} {next = next} d lt is so_far step =
      let past = rows_of (take i items) in
      let rest = rows_of (drop (i + 1) items) in
      let whole : rows_of items ≡ (past ++ next) ++ rest = split (i + 1) ∙ ap (λ rows. rows ++ rest) (one_more d lt ∙ ap (λ rows. past ++ rows) (sym is)) in
      let part : AddsFirst before after (past ++ next) = then_added past so_far.rows step in
      rw whole (first_added rest part)

  pub items_first : {before after : SheetRows} → AddsAll before after (rows_of (take i items)) → AddsFirst before after (rows_of items)
  items_first so_far = rw (split i) (first_added (rows_of (drop i items)) (first_all so_far))

  -- those of all
  pub items_all : {before after : SheetRows} → length items ≤ i → AddsAll before after (rows_of (take i items)) → AddsAll before after (rows_of items)
  items_all {before} {after} all so_far = rw (take_all i items all) at so_far

-- the rows of the numbers below n, one of each
module _ (row : ℕ → Row) (n k : ℕ) where
  next_row : k < n → row k ∷ [] ≡ map row (get_or (range_with_len 0 n) k 0 ∷ [])
  next_row l = ap (λ m. row m ∷ []) (sym (get_or-range_with_len 0 n k 0 l ∙ zero-add k))

  there : k < n → k < length (range_with_len 0 n)
  there l = omega (arith, l, length-range_with_len 0 n)

  pub numbers_more : {before later after : SheetRows} → k < n → AddsAll before later (map row (take k (range_with_len 0 n)))
      → AddsAll later after (row k ∷ []) → AddsAll before after (map row (take (k + 1) (range_with_len 0 n)))
  numbers_more l = items_more (map row) (map-append row) (range_with_len 0 n) k 0 (there l) (next_row l)

  pub numbers_within : {before later after : SheetRows} → k < n → AddsAll before later (map row (take k (range_with_len 0 n)))
      → AddsFirst later after (row k ∷ []) → AddsFirst before after (map row (range_with_len 0 n))
  numbers_within l = items_within (map row) (map-append row) (range_with_len 0 n) k 0 (there l) (next_row l)

  pub numbers_all : {before after : SheetRows} → n ≤ k → AddsAll before after (map row (take k (range_with_len 0 n)))
      → AddsAll before after (map row (range_with_len 0 n))
  numbers_all l = items_all (map row) (map-append row) (range_with_len 0 n) k (omega (arith, l, length-range_with_len 0 n))

-- The texts of the parts, one after the other, are the text of the whole.
use Rattle.std.proofs.Common.{◌≡◌, ℕ, zero, suc, ◌+◌, ◌-◌, ◌*◌, ◌/◌, ◌<◌, ◌≤◌, List, [], ◌∷◌, ◌++◌, length, get_or, map, sym, ap, subst, ◌∙◌, append-nil, arith}
use Rattle.std.specs.Prelude.{Result, Ok}
use Rattle.std.specs.List.{flat_map, range_with_len}
use Rattle.std.specs.declared.vec.Vec.{Vec}
use Rattle.std.proofs.lemmas.List.{length-map}
use Rattle.std.proofs.lemmas.List.Concat.{flat_map-append}
use Rattle.std.proofs.lemmas.Nat.{div-add-mod', div_below, div-mul-add, le-div, mul-le}
use Rattle.rayon.specs.Shown.{run-append}
use Rattle.row_text.specs.SheetRows.{Row, text_of_row, text_of_rows}
use Rattle.capacity_report.specs.declared.parts.Part.{Part}
use Rattle.capacity_report.specs.Parts.{start_of, text_between, IsPart, GivesTexts}

-- the rows of the items from a to b, and then to c, are those from a to c
module _ (rows : ℕ → List Row) where
  rows_joined : (a b c : ℕ) → a ≤ b → b ≤ c → flat_map rows (range_with_len a (b - a)) ++ flat_map rows (range_with_len b (c - b)) ≡ flat_map rows (range_with_len a (c - a))
  rows_joined a b c rise later =
      let mid : a + (b - a) ≡ b = omega arith in
      let whole : (b - a) + (c - b) ≡ c - a = omega arith in
      sym (flat_map-append rows (range_with_len a (b - a)) (range_with_len b (c - b)))
      ∙ ap (flat_map rows)
      (ap (λ j. range_with_len a (b - a) ++ range_with_len j (c - b)) (sym mid) ∙ run-append a (b - a) (c - b) ∙ ap (range_with_len a) whole)

  -- those of no item, and of one item more
  pub rows_none : (a : ℕ) → [] ≡ flat_map rows (range_with_len a (a - a))
  rows_none a =
      let none : 0 ≡ a - a = omega arith in
      ap (λ n. flat_map rows (range_with_len a n)) none

  pub rows_more : (a i : ℕ) → a ≤ i → {before after : List Row} → before ≡ flat_map rows (range_with_len a (i - a)) → after ≡ before ++ rows i
      → after ≡ flat_map rows (range_with_len a (i + 1 - a))
  rows_more a i rise {before} so_far step =
      let one : i + 1 - i ≡ 1 = omega arith in
      step ∙ ap (λ rs. rs ++ rows i) so_far
      ∙ ap (λ rs. flat_map rows (range_with_len a (i - a)) ++ rs) (sym (ap (λ n. flat_map rows (range_with_len i n)) one ∙ append-nil (rows i)))
      ∙ rows_joined a i (i + 1) rise (omega arith)

  texts_joined : (a b c : ℕ) → a ≤ b → b ≤ c → text_between rows a b ++ text_between rows b c ≡ text_between rows a c
  texts_joined a b c rise later =
      sym (flat_map-append text_of_row (flat_map rows (range_with_len a (b - a))) (flat_map rows (range_with_len b (c - b))))
      ∙ ap text_of_rows (rows_joined a b c rise later)

module _ (count parts : ℕ) (some : 0 < parts) where
  -- no part starts before the one before it, nor beyond the end
  pub starts_rise : (i : ℕ) → start_of count parts i ≤ start_of count parts (i + 1)
  starts_rise i =
      le-div (start_of count parts i) ((i + 1) * count) parts some
      (omega (arith, div-add-mod' (i * count) parts, mul-le i count (i + 1) count (omega arith) (omega arith)))

  pub starts_within : (i : ℕ) → i ≤ parts → start_of count parts i ≤ count
  starts_within i l =
      let below : start_of count parts i < count + 1 = div_below (i * count) parts (count + 1) some
      (omega (arith, mul-le i count parts count l (omega arith))) in
      omega arith

  start_none : start_of count parts 0 ≡ 0
  start_none = ap (λ n. n / parts) (omega arith) ∙ div-mul-add 0 parts 0 some

  start_all : start_of count parts parts ≡ count
  start_all = ap (λ n. n / parts) (omega arith) ∙ div-mul-add count parts 0 some

  rises : (i n : ℕ) → start_of count parts i ≤ start_of count parts (i + n)
  rises i zero =
      let same : i + 0 ≡ i = omega arith in
      omega (arith, ap (start_of count parts) same)
  rises i (suc n) =
      let next : i + suc n ≡ i + n + 1 = omega arith in
      omega (arith, rises i n, starts_rise (i + n), ap (start_of count parts) next)

  -- a part ends where it starts or after it, and not beyond the end
  pub part_within : (i : ℕ) (part : Part) → i < parts → IsPart count parts i part → (part.first ≤ part.«end») × (part.«end» ≤ count)
  part_within i part l is = (omega (arith, is.first, is.«end», starts_rise i), omega (arith, is.«end», starts_within (i + 1) (omega arith)))

  module _ {A E : Type 0} (gives : Part → Result (Vec ℕ A) E → Type 0) where
    -- what a call makes of the part of this number
    abbrev GivesAt : ℕ → Result (Vec ℕ A) E → Type 0
    GivesAt i made = (part : Part) × IsPart count parts i part × gives part made

    module _ (rows : ℕ → List Row) (are : GivesTexts gives rows count) where
      -- what is made of the part of this number is its text
      text_at : (i : ℕ) (t : Vec ℕ A) → i < parts → GivesAt i (Ok t) → t.items ≡ text_between rows (start_of count parts i) (start_of count parts (i + 1))
      text_at i t l gave =
          let is = gave.1 in
          let within = part_within i gave.0 l is in
          rw (is.first, is.«end») at (are gave.0 (Ok t) within.0 within.1 gave.2)

      -- the texts of the parts from number k on, one after the other, are that of their items
      texts_from : (made : List (Vec ℕ A)) (k : ℕ) → k + length made ≤ parts
          → ((i j : ℕ) (d : Result (Vec ℕ A) E) → k + i ≡ j → i < length made → GivesAt j (get_or (map Ok made) i d))
          → flat_map (λ (t : Vec ℕ A). t.items) made ≡ text_between rows (start_of count parts k) (start_of count parts (k + length made))
      texts_from [] k within each =
          let same : k + 0 ≡ k = omega arith in
          let none : start_of count parts (k + 0) - start_of count parts k ≡ 0 = omega (arith, ap (start_of count parts) same) in
          sym (ap (λ n. text_of_rows (flat_map rows (range_with_len (start_of count parts k) n))) none)
      texts_from (t ∷ made) k within each =
          let a = start_of count parts k in
          let b = start_of count parts (k + 1) in
          let after : k + 1 + length made ≡ k + length (t ∷ made) = omega arith in
          let first = text_at k t (omega arith) (each 0 k (Ok t) (omega arith) (omega arith)) in
          let rest = texts_from made (k + 1) (omega arith) (λ i j d is l. each (suc i) j d (omega arith) (omega arith)) in
          ap (λ xs. xs ++ flat_map (λ (u : Vec ℕ A). u.items) made) first ∙ ap (λ xs. text_between rows a b ++ xs) rest
          ∙ texts_joined rows a b (start_of count parts (k + 1 + length made)) (starts_rise k) (rises (k + 1) (length made))
          ∙ ap (λ j. text_between rows a (start_of count parts j)) after

      -- the texts of all parts are that of all items
      pub texts_of_all : (made : List (Vec ℕ A)) (pieces : List (Result (Vec ℕ A) E)) → pieces ≡ map Ok made → length pieces ≡ parts
          → ((i : ℕ) (d : Result (Vec ℕ A) E) → i < parts → GivesAt i (get_or pieces i d))
          → flat_map (λ (t : Vec ℕ A). t.items) made ≡ text_of_rows (flat_map rows (range_with_len 0 count))
      texts_of_all made pieces are_made long each =
          let many : length made ≡ parts = sym (length-map made _) ∙ sym (ap length are_made) ∙ long in
          let all : 0 + length made ≡ parts = omega (arith, many) in
          let last : start_of count parts (0 + length made) ≡ count = ap (start_of count parts) all ∙ start_all in
          let whole : count - 0 ≡ count = omega arith in
          texts_from made 0 (omega arith) (λ i j d same l.
          let here : i ≡ j = omega arith in
          subst (λ n. GivesAt n (get_or (map Ok made) i d)) here (subst (λ rs. GivesAt i (get_or rs i d)) are_made (each i d (omega arith))))
          ∙ ap (λ a. text_between rows a (start_of count parts (0 + length made))) start_none
          ∙ ap (text_between rows 0) last
          ∙ ap (λ n. text_of_rows (flat_map rows (range_with_len 0 n))) whole

-- Fields that are cut from bytes at places.
use Rattle.std.proofs.Common.{◌≡◌, ℕ, zero, suc, ◌+◌, ◌-◌, ◌<◌, ◌≤◌, List, [], ◌∷◌, ◌++◌, length, get_or, map, take, drop, slice_range, sym, ap, ◌∙◌, refl, arith}
use Rattle.std.specs.List.{All}
use Rattle.std.proofs.lemmas.List.{length-take-le, take-take, take_at}
use Rattle.std.proofs.lemmas.List.Elements.{All-head, All-tail, All-weaker}
use Rattle.std.proofs.lemmas.Slice.{between_is}
use Rattle.std.proofs.Math.Seq.{drop-append_seam}
use Rattle.csv.specs.Records.{last_end}
use Rattle.csv.proofs.RecordFacts.{last-append}
use Rattle.row_text.specs.Cuts.{CutsIn, EndsAt, fields_cut_at, PutsField, with_first}
use Rattle.row_text.specs.SheetRows.{field}

-- there is a place more than fields
pub length-fields_cut_at : (bytes cuts : List ℕ) → length (fields_cut_at bytes cuts) ≡ length cuts - 1
unfolding fields_cut_at
length-fields_cut_at bytes [] = refl
length-fields_cut_at bytes (start ∷ []) = refl
length-fields_cut_at bytes (start ∷ next ∷ cuts) = omega (arith, length-fields_cut_at bytes (next ∷ cuts))

-- a field is the bytes from its place on and before the byte at the end
pub field-fields_cut_at : (bytes cuts : List ℕ) (i : ℕ) → i + 1 < length cuts → field (fields_cut_at bytes cuts) i ≡ slice_range bytes (get_or cuts i 0) (get_or cuts (i + 1) 0 - 1)
unfolding fields_cut_at
field-fields_cut_at bytes [] i lt = absurd (omega arith)
field-fields_cut_at bytes (start ∷ []) i lt = absurd (omega arith)
field-fields_cut_at bytes (start ∷ next ∷ cuts) zero lt = refl
field-fields_cut_at bytes (start ∷ next ∷ cuts) (suc i) lt =
    let step : suc i + 1 ≡ suc (i + 1) = omega arith in
    rw step (field-fields_cut_at bytes (next ∷ cuts) i (omega arith))

-- the places rise, and lie within
first-in : (most start : ℕ) (cuts : List ℕ) → CutsIn most (start ∷ cuts) → start ≤ most
unfolding CutsIn
first-in most start [] lie = lie
first-in most start (next ∷ cuts) lie = omega (arith, lie.0, first-in most next cuts lie.1)

pub CutsIn-at : (most : ℕ) (cuts : List ℕ) (i : ℕ) → CutsIn most cuts → i + 1 < length cuts → (get_or cuts i 0 < get_or cuts (i + 1) 0) × (get_or cuts (i + 1) 0 ≤ most)
unfolding CutsIn
CutsIn-at most [] i lie lt = absurd (omega arith)
CutsIn-at most (start ∷ []) i lie lt = absurd (omega arith)
CutsIn-at most (start ∷ next ∷ cuts) zero lie lt = (lie.0, first-in most next cuts lie.1)
CutsIn-at most (start ∷ next ∷ cuts) (suc i) lie lt =
    let step : suc i + 1 ≡ suc (i + 1) = omega arith in
    rw step (CutsIn-at most (next ∷ cuts) i lie.1 (omega arith))

pub CutsIn-weaker : (most more : ℕ) (cuts : List ℕ) → most ≤ more → CutsIn most cuts → CutsIn more cuts
unfolding CutsIn
CutsIn-weaker most more [] le lie = tt
CutsIn-weaker most more (start ∷ []) le lie = omega (arith, lie)
CutsIn-weaker most more (start ∷ next ∷ cuts) le lie = (lie.0, CutsIn-weaker most more (next ∷ cuts) le lie.1)

-- one field more
pub fields_cut_at-more : (bytes cuts : List ℕ) (next : ℕ) → 0 < length cuts → fields_cut_at bytes (cuts ++ next ∷ []) ≡ fields_cut_at bytes cuts ++ slice_range bytes (last_end 0 cuts) (next - 1) ∷ []
unfolding fields_cut_at last_end
fields_cut_at-more bytes [] next some = absurd (omega arith)
fields_cut_at-more bytes (start ∷ []) next some = refl
fields_cut_at-more bytes (start ∷ second ∷ cuts) next some = ap (λ fields. slice_range bytes start (second - 1) ∷ fields) (fields_cut_at-more bytes (second ∷ cuts) next (omega arith))

pub CutsIn-more : (most more : ℕ) (cuts : List ℕ) (next : ℕ) → 0 < length cuts → CutsIn most cuts → last_end 0 cuts < next → next ≤ more → CutsIn more (cuts ++ next ∷ [])
unfolding CutsIn last_end
CutsIn-more most more [] next some lie rise within = absurd (omega arith)
CutsIn-more most more (start ∷ []) next some lie rise within = (rise, within)
CutsIn-more most more (start ∷ second ∷ cuts) next some lie rise within = (lie.0, CutsIn-more most more (second ∷ cuts) next (omega arith) lie.1 rise within)

-- fields stay where the bytes that they use stay: the last place may be one past these
slice-same : (bytes other : List ℕ) (used start end : ℕ) → end ≤ used → take used other ≡ take used bytes → slice_range other start end ≡ slice_range bytes start end
slice-same bytes other used start end within same =
    let first : take end other ≡ take end bytes = sym (take-take end used other within) ∙ ap (take end) same ∙ take-take end used bytes within in
    between_is other start end ∙ ap (drop start) first ∙ sym (between_is bytes start end)

pub fields_cut_at-same : (bytes other : List ℕ) (used : ℕ) (cuts : List ℕ) → CutsIn (used + 1) cuts → take used other ≡ take used bytes → fields_cut_at other cuts ≡ fields_cut_at bytes cuts
unfolding fields_cut_at CutsIn
fields_cut_at-same bytes other used [] lie same = refl
fields_cut_at-same bytes other used (start ∷ []) lie same = refl
fields_cut_at-same bytes other used (start ∷ next ∷ cuts) lie same =
    let within : next - 1 ≤ used = omega (arith, first-in (used + 1) next cuts lie.1) in
    ap (λ field. field ∷ fields_cut_at other (next ∷ cuts)) (slice-same bytes other used start (next - 1) within same)
    ∙ ap (λ fields. slice_range bytes start (next - 1) ∷ fields) (fields_cut_at-same bytes other used (next ∷ cuts) lie.1 same)

pub rows-same : (bytes other : List ℕ) (used : ℕ) (rows : List (List ℕ)) → All (CutsIn (used + 1)) rows → take used other ≡ take used bytes → map (fields_cut_at other) rows ≡ map (fields_cut_at bytes) rows
rows-same bytes other used [] each same = refl
rows-same bytes other used (cuts ∷ rows) each same =
    ap (λ fields. fields ∷ map (fields_cut_at other) rows) (fields_cut_at-same bytes other used cuts (All-head (CutsIn (used + 1)) cuts rows each) same)
    ∙ ap (λ more. fields_cut_at bytes cuts ∷ more) (rows-same bytes other used rows (All-tail (CutsIn (used + 1)) cuts rows each) same)

pub each-weaker : (most more : ℕ) (rows : List (List ℕ)) → most ≤ more → All (CutsIn most) rows → All (CutsIn more) rows
each-weaker most more rows le each = All-weaker (CutsIn most) (CutsIn more) (λ cuts lie. CutsIn-weaker most more cuts le lie) rows each

-- the bytes that are used stay where others are written after them
pub take-kept : (bytes other more : List ℕ) (used whole : ℕ) → used ≤ length bytes → used ≤ whole → take whole other ≡ take used bytes ++ more → take used other ≡ take used bytes
take-kept bytes other more used whole room le written =
    let size : length (take used bytes) ≡ used = length-take-le used bytes room in
    sym (take-take used whole other le) ∙ ap (take used) written ∙ take_at (take used bytes) more used size

-- one more field was put after the bytes that are used
pub put-field : (old new before after : List ℕ) (used end : ℕ) (field : List ℕ) → 0 < length before → EndsAt old before used → PutsField old new before after used end field
    → (fields_cut_at new after ≡ fields_cut_at old before ++ field ∷ []) × EndsAt new after end
put-field old new before after used end field some ends_at put =
    let whole = used + length field in
    let before_end : end - 1 ≡ whole = omega (arith, put.past) in
    let size : length (take used old) ≡ used = length-take-le used old ends_at.room in
    let kept : take used new ≡ take used old = take-kept old new field used whole ends_at.room (omega arith) put.bytes in
    let first : fields_cut_at new before ≡ fields_cut_at old before = fields_cut_at-same old new used before (CutsIn-weaker used (used + 1) before (omega arith) ends_at.lie) kept in
    let last : slice_range new used whole ≡ field = between_is new used whole ∙ ap (drop used) put.bytes ∙ rw size at (drop-append_seam (take used old) field) in
    let rise : last_end 0 before < end = omega (arith, ends_at.last, put.past) in (
      rw (put.cuts, fields_cut_at-more new before end some, ends_at.last, before_end, first, last) refl,
      record {
        lie = rw put.cuts (CutsIn-more used end before end some ends_at.lie rise (omega arith));
        last = rw put.cuts (last-append 0 before end);
        room = put.room;
      },
    )

-- the place of the first field is put
pub with_first-same : (bytes cuts : List ℕ) → fields_cut_at bytes (with_first cuts) ≡ fields_cut_at bytes cuts
unfolding fields_cut_at
with_first-same bytes [] = refl
with_first-same bytes (start ∷ cuts) = refl

pub with_first-ends : (bytes cuts : List ℕ) (used : ℕ) → EndsAt bytes cuts used → (0 < length (with_first cuts)) × EndsAt bytes (with_first cuts) used
unfolding CutsIn last_end
with_first-ends bytes [] used ends_at = (omega arith, record { lie = omega arith; last = ends_at.last; room = ends_at.room })
with_first-ends bytes (start ∷ cuts) used ends_at = (omega arith, ends_at)

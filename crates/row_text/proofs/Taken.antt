-- Rows that are taken one after the other.
use Rattle.std.proofs.Common.{◌≡◌, ℕ, ◌^◌, ◌+◌, ◌-◌, ◌<◌, ◌≤◌, List, [], ◌∷◌, ◌++◌, length, get_or, map, take, drop, sym, ap, ◌∙◌, refl, arith, append_assoc}
use Rattle.std.proofs.lemmas.List.{length-append, length-drop, length-take-le, map_push, take-take, take_more}
use Rattle.std.proofs.lemmas.List.Elements.{All-nil, All-push}
use Rattle.csv.specs.Records.{Rising, cut_from, last_end, prev}
use Rattle.csv.proofs.RecordFacts.{field-bounds, field-cut, field-get, last-append, last-take, rising-end, rising-more}
use Rattle.row_text.specs.declared.row_list.TakenRows.{TakenRows}
use Rattle.row_text.specs.SheetRows.{Row}
use Rattle.row_text.specs.Pieces.{pieces}
use Rattle.row_text.specs.Cuts.{CutsIn, fields_cut_at, PutsField, RowsIn}
use Rattle.row_text.specs.Rows.{HasPut, HasSame, HasTaken}
use Rattle.row_text.proofs.Cuts.{each-weaker, put-field, rows-same, take-kept}
use Rattle.row_text.proofs.Pieces.{pieces-append}

-- no field of a row is put yet
pub HasPut-none : (old mid new : TakenRows) → HasSame old mid → new.bytes.items ≡ mid.bytes.items → new.used ≡ mid.used → new.cuts.items ≡ mid.cuts.items ++ mid.used ∷ [] → new.ends.items ≡ mid.ends.items
    → mid.used ≤ length mid.bytes.items → old.used < 2 ^ 32 → HasPut old new (mid.used ∷ []) []
unfolding fields_cut_at CutsIn last_end
HasPut-none old mid new same bytes used cuts ends room small =
    record {
      cuts_after = rw same.cuts at cuts;
      ends_kept = ends ∙ same.ends;
      fields = refl;
      some = omega arith;
      ends_at = record { lie = omega (arith, used); last = sym used; room = rw (bytes, used) room };
      kept = ap (take old.used) bytes ∙ same.bytes;
      grown = omega (arith, used, same.used);
      small = omega (arith, used, same.used);
    }

-- a field of a row stands in its bytes after those of the fields before it
pub record IsField (ends bytes field : List ℕ) (i start : ℕ) : Type 0 where
  pub within : start + length field ≤ length bytes
  pub is : take (length field) (drop start bytes) ≡ field
  pub next : start + length field ≡ last_end 0 (take (i + 1) ends)

pub field-there : (ends bytes field : List ℕ) (i start : ℕ) → Rising 0 ends (length bytes) → i < length ends → field ≡ get_or (cut_from 0 ends bytes) i [] → start ≡ last_end 0 (take i ends) → IsField ends bytes field i start
field-there ends bytes field i start rise there is from =
    let end = get_or ends i 0 in
    let first : start ≡ prev 0 ends i = from ∙ last-take 0 ends i there in
    let bounds = field-bounds 0 ends (length bytes) i rise there in
    let cut : field ≡ take (end - start) (drop start bytes) = is ∙ field-get (cut_from 0 ends bytes) i _ (field-cut 0 ends bytes i there) ∙ rw first refl in
    let long = length-take-le (end - start) (drop start bytes) (omega (arith, length-drop start bytes, first, bounds.0, bounds.1)) in
    let size : length field ≡ end - start = ap length cut ∙ long in
    let last : last_end 0 (take (i + 1) ends) ≡ end = rw (take_more ends i 0 there) (last-append 0 (take i ends) end) in
    record {
      within = omega (arith, size, first, bounds.0, bounds.1);
      is = rw size (sym cut);
      next = omega (arith, size, first, bounds.0, last);
    }

-- one field more of a row was put
pub HasPut-more : (old mid new : TakenRows) (cuts : List ℕ) (row : Row) (field : List ℕ) → HasPut old mid cuts row → PutsField mid.bytes.items new.bytes.items mid.cuts.items new.cuts.items mid.used new.used field
    → new.ends.items ≡ mid.ends.items → HasPut old new (cuts ++ new.used ∷ []) (row ++ field ∷ [])
HasPut-more old mid new cuts row field has put ends =
    let one : PutsField mid.bytes.items new.bytes.items cuts (cuts ++ new.used ∷ []) mid.used new.used field = record { cuts = refl; bytes = put.bytes; past = put.past; room = put.room; small = put.small } in
    let step = put-field mid.bytes.items new.bytes.items cuts (cuts ++ new.used ∷ []) mid.used new.used field has.some has.ends_at one in
    let same : take mid.used new.bytes.items ≡ take mid.used mid.bytes.items = take-kept mid.bytes.items new.bytes.items field mid.used (mid.used + length field) has.ends_at.room (omega arith) put.bytes in
    record {
      cuts_after = put.cuts ∙ rw (has.cuts_after, append_assoc) refl;
      ends_kept = ends ∙ has.ends_kept;
      fields = step.0 ∙ rw has.fields refl;
      some = omega (arith, length-append cuts (new.used ∷ []));
      ends_at = step.1;
      kept = sym (take-take old.used mid.used new.bytes.items has.grown) ∙ ap (take old.used) same ∙ take-take old.used mid.used mid.bytes.items has.grown ∙ has.kept;
      grown = omega (arith, has.grown, put.past);
      small = put.small;
    }

-- one row more was taken
pub HasTaken-more : (old mid new : TakenRows) (rows : List Row) (cuts : List ℕ) (row : Row) → HasPut old mid cuts row → new.bytes.items ≡ mid.bytes.items → new.used ≡ mid.used → new.cuts.items ≡ mid.cuts.items
    → new.ends.items ≡ mid.ends.items ++ length mid.cuts.items ∷ [] → HasTaken old rows → HasTaken new (rows ++ row ∷ [])
HasTaken-more old mid new rows cuts row put bytes used cuts_same ends has =
    let before = pieces 0 old.ends.items old.cuts.items in
    let all : pieces 0 new.ends.items new.cuts.items ≡ before ++ cuts ∷ [] =
    rw (ends, cuts_same, put.ends_kept, put.cuts_after) (pieces-append old.ends.items old.cuts.items cuts has.rise has.all) in
    let kept : map (fields_cut_at mid.bytes.items) before ≡ map (fields_cut_at old.bytes.items) before = rows-same old.bytes.items mid.bytes.items old.used before (each-weaker old.used (old.used + 1) before (omega arith) has.each) put.kept in
    let grown : Rising 0 old.ends.items (length (old.cuts.items ++ cuts)) = rising-more 0 old.ends.items _ _ has.rise (omega (arith, length-append old.cuts.items cuts)) in
    record {
      rows = rw (all, bytes, map_push (fields_cut_at mid.bytes.items) before cuts, kept, has.rows, put.fields) refl;
      rise = rw (ends, cuts_same, put.ends_kept, put.cuts_after) (rising-end 0 old.ends.items _ grown);
      all = rw (ends, cuts_same) (last-append 0 mid.ends.items _);
      each = rw (all, used) (All-push (CutsIn mid.used) before cuts (each-weaker old.used mid.used before put.grown has.each) put.ends_at.lie);
      room = rw (bytes, used) put.ends_at.room;
      small = rw used put.small;
    }

-- no row is taken yet
pub HasTaken-none : (taken : TakenRows) → taken.used ≡ 0 → taken.cuts.items ≡ [] → taken.ends.items ≡ [] → HasTaken taken []
unfolding pieces Rising last_end
HasTaken-none taken used cuts ends =
    record {
      rows = rw ends refl;
      rise = rw ends (omega arith);
      all = rw (ends, cuts) refl;
      each = rw ends (All-nil (CutsIn taken.used));
      room = omega (arith, used);
      small = omega (arith, used);
    }

-- the rows lie within the bytes
pub RowsIn-taken : (taken : TakenRows) (rows : List Row) → HasTaken taken rows → RowsIn taken.bytes.items taken.cuts.items taken.ends.items
RowsIn-taken taken rows has =
    record { rise = has.rise; each = each-weaker taken.used (length taken.bytes.items + 1) (pieces 0 taken.ends.items taken.cuts.items) (omega (arith, has.room)) has.each }

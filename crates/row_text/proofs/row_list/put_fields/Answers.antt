use Rattle.std.proofs.Common.{◌<◌, ◌∷◌, ◌++◌, [], length, ap, ◌∙◌, refl, arith}
use Rattle.std.proofs.lemmas.List.{take_more}
use Rattle.csv.specs.Records.{fields_of, last_end}
use Rattle.csv.proofs.RecordFacts.{cut-length}
use Rattle.row_text.proofs.Taken.{field-there, HasPut-more, HasPut-none}
use Rattle.row_text.proofs.row_list.put_fields.Goals as goal

pub loop-i-init : goal.loop-i-init
unfolding last_end
loop-i-init c =
    let room = c.in_ok-make_row_room.ensures.ok in
    record {
      put = (c.make_row_room.new.taken.used ∷ [], HasPut-none c.args.taken.now c.make_row_room.new.taken _ c.in_ok-make_row_room.ensures.kept refl refl c.push_reserved.ensures.items refl (omega (arith, room.bytes)) c.requires.small);
      start = refl;
      place = omega arith;
      room = refl;
      len = omega arith;
      capacity = refl;
    }

pub put_reserved-taken-requires-clause-within : goal.put_reserved-taken-requires-clause-within
put_reserved-taken-requires-clause-within c =
    let row = c.args.row.now in
    let inv = c.loop-i.invariant in
    let there : c.loop-i.i < length row.ends = omega (arith, c.loop-i-test.true, c.len-i-end.ensures, cut-length 0 row.ends row.bytes) in
    let at = field-there row.ends row.bytes c.field_of-len.result.now c.loop-i.i c.loop-i.start c.requires.record there c.field_of-len.ensures inv.start in
    omega (arith, at.within, ap length c.as_slice-text.ensures)

pub put_reserved-taken-requires-clause-bytes : goal.put_reserved-taken-requires-clause-bytes
put_reserved-taken-requires-clause-bytes c =
    let row = c.args.row.now in
    let inv = c.loop-i.invariant in
    let there : c.loop-i.i < length row.ends = omega (arith, c.loop-i-test.true, c.len-i-end.ensures, cut-length 0 row.ends row.bytes) in
    let at = field-there row.ends row.bytes c.field_of-len.result.now c.loop-i.i c.loop-i.start c.requires.record there c.field_of-len.ensures inv.start in
    omega (arith, at.within, there, inv.place, inv.room, c.in_ok-make_row_room.ensures.ok.bytes)

pub put_reserved-taken-requires-clause-cuts : goal.put_reserved-taken-requires-clause-cuts
put_reserved-taken-requires-clause-cuts c =
    let row = c.args.row.now in
    let inv = c.loop-i.invariant in
    let there : c.loop-i.i < length row.ends = omega (arith, c.loop-i-test.true, c.len-i-end.ensures, cut-length 0 row.ends row.bytes) in
    omega (arith, there, inv.len, inv.capacity, c.push_reserved.ensures.len, c.push_reserved.ensures.capacity, c.in_ok-make_row_room.ensures.ok.cuts)

pub put_reserved-taken-requires-clause-small : goal.put_reserved-taken-requires-clause-small
put_reserved-taken-requires-clause-small c =
    let row = c.args.row.now in
    let inv = c.loop-i.invariant in
    let there : c.loop-i.i < length row.ends = omega (arith, c.loop-i-test.true, c.len-i-end.ensures, cut-length 0 row.ends row.bytes) in
    let at = field-there row.ends row.bytes c.field_of-len.result.now c.loop-i.i c.loop-i.start c.requires.record there c.field_of-len.ensures inv.start in
    omega (arith, at.within, there, inv.place, c.in_ok-make_row_room.ensures.ok.small)

pub loop-i-preserved : goal.loop-i-preserved
loop-i-preserved c =
    let row = c.args.row.now in
    let inv = c.loop-i.invariant in
    let there : c.loop-i.i < length row.ends = omega (arith, c.loop-i-test.true, c.len-i-end.ensures, cut-length 0 row.ends row.bytes) in
    let at = field-there row.ends row.bytes c.field_of-len.result.now c.loop-i.i c.loop-i.start c.requires.record there c.field_of-len.ensures inv.start in
    let put = c.put_reserved-taken.ensures in
    let more : c.loop-i.i < length (fields_of row) = omega (arith, there, cut-length 0 row.ends row.bytes) in
    let one = rw (c.as_slice-text.ensures, at.is) at put.put in
    record {
      put = (
        inv.put.0 ++ c.put_reserved-taken.result ∷ [],
        rw (take_more (fields_of row) c.loop-i.i [] more, ← c.field_of-len.ensures)
            (HasPut-more c.args.taken.now c.loop-i.taken _ inv.put.0 _ c.field_of-len.result.now inv.put.1 one refl),
      );
      start = at.next;
      place = omega (arith, one.past, inv.place);
      room = put.room ∙ inv.room;
      len = omega (arith, put.len, inv.len);
      capacity = put.capacity ∙ inv.capacity;
    }

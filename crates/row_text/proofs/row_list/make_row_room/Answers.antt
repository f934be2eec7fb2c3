use Rattle.std.proofs.Common.{◌≡◌, ◌+◌, length, ap, ◌∙◌, arith}
use Rattle.csv.proofs.RecordFacts.{cut-length}
use Rattle.row_text.proofs.row_list.make_row_room.Goals as goal

pub returns-clause-ok : goal.returns-clause-ok
returns-clause-ok c =
    let row = c.args.row.now in
    let fields : c.len-fields.result ≡ length row.ends = c.len-fields.ensures ∙ cut-length 0 row.ends row.bytes in
    let text : length c.as_slice.result.now ≡ length row.bytes = ap length c.as_slice.ensures in
    let end = c.in-Some.ensures in
    let more : c.saturating_add-more.result ≡ length row.bytes + length row.ends = omega (arith, fields, text, c.saturating_add-more.ensures, end) in
    record {
      cuts = omega (arith, fields, c.in_ok-reserve.ensures.ok);
      bytes = omega (arith, more, c.in_ok-make_room.ensures.ok);
      small = omega (arith, more, end);
    }

use Rattle.std.proofs.Common.{subst, sym}
use Rattle.csv.specs.Records.{fields_of}
use Rattle.row_text.specs.Rows.{HasTaken}
use Rattle.row_text.proofs.Records.{HasRead-more, HasRead-end}
use Rattle.row_text.proofs.row_list.take_rows.Goals as goal

pub take-requires : goal.take-requires
take-requires c =
    let has = c.loop.invariant.3 in
    record { «record» = rw (← c.row.view_is) c.row.invariant; room = has.room; small = has.small }

pub loop-preserved : goal.loop-preserved
loop-preserved c =
    let inv = c.loop.invariant in
    let has = inv.2 in
    let row = fields_of c.read_byte_record.new.row in
    let step = rw c.in-Ok-true.field-0-test at (c.in-Ok-true.ensures.reads has.trim has.ready) in
    let more = HasRead-more c.loop.reader c.read_byte_record.new.self c.args.text.now inv.0 inv.1 row has step (c.in-Ok-true.ensures.ready has.trim) in
    (more.0, _, more.1, c.in_ok-take-in-Ok-true.ensures inv.1 inv.3)

pub returns-in-Ok-false : goal.returns-in-Ok-false
returns-in-Ok-false c =
    let inv = c.loop.invariant in
    let has = inv.2 in
    let step = rw c.in-Ok-false.field-0-test at (c.in-Ok-false.ensures.reads has.trim has.ready) in
    let all = HasRead-end c.loop.reader c.read_byte_record.new.self c.args.text.now inv.0 inv.1 (fields_of c.read_byte_record.new.row) has step in
    subst (HasTaken c.loop.taken) (sym all) inv.3

use Rattle.std.proofs.Common.{sym}
use Rattle.csv.specs.Records.{fields_of}
use Rattle.csv.proofs.RecordFacts.{field-get, field-there}
use Rattle.row_text.proofs.row_list.field_of.Goals as goal

pub unreachable-requires : goal.unreachable-requires
unreachable-requires c = field-there (fields_of c.args.row.now) c.args.i c.requires (sym c.in-None.ensures.value)

pub returns : goal.returns
returns c = sym (field-get (fields_of c.args.row.now) c.args.i _ (sym c.in-Some.ensures.value))

use Rattle.std.proofs.Common.{rules}
use Rattle.std.specs.Prelude.{pos, slice_index_or}
use Rattle.headway_table.specs.Starts.{IsStart}
use Rattle.headway_table.proofs.row.raised.Goals as goal

pub returns : goal.returns
returns c =
    let start : IsStart (slice_index_or c.args.place.now.starts.now c.args.j (pos 0)) =
    c.requires.place.starts c.args.j (pos 0) c.requires.there in
    search (rules, start)

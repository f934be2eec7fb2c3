use Rattle.std.specs.Option.{option_copied}
use Rattle.section_cut.proofs.Rows.{own_found}
use Rattle.section_cut.proofs.connected.row_named.Goals as goal

pub returns : goal.returns
returns c =
    own_found c.args.rows.now c.args.name.now c.place_of.result c.requires c.place_of.ensures (option_copied c.own_row.result) c.own_row.ensures

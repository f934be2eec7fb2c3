use Rattle.std.proofs.Common.{◌∙◌, sym}
use Rattle.line_tables.specs.Inside.{whole_tables}
use Rattle.line_tables.proofs.KeptLine.{kept_table, kept_key, has_kept}
use Rattle.line_tables.proofs.InUse.{route_used}
use Rattle.line_tables.proofs.line_tables.LineTables.is_route_used.Goals as goal

pub unwrap-requires : goal.unwrap-requires
unwrap-requires c =
    c.key_of.ensures.there ∙ sym (has_kept c.self.inside c.args.name.now) ∙ rw (← c.self.view_is) at c.requires

pub returns : goal.returns
returns c =
    rw (← c.self.view_is, c.of.ensures)
    (route_used (whole_tables c.self.inside) c.args.name.now c.unwrap.result c.self.invariant (kept_table c.self.inside c.key_of.ensures.table) (kept_key c.self.inside c.args.name.now ∙ sym c.key_of.ensures.key ∙ c.unwrap.ensures))

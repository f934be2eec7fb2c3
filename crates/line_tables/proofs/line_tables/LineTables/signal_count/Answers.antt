use Rattle.std.proofs.Common.{sym, ◌∙◌, refl}
use Rattle.line_tables.proofs.Found.{found_by_key}
use Rattle.line_tables.proofs.Labels.{kept_name}
use Rattle.line_tables.proofs.KeptLine.{has_kept, signals_counted}
use Rattle.line_tables.proofs.line_tables.LineTables.signal_count.Goals as goal

pub get-requires : goal.get-requires
get-requires c =
    let found = found_by_key kept_name c.self.inside.routes c.args.route.now c.in-Some.key c.in-Some.ensures.table (sym c.in-Some.ensures.key) in
    rw found.1.under refl

pub returns-in-Some-clause-there : goal.returns-in-Some-clause-there
returns-in-Some-clause-there c = rw (← c.self.view_is) (c.in-Some.ensures.there ∙ sym (has_kept c.self.inside c.args.route.now))

pub returns-in-Some-clause-count : goal.returns-in-Some-clause-count
returns-in-Some-clause-count c =
    let e = c.in-Some.ensures in
    rw (← c.self.view_is)
    (c.len.ensures.count ∙ signals_counted c.self.inside c.args.route.now c.in-Some.key c.get.result.now e.table (sym e.key) c.get.ensures.item)

pub returns-in-None-clause-there : goal.returns-in-None-clause-there
returns-in-None-clause-there c = rw (← c.self.view_is) (c.in-None.ensures.there ∙ sym (has_kept c.self.inside c.args.route.now))

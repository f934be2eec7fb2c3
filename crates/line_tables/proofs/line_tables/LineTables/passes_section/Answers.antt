use Rattle.std.proofs.Common.{◌∙◌}
use Rattle.line_tables.specs.Inside.{whole_tables}
use Rattle.line_tables.proofs.Meets.{some_key}
use Rattle.line_tables.proofs.RunPaths.{run_is, route_key}
use Rattle.line_tables.proofs.KeptLine.{kept_table}
use Rattle.line_tables.proofs.Passed.{section_is, section_linked, section_passed}
use Rattle.line_tables.proofs.line_tables.LineTables.passes_section.Goals as goal

pub bounds-slice-0 : goal.bounds-slice-0
bounds-slice-0 c =
    let e = c.nth.result.now in
    rw c.slice.ensures (some_key _ e.refs (route_key (whole_tables c.self.inside) c.self.invariant c.args.run e c.nth.ensures.item))

pub returns : goal.returns
returns c =
    let t = whole_tables c.self.inside in
    let j = c.self.invariant in
    let run = c.nth.result.now in
    let section = c.nth-2.result.now in
    rw (← c.self.view_is, run_is t j c.args.run run c.nth.ensures.item, section_is t j c.args.section section c.nth-2.ensures.item)
    (rw (c.slice.ensures, c.slice-blocks.ensures) at c.has_some.ensures
    ∙ section_passed t j (kept_table c.self.inside c.learn_order.ensures) c.learn_order-2.ensures c.learn_order-3.ensures run section
    (route_key t j c.args.run run c.nth.ensures.item) (section_linked t j c.args.section section c.nth-2.ensures.item))

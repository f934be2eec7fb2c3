use Rattle.std.proofs.Common.{◌<◌, List, length, All, sym, ap, ◌∙◌, subst}
use Rattle.rail_model.specs.declared.path.Hop.{Hop}
use Rattle.rail_model.specs.declared.path.Path.{Path}
use Rattle.rail_model.specs.declared.tables.Tables.{Tables}
use Rattle.line_tables.specs.Paths.{paths_of}
use Rattle.line_tables.specs.Hops.{paths_by_keys}
use Rattle.line_tables.specs.Inside.{whole_tables, tables_of}
use Rattle.line_tables.proofs.KeyedPaths.{are_paths, paths_are, all_numbered}
use Rattle.line_tables.proofs.KeptLine.{kept_table}
use Rattle.line_tables.proofs.KeptPaths.{paths_as_kept, kept_paths}
use Rattle.line_tables.proofs.line_tables.LineTables.paths.Goals as goal

pub invariant_of-result : goal.invariant_of-result
invariant_of-result c =
    kept_paths c.self.inside c.in_ok-hops.hops.items
    (are_paths (whole_tables c.self.inside) c.self.invariant c.learn_order.ensures (kept_table c.self.inside c.learn_order-2.ensures) c.in_ok-hops.hops.items c.in_ok-hops.ensures)

pub returns-clause-same : goal.returns-clause-same
returns-clause-same c =
    sym (paths_as_kept c.self.inside c.in_ok-hops.hops.items)
    ∙ paths_are (whole_tables c.self.inside) c.self.invariant c.learn_order.ensures (kept_table c.self.inside c.learn_order-2.ensures) c.in_ok-hops.hops.items c.in_ok-hops.ensures
    ∙ ap paths_of c.self.view_is

pub returns-clause-numbered : goal.returns-clause-numbered
returns-clause-numbered c =
    let t = whole_tables c.self.inside in
    let hops = c.in_ok-hops.hops.items in
    let AreThere : Tables → List Path → Type 0 = λ tables paths. All (λ (p : Path). All (λ (h : Hop). h.block < length tables.blocks) p.hops) paths in
    subst (λ (tables : Tables). AreThere tables (paths_by_keys t.runs c.self.inside.routes hops)) c.self.view_is
    (subst (AreThere (tables_of t)) (paths_as_kept c.self.inside hops)
    (all_numbered t c.self.invariant c.learn_order.ensures (kept_table c.self.inside c.learn_order-2.ensures) hops c.in_ok-hops.ensures))

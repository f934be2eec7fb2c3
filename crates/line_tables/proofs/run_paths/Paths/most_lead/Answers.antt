use Rattle.std.proofs.Common.{◌+◌, ◌≤◌, All, List, subst}
use Rattle.rail_model.specs.declared.path.Hop.{Hop}
use Rattle.rail_model.specs.declared.path.Path.{Path}
use Rattle.line_tables.proofs.Leads.{lead_of_paths}
use Rattle.line_tables.proofs.run_paths.Paths.most_lead.Goals as goal

pub returns : goal.returns
returns c =
    let t = c.self.inside in
    subst (λ (paths : List Path). All (λ (p : Path). All (λ (h : Hop). h.watch_s + h.form_s ≤ c.lead_of.result) p.hops) paths) c.self.view_is
    (lead_of_paths c.lead_of.result t.runs.now t.routes.now t.hops.items (rw c.deref.ensures.value at c.lead_of.ensures))

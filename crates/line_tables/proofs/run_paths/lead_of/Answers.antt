use Rattle.std.proofs.Common.{◌+◌, ◌≤◌, All, subst, arith}
use Rattle.std.proofs.lemmas.List.{take_all}
use Rattle.rail_model.specs.declared.path.Hop.{Hop}
use Rattle.rail_model.specs.Blocking.{no_hop}
use Rattle.line_tables.proofs.Leads.{greater_of_two, all_more}
use Rattle.line_tables.proofs.run_paths.lead_of.Goals as goal

pub loop-hop-preserved : goal.loop-hop-preserved
loop-hop-preserved c =
    let hops = c.args.hops.now in
    let n = c.loop-hop.hop-index in
    let greater = greater_of_two c.loop-hop.lead (c.from.result + c.from-in-loop-hop.result) c.max-lead.result c.max-lead.ensures in
    all_more (λ (h : Hop). h.watch_s + h.form_s ≤ c.loop-hop.lead) (λ (h : Hop). h.watch_s + h.form_s ≤ c.max-lead.result) hops n no_hop
    (omega (arith, c.loop-hop-test.true)) (λ h most. omega (arith, most, greater.0))
    (omega (arith, greater.1, c.from.ensures, c.from-in-loop-hop.ensures)) c.loop-hop.invariant

pub returns : goal.returns
returns c =
    subst (All (λ (h : Hop). h.watch_s + h.form_s ≤ c.loop-hop.lead))
    (take_all c.loop-hop.hop-index c.args.hops.now (omega (arith, c.loop-hop-test.false))) c.loop-hop.invariant

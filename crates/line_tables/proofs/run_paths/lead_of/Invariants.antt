use Rattle.std.proofs.Common.{◌+◌, ◌≤◌, All, take}
use Rattle.rail_model.specs.declared.path.Hop.{Hop}
use Rattle.line_tables.proofs.run_paths.lead_of.Given as goal

-- a lead for the hops so far
abbrev pub invariant-loop-hop : goal.invariant-loop-hop
invariant-loop-hop l = All (λ (h : Hop). h.watch_s + h.form_s ≤ l.lead) (take l.hop-index l.hops)

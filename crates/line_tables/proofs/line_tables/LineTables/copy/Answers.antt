use Rattle.std.proofs.Common.{◌≡◌, ◌∙◌}
use Rattle.line_tables.specs.Inside.{whole_tables, tables_of, parts}
use Rattle.line_tables.proofs.line_tables.LineTables.copy.Goals as goal

pub from_parts-requires : goal.from_parts-requires
from_parts-requires c =
    rw (c.in_ok-track.ensures, c.in_ok-trains.ensures, c.in_ok-counts.ensures, c.in_ok-sets.ensures) c.self.invariant

pub returns : goal.returns
returns c =
    let t = c.self.inside in
    let track : c.in_ok-track.track ≡ (t.blocks, t.signals, t.routes) = c.in_ok-track.ensures in
    let trains : c.in_ok-trains.trains ≡ (t.runs, t.sections, t.connections) = c.in_ok-trains.ensures in
    let counts : c.in_ok-counts.counts ≡ (t.block_uses, t.signal_uses, t.route_uses, t.run_uses) = c.in_ok-counts.ensures in
    let sets : c.in_ok-sets.sets ≡ t.route_sets = c.in_ok-sets.ensures in
    let same : tables_of (whole_tables (parts t.alloc c.in_ok-track.track c.in_ok-trains.trains c.in_ok-counts.counts c.in_ok-sets.sets)) ≡ tables_of (whole_tables t) = λ j. tables_of (whole_tables (parts t.alloc (track j) (trains j) (counts j) (sets j))) in
    c.from_parts.ensures ∙ same ∙ c.self.view_is

-- A member's row is sound.
use Rattle.std.proofs.Common.{◌≡◌, ◌≢◌, ℕ, ◌+◌, ◌<◌, ◌≤◌, true, false, not, ltb, ◌++◌, map, length, get_or, All, AllPairs, sym, ap, ◌∙◌, arith}
use Rattle.std.specs.Prelude.{ℤ, pos, ◌<ℤ◌, filter, IfSome}
use Rattle.std.proofs.lemmas.Int.{ints}
use Rattle.std.proofs.lemmas.Bool.{ltb-true, le-ltb, not_from_true, not_from_false}
use Rattle.std.proofs.lemmas.List.{append-nil, length-append, length-map}
use Rattle.std.proofs.lemmas.List.Elements.{All-append, All-filter, filter-append}
use Rattle.rail_model.specs.declared.items.Section.{Section}
use Rattle.rail_model.specs.declared.items.Connection.{Connection}
use Rattle.rail_model.specs.declared.tables.Tables.{Tables}
use Rattle.rail_model.specs.declared.stair.Use.{Use}
use Rattle.rail_model.specs.declared.limits.TheConstants.{GREATEST_START_S, GREATEST_TIME_S}
use Rattle.rail_model.specs.Tables.{run_at, last_arrival}
use Rattle.rail_model.specs.Rules.{IsSound}
use Rattle.rail_model.proofs.Facts.{run_facts}
use Rattle.rail_model.proofs.Paths.{run_stands}
use Rattle.rail_model.proofs.Places.{filter_all, filter_none}
use Rattle.plan_model.specs.Members.{place_count}
use Rattle.plan_model.specs.Cut.{least, block_uses, connection_uses, IsMoment, IsSoundUse, IsSoundRow, section_uses, entry_of, is_member, binds, binding_connections, connection_use, uses_of_connections, row_of, section_cut}
use Rattle.rail_model.proofs.Lists.{AllPairs-append}
use Rattle.section_cut.proofs.Arrivals.{last_arrival_most}
use Rattle.section_cut.proofs.Known.{IsKnown, connection_known}
use Rattle.section_cut.proofs.BlockUses.{IsEntry, in_window, timely_uses, entry_is, uses_inside, uses_most, uses_apart}
use Rattle.section_cut.proofs.ConnectionUses.{IsAmong, at_connection, numbered_among, numbered_apart}

-- a use takes some time, and its moments are within the limit
pub record IsTimed (u : Use) : Type 0 where
  pub some_time : u.start <ℤ u.«end»
  pub starts : IsMoment u.start
  pub ends : IsMoment u.«end»

-- until the minimum after the last arrival
kept : (place last minimum : ℕ) (entry : ℤ) → last ≤ 44841600 → minimum ≤ GREATEST_TIME_S → IsEntry last entry
    → IsTimed (record { block = place; start = entry; «end» = pos (last + minimum) })
kept place last minimum entry late some is =
    let early = is.early in
    record {
      some_time = omega (arith, ints, early);
      starts = is.moment;
      ends = record { after = omega (arith, ints); before = omega (arith, ints, late, some) };
    }

-- the second at the start
started : (place start : ℕ) → start ≤ GREATEST_START_S → IsTimed (record { block = place; start = pos start; «end» = pos (start + 1) })
started place start most = record {
  some_time = omega (arith, ints);
  starts = record { after = omega (arith, ints); before = omega (arith, ints, most) };
  ends = record { after = omega (arith, ints); before = omega (arith, ints, most) };
}

module _ (tables : Tables) (sound : IsSound tables) (section : Section) where
  pub binding_known : All (IsKnown tables) (binding_connections tables section)
  binding_known = All-filter (binds tables section) (IsKnown tables) tables.connections (connection_known tables sound)

  module _ (n : ℕ) (l : n < length tables.runs) (member : is_member tables section (run_at tables n) ≡ true) where
    each_timed : All (λ (c : Connection). (place : ℕ)
        → IfSome (connection_use tables section (run_at tables n) (place, c)) (λ (u : Use). (u.block ≡ place) × IsTimed u))
        (binding_connections tables section)
    each_timed k d below =
        let run = run_at tables n in
        let c = get_or (binding_connections tables section) k d in
        at_connection tables section run IsTimed c
        (λ place. kept place (last_arrival tables run) c.minimum_s (entry_of tables section run) (last_arrival_most tables sound n l)
        (binding_known k d below).minimum (entry_is tables sound section n l member))
        (λ place. started place run.start_s (run_facts run (run_stands tables sound n l).within).start)

    pub connections_timed : All (IsAmong IsTimed (length section.blocks) (length (binding_connections tables section)))
        (uses_of_connections tables section (run_at tables n))
    connections_timed =
        numbered_among tables section (run_at tables n) IsTimed (length section.blocks) (binding_connections tables section) each_timed

    connections_apart : AllPairs (λ (u : Use) (v : Use). u.block ≢ v.block) (uses_of_connections tables section (run_at tables n))
    connections_apart =
        numbered_apart tables section (run_at tables n) IsTimed (length section.blocks) (binding_connections tables section) each_timed

    connections_beyond : All (λ (u : Use). ltb u.block (length section.blocks) ≡ false) (uses_of_connections tables section (run_at tables n))
    connections_beyond k d below =
        let u = get_or (uses_of_connections tables section (run_at tables n)) k d in
        le-ltb u.block (length section.blocks) (connections_timed k d below).0

    pub blocks_are : block_uses (section_cut tables section) (row_of tables section (run_at tables n)) ≡ section_uses tables section (run_at tables n)
    blocks_are =
        let run = run_at tables n in
        let test = λ (u : Use). ltb u.block (length section.blocks) in
        let blocks = section_uses tables section run in
        let others = uses_of_connections tables section run in
        filter-append test blocks others
        ∙ ap (λ us. us ++ filter test others) (filter_all test blocks (uses_inside tables sound section n l))
        ∙ ap (λ us. blocks ++ us) (filter_none test others connections_beyond) ∙ append-nil blocks

    pub others_are : connection_uses (section_cut tables section) (row_of tables section (run_at tables n)) ≡ uses_of_connections tables section (run_at tables n)
    others_are =
        let run = run_at tables n in
        let test = λ (u : Use). not (ltb u.block (length section.blocks)) in
        let blocks = section_uses tables section run in
        let others = uses_of_connections tables section run in
        filter-append test blocks others
        ∙ ap (λ us. us ++ filter test others)
        (filter_none test blocks (λ k d below. not_from_true (ltb (get_or blocks k d).block (length section.blocks)) (uses_inside tables sound section n l k d below)))
        ∙ filter_all test others (λ k d below. not_from_false (ltb (get_or others k d).block (length section.blocks)) (connections_beyond k d below))

    pub sound_row : IsSoundRow (section_cut tables section) (row_of tables section (run_at tables n))
    sound_row =
        let run = run_at tables n in
        let cut = section_cut tables section in
        let blocks = section_uses tables section run in
        let others = uses_of_connections tables section run in
        let window = in_window tables section n member in
        let count : place_count cut ≡ length section.blocks + length (binding_connections tables section) =
        length-append section.blocks cut.connections
        ∙ ap (λ k. length section.blocks + k) (length-map (binding_connections tables section) (λ (c : Connection). c.name)) in
        record {
          some_block = omega (arith, window.some, ap length blocks_are);
          most_blocks = omega (arith, uses_most tables sound section n l, ap length blocks_are);
          blocks_first = sym (ap (λ us. us ++ connection_uses cut (row_of tables section run)) blocks_are ∙ ap (λ us. blocks ++ us) others_are);
          places_differ = AllPairs-append (λ (u : Use) (v : Use). u.block ≢ v.block) blocks others (uses_apart tables sound section n l) connections_apart
              (λ k d below i e inside same.
              let block = ltb-true (get_or blocks k d).block (length section.blocks) (uses_inside tables sound section n l k d below) in
              let other = (connections_timed i e inside).0 in
              absurd (omega (arith, block, other, same)));
          each = All-append (IsSoundUse cut) blocks others
              (λ k d below.
              let u = timely_uses tables sound section n l k d below in
              let block = ltb-true (get_or blocks k d).block (length section.blocks) (uses_inside tables sound section n l k d below) in
              record { place = omega (arith, block, count); some_time = u.some_time; starts = u.starts; ends = u.ends })
              (λ k d below.
              let u = connections_timed k d below in
              record { place = omega (arith, u.1, count); some_time = u.2.some_time; starts = u.2.starts; ends = u.2.ends });
          entry = sym (ap (λ us. least (map (λ (u : Use). u.start) us)) blocks_are);
          from_window = window.from;
          to_window = window.to;
        }

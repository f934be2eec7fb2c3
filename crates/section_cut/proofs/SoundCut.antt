-- A cut by sound tables is sound, with any stamp.
use Rattle.std.proofs.Common.{ℕ, ◌≤◌, ◌∙◌, arith}
use Rattle.std.specs.Prelude.{pos, ◌≤ℤ◌}
use Rattle.std.proofs.lemmas.Int.{ints}
use Rattle.std.proofs.lemmas.List.{length-map}
use Rattle.std.proofs.lemmas.List.Elements.{All-map}
use Rattle.std.proofs.lemmas.List.Folds.{fold-map}
use Rattle.rail_model.specs.declared.items.Run.{Run}
use Rattle.rail_model.specs.declared.items.Section.{Section}
use Rattle.rail_model.specs.declared.items.Connection.{Connection}
use Rattle.rail_model.specs.declared.items.Item.TheVariants as item
use Rattle.rail_model.specs.declared.tables.Tables.{Tables}
use Rattle.rail_model.specs.declared.limits.TheConstants.{GREATEST_MOMENT_S, GREATEST_START_S}
use Rattle.rail_model.specs.Name.{IsBefore}
use Rattle.rail_model.specs.Rules.{Stands, IsSound}
use Rattle.plan_model.specs.declared.cut.CutRow.{CutRow}
use Rattle.plan_model.specs.declared.cut.Cut.{Cut}
use Rattle.plan_model.specs.Cut.{stamped_row, stamped, IsSoundRow, IsSoundCut, is_member, binds, binding_connections, row_of, section_cut}
use Rattle.section_cut.specs.Members.{members_of}
use Rattle.rail_model.proofs.Lists.{AllPairs-map}
use Rattle.section_cut.proofs.Lists.{few_pass}
use Rattle.section_cut.proofs.Names.{members_rise}
use Rattle.section_cut.proofs.Sections.{section_facts}
use Rattle.section_cut.proofs.SoundRow.{sound_row}
use Rattle.section_cut.proofs.TwoRows.{each_member, two_rows}
use Rattle.section_cut.proofs.PlacesDiffer.{places_differ}

pub sound_cut : (tables : Tables) (section : Section) → IsSound tables → Stands tables (item.Section section)
    → IsSoundCut (section_cut tables section)
sound_cut tables section sound stands =
    let within = section_facts section stands.within in
    let members = members_of tables section in
    let some = binding_connections tables section in
    let row = row_of tables section in
    record {
      window = within.window;
      window_start = start section.from_s within.start;
      some_block = within.some;
      most_blocks = within.most;
      most_connections = omega (arith, length-map some (λ (c : Connection). c.name), few_pass (binds tables section) tables.connections, sound.connections.most);
      most_rows = omega (arith, length-map members row, few_pass (is_member tables section) tables.runs, sound.runs.most);
      places_differ = places_differ tables sound section stands;
      names_rise = AllPairs-map row (λ (r : CutRow) (s : CutRow). IsBefore r.name s.name) members (members_rise tables sound section);
      each = All-map (IsSoundRow (section_cut tables section)) row members
          (each_member tables sound section (λ (run : Run). IsSoundRow (section_cut tables section) (row run)) (sound_row tables sound section));
      two_rows = two_rows tables sound section;
    }
  where
    start : (t : ℕ) → t ≤ GREATEST_START_S → pos t ≤ℤ GREATEST_MOMENT_S
    start t most = omega (arith, ints, most)

-- stamps don't matter
pub sound_stamped : (stamp : ℕ) (cut : Cut) → IsSoundCut cut → IsSoundCut (stamped stamp cut)
sound_stamped stamp cut sound =
    let marked = stamped_row stamp in
    record {
      window = sound.window;
      window_start = sound.window_start;
      some_block = sound.some_block;
      most_blocks = sound.most_blocks;
      most_connections = sound.most_connections;
      most_rows = omega (arith, length-map cut.rows marked, sound.most_rows);
      places_differ = sound.places_differ;
      names_rise = AllPairs-map marked (λ (r : CutRow) (s : CutRow). IsBefore r.name s.name) cut.rows sound.names_rise;
      each = All-map (IsSoundRow (stamped stamp cut)) marked cut.rows
          (λ k d below.
          let row = sound.each k d below in
          record {
            some_block = row.some_block;
            most_blocks = row.most_blocks;
            blocks_first = row.blocks_first;
            places_differ = row.places_differ;
            each = λ i e inside.
                let u = row.each i e inside in
                record { place = u.place; some_time = u.some_time; starts = u.starts; ends = u.ends };
            entry = row.entry;
            from_window = row.from_window;
            to_window = row.to_window;
          });
      two_rows = λ c from below. fold-map _ marked 0 cut.rows ∙ sound.two_rows c from below;
    }

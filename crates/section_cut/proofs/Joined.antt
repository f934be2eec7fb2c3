-- The cut of a section, put together from its parts, and found by its section's name.
use Rattle.std.proofs.Common.{◌≡◌, ℕ, ◌<◌, false, List, ◌++◌, map, length, get_or, Some, None, sym, ap, ◌∙◌, arith}
use Rattle.std.specs.Prelude.{option_map, slice_get}
use Rattle.std.specs.List.{filter_map, enumerate_from}
use Rattle.std.proofs.lemmas.Simd.{map-map}
use Rattle.std.proofs.lemmas.Option.{slice_get-get_or, slice_get_past}
use Rattle.std.proofs.lemmas.List.Folds.{find_at}
use Rattle.rail_model.specs.declared.items.Run.{Run}
use Rattle.rail_model.specs.declared.items.Section.{Section}
use Rattle.rail_model.specs.declared.items.Connection.{Connection}
use Rattle.rail_model.specs.declared.tables.Tables.{Tables}
use Rattle.rail_model.specs.Name.{is_same}
use Rattle.rail_model.specs.Tables.{number_of, run_named, no_section, section_at}
use Rattle.rail_model.specs.Rules.{has_section, IsSound}
use Rattle.rail_model.proofs.Places.{number_of-missing}
use Rattle.plan_model.specs.declared.cut.CutRow.{CutRow}
use Rattle.plan_model.specs.declared.cut.Cut.{Cut}
use Rattle.plan_model.specs.Cut.{stamped_row, stamped, section_uses, entry_of, connection_use, binding_connections, row_of, section_cut, cut_of}
use Rattle.section_cut.specs.Members.{members_of, row_on_blocks}
use Rattle.section_cut.specs.Bound.{with_connections}
use Rattle.rail_model.proofs.Lists.{map_same}
use Rattle.section_cut.proofs.Names.{member_of_name}

abbrev cut_from : Section → List (List ℕ) → List CutRow → Cut
cut_from section connections rows = record { section = section; connections = connections; rows = rows }

module _ (tables : Tables) where
  pub names_on_blocks : (section : Section) (stamp : ℕ) (rows : List CutRow) → rows ≡ map (row_on_blocks tables section stamp) (members_of tables section)
      → map (λ (r : CutRow). r.name) rows ≡ map (λ (r : Run). r.name) (members_of tables section)
  names_on_blocks section stamp rows are =
      ap (map (λ (r : CutRow). r.name)) are ∙ map-map (λ (r : CutRow). r.name) (row_on_blocks tables section stamp) (members_of tables section)

  module _ (sound : IsSound tables) (section : Section) (stamp : ℕ) where
    -- a member's row with the uses of connections by the run of its name
    abbrev row_by : Run → Run → CutRow
    row_by run named = record {
      name = run.name;
      stamp = stamp;
      entry = entry_of tables section run;
      uses = section_uses tables section run
          ++ filter_map (connection_use tables section named) (enumerate_from (length section.blocks) (binding_connections tables section));
    }

    rows_are : map (with_connections tables section (binding_connections tables section)) (map (row_on_blocks tables section stamp) (members_of tables section))
        ≡ map (stamped_row stamp) (map (row_of tables section) (members_of tables section))
    rows_are =
        let members = members_of tables section in
        map-map (with_connections tables section (binding_connections tables section)) (row_on_blocks tables section stamp) members
        ∙ map_same (λ (run : Run). row_by run (run_named tables run.name)) (λ (run : Run). row_by run run) members
        (λ k d l. ap (row_by (get_or members k d)) (member_of_name tables sound section k d l))
        ∙ sym (map-map (stamped_row stamp) (row_of tables section) members)

    pub cut_is : (own : Section) (connections : List (List ℕ)) (first rows : List CutRow) → own ≡ section
        → connections ≡ map (λ (c : Connection). c.name) (binding_connections tables section)
        → first ≡ map (row_on_blocks tables section stamp) (members_of tables section)
        → rows ≡ map (with_connections tables section (binding_connections tables section)) first
        → cut_from own connections rows ≡ stamped stamp (section_cut tables section)
    cut_is own connections first rows is_own are_connections are_first are_rows =
        ap (λ s. cut_from s connections rows) is_own
        ∙ ap (λ cs. cut_from section cs rows) are_connections
        ∙ ap (λ rs. cut_from section (map (λ (c : Connection). c.name) (binding_connections tables section)) rs)
        (are_rows ∙ ap (map (with_connections tables section (binding_connections tables section))) are_first ∙ rows_are)

  -- the section of a name that is there, and of one that isn't
  pub cut_found : (name : List ℕ) (n : ℕ) → n ≡ number_of (λ (s : Section). s.name) tables.sections name
      → n < length tables.sections → cut_of tables name ≡ Some (section_cut tables (section_at tables n))
  cut_found name n number l =
      let test = λ (s : Section). is_same s.name name in
      ap (option_map (section_cut tables))
      (find_at test tables.sections ∙ ap (slice_get tables.sections) (sym number) ∙ slice_get-get_or tables.sections n no_section l)

  pub cut_missing : (name : List ℕ) → has_section tables name ≡ false → cut_of tables name ≡ None
  cut_missing name missing =
      let test = λ (s : Section). is_same s.name name in
      let past = number_of-missing (λ (s : Section). s.name) tables.sections name missing in
      ap (option_map (section_cut tables))
      (find_at test tables.sections ∙ slice_get_past tables.sections (number_of (λ (s : Section). s.name) tables.sections name) (omega (arith, past)))

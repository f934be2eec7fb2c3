-- A connection of a cut is used by the rows of its two runs.
use Rattle.std.proofs.Common.{◌≡◌, ℕ, ◌+◌, ◌-◌, ◌<◌, ◌≤◌, true, false, ◌&&◌, ◌||◌, ◌==◌, List, [], length, take, get_or, All, sym, ap, ◌∙◌, subst, arith}
use Rattle.std.specs.Prelude.{filter, count_by}
use Rattle.std.specs.List.{list_any}
use Rattle.std.proofs.lemmas.Bool.{and_parts, ne_eqb, ltb-true}
use Rattle.std.proofs.lemmas.List.{length-append, length-map, get_or_default}
use Rattle.std.proofs.lemmas.List.Elements.{All-filter, filter_passes}
use Rattle.std.proofs.lemmas.List.Folds.{fold-map, list_any-append, list_any_none, list_any_at}
use Rattle.rail_model.specs.declared.items.Run.{Run}
use Rattle.rail_model.specs.declared.items.Section.{Section}
use Rattle.rail_model.specs.declared.items.Connection.{Connection}
use Rattle.rail_model.specs.declared.tables.Tables.{Tables}
use Rattle.rail_model.specs.declared.stair.Use.{Use}
use Rattle.rail_model.specs.Name.{is_same}
use Rattle.rail_model.specs.Tables.{no_run, number_of, run_at, run_named}
use Rattle.rail_model.specs.Rules.{has_run, IsSound}
use Rattle.rail_model.proofs.NameOrder.{is_same-from}
use Rattle.plan_model.specs.declared.cut.CutRow.{CutRow}
use Rattle.plan_model.specs.Members.{block_count, place_count, uses_place}
use Rattle.plan_model.specs.Cut.{section_uses, is_member, binds, binding_connections, uses_of_connections, row_of, section_cut}
use Rattle.section_cut.specs.Members.{members_of}
use Rattle.section_cut.proofs.Lists.{passing_at}
use Rattle.section_cut.proofs.Counts.{count_agree, count_two}
use Rattle.section_cut.proofs.Names.{members_rise}
use Rattle.section_cut.proofs.Known.{run_there, run_named_name}
use Rattle.section_cut.proofs.BlockUses.{uses_inside}
use Rattle.section_cut.proofs.ConnectionUses.{used_by}
use Rattle.section_cut.proofs.SoundRow.{binding_known}

-- stands where there is no connection
no_connection : Connection
no_connection = record { name = []; first = []; second = []; minimum_s = 0 }

module _ (tables : Tables) (sound : IsSound tables) (section : Section) where
  -- what holds of each run by its number holds of each member
  pub each_member : (P : Run → Type 0) → ((n : ℕ) → n < length tables.runs → is_member tables section (run_at tables n) ≡ true → P (run_at tables n))
      → All P (members_of tables section)
  each_member P each k d below =
      let test = is_member tables section in
      let Q : Run → Type 0 = λ run. test run ≡ true → P run in
      let all : All Q tables.runs = λ n e l.
      subst Q (get_or_default tables.runs n no_run e l) (each n l) in
      All-filter test Q tables.runs all k d below (filter_passes test tables.runs k d below)

  -- a connection's place is used by the members that it names
  place_used : (place k : ℕ) → place ≡ length section.blocks + k → k < length (binding_connections tables section)
      → All (λ (run : Run). uses_place (row_of tables section run) place
      ≡ (is_same (get_or (binding_connections tables section) k no_connection).first run.name
      || is_same (get_or (binding_connections tables section) k no_connection).second run.name)) (members_of tables section)
  place_used place k at l =
      let some = binding_connections tables section in
      let test = λ (u : Use). u.block == place in
      each_member (λ (run : Run). uses_place (row_of tables section run) place
      ≡ (is_same (get_or some k no_connection).first run.name || is_same (get_or some k no_connection).second run.name))
      (λ n there member.
      let run = run_at tables n in
      let blocks = section_uses tables section run in
      let none : list_any test blocks ≡ false =
      list_any_none test blocks
      (λ i d below. ne_eqb (get_or blocks i d).block place
      (λ e. absurd (omega (arith, e, at, ltb-true (get_or blocks i d).block (length section.blocks) (uses_inside tables sound section n there i d below))))) in
      let others = used_by tables section run (length section.blocks) place k some no_connection at l in
      let whole : uses_place (row_of tables section run) place ≡ list_any test (uses_of_connections tables section run) =
      list_any-append test blocks (uses_of_connections tables section run)
      ∙ ap (λ b. b || list_any test (uses_of_connections tables section run)) none in
      whole ∙ others)

  -- a run of a connection that binds is a member of its name
  member_there : (name : List ℕ) → has_run tables name ≡ true → is_member tables section (run_named tables name) ≡ true
      → list_any (λ (r : Run). is_same name r.name) (members_of tables section) ≡ true
  member_there name there member =
      let n = number_of (λ (r : Run). r.name) tables.runs name in
      let at = passing_at (is_member tables section) tables.runs n no_run (run_there tables sound name there) member in
      let named = ap (λ (r : Run). r.name) at.1 ∙ run_named_name tables sound name there in
      list_any_at (λ (r : Run). is_same name r.name) (members_of tables section)
      (length (filter (is_member tables section) (take n tables.runs))) no_run at.0
      (is_same-from name _ (sym named))

  pub two_rows : (place : ℕ) → block_count (section_cut tables section) ≤ place → place < place_count (section_cut tables section)
      → count_by (λ (r : CutRow). uses_place r place) (section_cut tables section).rows ≡ 2
  two_rows place from below =
      let some = binding_connections tables section in
      let members = members_of tables section in
      let k = place - length section.blocks in
      let at : place ≡ length section.blocks + k = omega (arith, from) in
      let l : k < length some =
      omega (arith, from, below, length-append section.blocks (section_cut tables section).connections, length-map some (λ (c : Connection). c.name)) in
      let c = get_or some k no_connection in
      let known = binding_known tables sound section k no_connection l in
      let bound : binds tables section c ≡ true = filter_passes (binds tables section) tables.connections k no_connection l in
      let both = (and_parts (is_member tables section (run_named tables c.first) && is_member tables section (run_named tables c.second)) _ bound).0 in
      let each = and_parts (is_member tables section (run_named tables c.first)) (is_member tables section (run_named tables c.second)) both in
      let uses = λ (run : Run). uses_place (row_of tables section run) place in
      let named = λ (run : Run). is_same c.first run.name || is_same c.second run.name in
      let rows : count_by (λ (r : CutRow). uses_place r place) (section_cut tables section).rows ≡ count_by uses members =
      fold-map _ (row_of tables section) 0 members in
      let agreed : count_by uses members ≡ count_by named members = count_agree uses named members (place_used place k at l) in
      let two : count_by named members ≡ 2 =
      count_two (λ (r : Run). r.name) c.first c.second members (members_rise tables sound section) known.two
      (member_there c.first known.first each.0) (member_there c.second known.second each.1) in
      omega (arith, rows, agreed, two)

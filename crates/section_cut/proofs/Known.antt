-- A connection of sound tables, and the run of a name that is there.
use Rattle.std.proofs.Common.{◌≡◌, ℕ, ◌<◌, ◌≤◌, true, false, List, [], length, get_or, take, Some, sym, ap, ◌∙◌, subst, arith}
use Rattle.std.specs.Prelude.{map, filter, slice_get}
use Rattle.std.proofs.lemmas.Bool.{and_parts, not-true, leb-true}
use Rattle.std.proofs.lemmas.List.{append-nil, length-map, length-take, get_or_default}
use Rattle.std.proofs.lemmas.List.Folds.{map_fixed, Any-from_list_any}
use Rattle.std.proofs.lemmas.List.Sums.{passes_at_first}
use Rattle.std.proofs.lemmas.Option.{get_or_from_slice_get}
use Rattle.rail_model.specs.declared.items.Run.{Run}
use Rattle.rail_model.specs.declared.items.Section.{Section}
use Rattle.rail_model.specs.declared.items.Connection.{Connection}
use Rattle.rail_model.specs.declared.tables.Tables.{Tables}
use Rattle.rail_model.specs.declared.limits.TheConstants.{CONNECTIONS, GREATEST_START_S, GREATEST_TIME_S}
use Rattle.rail_model.specs.Name.{is_same}
use Rattle.rail_model.specs.Tables.{no_run, run_at, number_of, run_named}
use Rattle.rail_model.specs.Rules.{has_run, IsSound}
use Rattle.rail_model.proofs.Facts.{run_facts}
use Rattle.rail_model.proofs.NameOrder.{same_name}
use Rattle.rail_model.proofs.Paths.{run_stands}
use Rattle.rail_model.proofs.Places.{number_of-found}
use Rattle.plan_model.specs.declared.cut.CutRow.{CutRow}
use Rattle.plan_model.specs.Cut.{binds}
use Rattle.section_cut.specs.Bound.{with_connections}
use Rattle.section_cut.proofs.Lists.{few_pass}

-- both runs of a connection are there and differ, and its minimum is within the limit
pub record IsKnown (tables : Tables) (c : Connection) : Type 0 where
  pub first : has_run tables c.first ≡ true
  pub second : has_run tables c.second ≡ true
  pub two : is_same c.first c.second ≡ false
  pub minimum : c.minimum_s ≤ GREATEST_TIME_S

module _ (tables : Tables) (sound : IsSound tables) where
  pub connection_known : (n : ℕ) (d : Connection) → n < length tables.connections → IsKnown tables (get_or tables.connections n d)
  connection_known n d l =
      let c = get_or tables.connections n d in
      let stands = sound.connections.each n d l in
      let runs = and_parts (has_run tables c.first) (has_run tables c.second) stands.known in
      record {
        first = runs.0;
        second = runs.1;
        two = not-true (is_same c.first c.second) stands.no_repeat;
        minimum = leb-true c.minimum_s GREATEST_TIME_S stands.within;
      }

  pub connection_read : (n : ℕ) (c : Connection) → n < length tables.connections → slice_get tables.connections n ≡ Some c
      → IsKnown tables c
  connection_read n c l read =
      subst (IsKnown tables) (get_or_from_slice_get tables.connections n c c read) (connection_known n c l)

  -- the number of a run that is there
  pub run_there : (name : List ℕ) → has_run tables name ≡ true → number_of (λ (r : Run). r.name) tables.runs name < length tables.runs
  run_there name there =
      let at = Any-from_list_any (λ (r : Run). is_same r.name name) tables.runs there in
      let here : (d : Run) → (get_or tables.runs at.0 d).name ≡ name =
      λ d. same_name (get_or tables.runs at.0 d).name name
      (subst (λ (r : Run). is_same r.name name ≡ true) (sym at.3 ∙ get_or_default tables.runs at.0 at.1 d at.2) at.4) in
      omega (arith, at.2, number_of-found (λ (r : Run). r.name) tables.runs name at.0 sound.runs.names at.2 here)

  -- it has that name
  pub run_named_name : (name : List ℕ) → has_run tables name ≡ true → (run_named tables name).name ≡ name
  run_named_name name there =
      same_name (run_named tables name).name name
      (passes_at_first (λ (r : Run). is_same r.name name) tables.runs no_run (run_there name there))

  pub run_start_most : (name : List ℕ) → has_run tables name ≡ true → (run_named tables name).start_s ≤ GREATEST_START_S
  run_start_most name there =
      let n = number_of (λ (r : Run). r.name) tables.runs name in
      (run_facts (run_at tables n) (run_stands tables sound n (run_there name there)).within).start

  -- there are no more connections that bind than there are connections
  pub few_bind : (section : Section) (n : ℕ) (names : List (List ℕ)) → n < length tables.connections
      → names ≡ map (λ (c : Connection). c.name) (filter (binds tables section) (take n tables.connections)) → length names ≤ CONNECTIONS
  few_bind section n names l is =
      let some = take n tables.connections in
      omega (arith, ap length is, length-map (filter (binds tables section) some) (λ (c : Connection). c.name), few_pass (binds tables section) some, length-take n tables.connections, sound.connections.most)

-- without connections rows stay
pub none_added : (tables : Tables) (section : Section) (rows : List CutRow) → map (with_connections tables section []) rows ≡ rows
none_added tables section rows =
    map_fixed (with_connections tables section []) rows
    (λ k d l. ap (λ us. record (get_or rows k d) { uses = us }) (append-nil (get_or rows k d).uses))

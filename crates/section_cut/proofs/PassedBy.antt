-- A run that passes no block of a section has no uses there.
use Rattle.std.proofs.Common.{◌≡◌, ℕ, ◌-◌, ◌<◌, false, true, ltb, List, [], map, length, get_or, Option, Some, None, refl, sym, ap, ◌∙◌, arith}
use Rattle.std.specs.Prelude.{IfSome, find, option_map, slice_get}
use Rattle.std.specs.List.{list_any}
use Rattle.std.proofs.lemmas.Bool.{le-ltb, both_ways}
use Rattle.std.proofs.lemmas.List.Elements.{All-map}
use Rattle.std.proofs.lemmas.List.Folds.{list_any_none, find_at}
use Rattle.std.proofs.lemmas.List.Sums.{passes_at_first, AllPass-from_list_all}
use Rattle.std.proofs.lemmas.Option.{get_or_from_slice_get}
use Rattle.rail_model.specs.declared.items.Block.{Block}
use Rattle.rail_model.specs.declared.items.Run.{Run}
use Rattle.rail_model.specs.declared.items.Section.{Section}
use Rattle.rail_model.specs.declared.items.Item.TheVariants as item
use Rattle.rail_model.specs.declared.path.Hop.{Hop}
use Rattle.rail_model.specs.declared.stair.Use.{Use}
use Rattle.rail_model.specs.declared.stair.Stair.{Stair}
use Rattle.rail_model.specs.declared.tables.Tables.{Tables}
use Rattle.rail_model.specs.Name.{is_same}
use Rattle.rail_model.specs.Blocking.{hop, hop_count, no_hop, use_of, stairway, stair_of}
use Rattle.rail_model.specs.Tables.{no_block, no_section, number_of, section_at, block_number, block_name, signal_named, route_named, path_in}
use Rattle.rail_model.specs.Rules.{has_block, has_signal, has_section, Stands, IsSound}
use Rattle.rail_model.proofs.Lists.{All-from_one}
use Rattle.rail_model.proofs.Members.{none_passes}
use Rattle.rail_model.proofs.NameOrder.{same_name, is_same-sym}
use Rattle.rail_model.proofs.Paths.{hop_in_at, length-hops_in, place_within, signal_stands, route_stands}
use Rattle.rail_model.proofs.Places.{filter_none, number_of-missing}
use Rattle.plan_model.specs.Cut.{position_in_section, use_in_section, section_uses}
use Rattle.line_tables.specs.Passing.{passes_block, passes_section}
use Rattle.line_tables.proofs.Found.{find_some}
use Rattle.section_cut.specs.OneRun.{row_of_stair, PassesBy}

-- the block of a name that is there has this name
pub named : (tables : Tables) (n : List ℕ) → has_block tables n ≡ true → block_name tables (block_number tables n) ≡ n
named tables n there =
    same_name (block_name tables (block_number tables n)) n
    (passes_at_first (λ (x : Block). is_same x.name n) tables.blocks no_block (place_within (λ (x : Block). is_same x.name n) tables.blocks there))

module _ (tables : Tables) (sound : IsSound tables) (section : Section) (run : Run) (stands : Stands tables (item.Run run)) (apart : passes_section tables section run ≡ false) where
  abbrev names : List (List ℕ)
  names = (route_named tables run.route).signals

  -- the block of each signal of the route is none of the section's
  outside : (k : ℕ) → k < length names → position_in_section tables section (block_number tables (signal_named tables (get_or names k [])).block) ≡ length section.blocks
  outside k l =
      let block = (signal_named tables (get_or names k [])).block in
      let known = AllPass-from_list_all (has_signal tables) names (route_stands tables sound run.route stands.known).known k [] l in
      let there = (signal_stands tables sound (get_or names k []) known).known in
      let none : list_any (λ (n : List ℕ). is_same n block) section.blocks ≡ false =
      list_any_none (λ (n : List ℕ). is_same n block) section.blocks
      (λ i d m.
      let n = get_or section.blocks i d in
      let off : passes_block tables n run ≡ false = none_passes (λ name. passes_block tables name run) section.blocks apart i d m in
      is_same-sym n block ∙ none_passes (λ m. is_same (signal_named tables m).block n) names off k [] l) in
      ap (number_of (λ n. n) section.blocks) (named tables block there) ∙ number_of-missing (λ n. n) section.blocks block none

  pub no_uses : section_uses tables section run ≡ []
  no_uses =
      let path = path_in tables run in
      let inside = λ (u : Use). ltb u.block (length section.blocks) in
      filter_none inside (map (use_in_section tables section) (stairway path))
      (All-map (λ (u : Use). inside u ≡ false) (use_in_section tables section) (stairway path)
      (All-from_one (λ (u : Use). ltb (position_in_section tables section u.block) (length section.blocks) ≡ false) (use_of path) (hop_count path)
      (λ k low high.
      let i = k - 1 in
      let count = length-hops_in tables names run.legs in
      let here : i < length names = omega (arith, count, low, high) in
      let timed : i < length run.legs = omega (arith, count, low, high) in
      let at = ap (λ (h : Hop). h.block) (hop_in_at tables names run.legs i no_hop here timed) in
      let past = ap (position_in_section tables section) at ∙ outside i here in
      le-ltb (position_in_section tables section (hop path k).block) (length section.blocks) (omega (arith, past)))))

-- ---- the row of the run of a name

no_row : (tables : Tables) → IsSound tables → (section : Section) (stamp : ℕ) (name : List ℕ) (found : Option Run)
    → find (λ (r : Run). is_same r.name name) tables.runs ≡ found → IfSome found (λ run. passes_section tables section run ≡ false)
    → row_of_stair tables section stamp (option_map (λ run. stair_of (path_in tables run)) found) ≡ None
no_row tables sound section stamp name None e apart = refl
no_row tables sound section stamp name (Some run) e apart =
    let stands = (find_some (λ (r : Run). is_same r.name name) tables.runs run e).1 (λ (r : Run). Stands tables (item.Run r)) sound.runs.each in
    rw (no_uses tables sound section run stands apart) refl

pub passed_by : (tables : Tables) → IsSound tables → (section : Section) (stamp : ℕ) (name : List ℕ) (stair : Option Stair)
    → stair ≡ option_map (λ run. stair_of (path_in tables run)) (find (λ (r : Run). is_same r.name name) tables.runs)
    → PassesBy tables section name → row_of_stair tables section stamp stair ≡ None
passed_by tables sound section stamp name stair is apart =
    ap (row_of_stair tables section stamp) is
    ∙ no_row tables sound section stamp name (find (λ (r : Run). is_same r.name name) tables.runs) refl apart

-- ---- the section of a name that is there

module _ (tables : Tables) (name : List ℕ) (s : Section) (found : find (λ (x : Section). is_same x.name name) tables.sections ≡ Some s) where
  pub section_there : has_section tables name ≡ false → ⊥
  section_there out =
      let here = find_some (λ (x : Section). is_same x.name name) tables.sections s found in
      both_ways (is_same s.name name)
      (here.1 (λ (x : Section). is_same x.name name ≡ false) (none_passes (λ (x : Section). is_same x.name name) tables.sections out)) here.0

  pub section_is : (n : ℕ) → n ≡ number_of (λ (x : Section). x.name) tables.sections name → section_at tables n ≡ s
  section_is n number =
      get_or_from_slice_get tables.sections n s no_section
      (ap (slice_get tables.sections) number ∙ sym (find_at (λ (x : Section). is_same x.name name) tables.sections) ∙ found)

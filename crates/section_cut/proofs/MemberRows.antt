-- The members' rows, one run after the other.
use Rattle.std.proofs.Common.{◌≡◌, ℕ, ◌+◌, ◌<◌, Bool, true, false, cond, ltb, List, [], ◌∷◌, ◌++◌, map, length, get_or, take, Option, refl, sym, ap, ◌∙◌, arith}
use Rattle.std.specs.Prelude.{filter, option_map, All}
use Rattle.std.specs.List.{range_with_len}
use Rattle.std.specs.Option.{option_to_list}
use Rattle.std.proofs.lemmas.List.{length-map, map-append}
use Rattle.std.proofs.lemmas.List.Elements.{filter_more}
use Rattle.std.proofs.lemmas.List.FromFn.{map-range_with_len_more}
use Rattle.rail_model.specs.declared.items.Run.{Run}
use Rattle.rail_model.specs.declared.items.Section.{Section}
use Rattle.rail_model.specs.declared.tables.Tables.{Tables}
use Rattle.rail_model.specs.declared.stair.Use.{Use}
use Rattle.rail_model.specs.Blocking.{stairway}
use Rattle.rail_model.specs.Tables.{no_run, run_at, path_in}
use Rattle.rail_model.specs.Rules.{IsSound}
use Rattle.plan_model.specs.declared.cut.CutRow.{CutRow}
use Rattle.plan_model.specs.Cut.{use_in_section, section_uses, is_member}
use Rattle.section_cut.specs.declared.members.Member.{Member}
use Rattle.section_cut.specs.Positions.{IsPositions, with_position, uses_in}
use Rattle.section_cut.specs.OneRun.{uses_of_section}
use Rattle.section_cut.specs.Members.{member_row, member_of, row_on_blocks, member_at}
use Rattle.rail_model.proofs.Lists.{map_same}
use Rattle.rail_model.proofs.Timetables.{used_there}

module _ (tables : Tables) (section : Section) where
  -- uses of the section's blocks by the table of positions
  pub uses_by_positions : (positions : List ℕ) → IsPositions tables section positions → (uses : List Use)
      → All (λ (u : Use). u.block < length tables.blocks) uses
      → uses_in positions (length section.blocks) uses ≡ uses_of_section tables section uses
  uses_by_positions positions table uses there =
      ap (filter (λ (u : Use). ltb u.block (length section.blocks)))
      (map_same (with_position positions) (use_in_section tables section) uses
      (λ k d below.
      let u = get_or uses k d in
      ap (λ (b : ℕ). record u { block = b }) (table.each u.block (there k d below))))

  -- and those of a run
  pub uses_by_table : IsSound tables → (positions : List ℕ) → IsPositions tables section positions → (n : ℕ)
      → n < length tables.runs
      → uses_in positions (length section.blocks) (stairway (path_in tables (run_at tables n)))
      ≡ section_uses tables section (run_at tables n)
  uses_by_table sound positions table n l =
      uses_by_positions positions table (stairway (path_in tables (run_at tables n))) (used_there tables sound n l)

  pub row_listed : (stamp : ℕ) (run : Run) (b : Bool) → b ≡ is_member tables section run
      → map (row_on_blocks tables section stamp) (cond b (run ∷ []) [])
      ≡ option_to_list (member_row section run.name stamp (section_uses tables section run))
  row_listed stamp run true e = rw (sym e) refl
  row_listed stamp run false e = rw (sym e) refl

  -- the rows with the next run's
  pub rows_more : (stamp n : ℕ) → n < length tables.runs
      → map (row_on_blocks tables section stamp) (filter (is_member tables section) (take (n + 1) tables.runs))
      ≡ map (row_on_blocks tables section stamp) (filter (is_member tables section) (take n tables.runs))
      ++ option_to_list (member_row section (run_at tables n).name stamp (section_uses tables section (run_at tables n)))
  rows_more stamp n l =
      let run = run_at tables n in
      let test = is_member tables section in
      let row = row_on_blocks tables section stamp in
      ap (map row) (filter_more test tables.runs n no_run l)
      ∙ map-append row (filter test (take n tables.runs)) (cond (test run) (run ∷ []) [])
      ∙ ap (λ t. map row (filter test (take n tables.runs)) ++ t) (row_listed stamp run (test run) refl)

  member_listed : (stamp n k : ℕ) (b : Bool) → b ≡ is_member tables section (run_at tables n)
      → k ≡ length (filter (is_member tables section) (take n tables.runs))
      → option_map (member_of k) (member_row section (run_at tables n).name stamp (section_uses tables section (run_at tables n)))
      ≡ member_at tables section n
  member_listed stamp n k true e count = rw (sym e, count) refl
  member_listed stamp n k false e count = rw (sym e) refl

  -- the members by number with the next run's
  pub members_more : (stamp n : ℕ) (rows : List CutRow)
      → rows ≡ map (row_on_blocks tables section stamp) (filter (is_member tables section) (take n tables.runs))
      → map (member_at tables section) (range_with_len 0 (n + 1))
      ≡ map (member_at tables section) (range_with_len 0 n)
      ++ option_map (member_of (length rows)) (member_row section (run_at tables n).name stamp (section_uses tables section (run_at tables n)))
      ∷ []
  members_more stamp n rows is =
      let before = filter (is_member tables section) (take n tables.runs) in
      let count = ap length is ∙ length-map before (row_on_blocks tables section stamp) in
      map-range_with_len_more (member_at tables section) 0 n n (omega arith)
      ∙ ap (λ (m : Option Member). map (member_at tables section) (range_with_len 0 n) ++ m ∷ [])
      (sym (member_listed stamp n (length rows) (is_member tables section (run_at tables n)) refl count))

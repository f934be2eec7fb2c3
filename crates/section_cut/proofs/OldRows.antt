-- The rows of a section's cut by the runs of its tables: a run's row, its entry and its uses of blocks.
use Rattle.std.proofs.Common.{◌≡◌, ℕ, ◌<◌, Bool, true, false, cond, List, map, length, Option, Some, None, refl, sym, ap, ◌∙◌, subst}
use Rattle.std.specs.Prelude.{filter, find, option_map}
use Rattle.rail_model.specs.declared.items.Run.{Run}
use Rattle.rail_model.specs.declared.items.Section.{Section}
use Rattle.rail_model.specs.declared.items.Connection.{Connection}
use Rattle.rail_model.specs.declared.tables.Tables.{Tables}
use Rattle.rail_model.specs.Name.{NamesRise, is_same}
use Rattle.rail_model.specs.Rules.{IsSound}
use Rattle.rail_model.specs.Tables.{no_run, run_at}
use Rattle.rail_model.proofs.Lists.{find-map}
use Rattle.plan_model.specs.declared.cut.CutRow.{CutRow}
use Rattle.plan_model.specs.declared.cut.Cut.{Cut}
use Rattle.plan_model.specs.Cut.{stamped_row, stamped, section_uses, entry_of, is_member, binds, binding_connections, row_of, section_cut}
use Rattle.section_cut.specs.Connected.{entry_in, block_part}
use Rattle.section_cut.proofs.Listed.{names_rise}
use Rattle.section_cut.proofs.Rows.{found_passing}
use Rattle.section_cut.proofs.SoundRow.{blocks_are}

-- the row of a run, if it is a member
abbrev pub row_if : Tables → Section → Run → Option CutRow
row_if tables s run = cond (is_member tables s run) (Some (row_of tables s run)) None

-- the connections that bind, by their names in a cut
module _ (tables : Tables) (s : Section) (old : Cut) (cut : section_cut tables s ≡ stamped 0 old) where
  pub cut_rows : map (stamped_row 0) old.rows ≡ map (row_of tables s) (filter (is_member tables s) tables.runs)
  cut_rows = ap (λ (c : Cut). c.rows) (sym cut)

  pub cut_names : old.connections ≡ map (λ (c : Connection). c.name) (binding_connections tables s)
  cut_names = ap (λ (c : Cut). c.connections) (sym cut)

  pub cut_names_rise : IsSound tables → NamesRise (λ n. n) old.connections
  cut_names_rise sound =
      subst (NamesRise (λ n. n)) (sym cut_names) (names_rise (λ (c : Connection). c.name) (binds tables s) tables.connections sound.connections.names)

module _ (tables : Tables) (s : Section) (rise : NamesRise (λ (r : Run). r.name) tables.runs) where
  -- it is found by the run's name among the rows
  pub row_at_name : (n : ℕ) → n < length tables.runs
      → find (λ (r : CutRow). is_same r.name (run_at tables n).name) (map (row_of tables s) (filter (is_member tables s) tables.runs)) ≡ row_if tables s (run_at tables n)
  row_at_name n below =
      let run = run_at tables n in
      find-map (row_of tables s) (λ (r : CutRow). is_same r.name run.name) (filter (is_member tables s) tables.runs)
      ∙ ap (option_map (row_of tables s)) (found_passing (λ (r : Run). r.name) (is_member tables s) tables.runs n no_run rise below)
      ∙ by_test run (is_member tables s run)
    where
      by_test : (run : Run) (b : Bool) → option_map (row_of tables s) (cond b (Some run) None) ≡ cond b (Some (row_of tables s run)) None
      by_test run true = refl
      by_test run false = refl

  module _ (old : List CutRow) (are : map (stamped_row 0) old ≡ map (row_of tables s) (filter (is_member tables s) tables.runs)) where
    -- and among rows of the same values
    pub old_row : (n : ℕ) → n < length tables.runs
        → option_map (stamped_row 0) (find (λ (r : CutRow). is_same r.name (run_at tables n).name) old) ≡ row_if tables s (run_at tables n)
    old_row n below =
        sym (find-map (stamped_row 0) (λ (r : CutRow). is_same r.name (run_at tables n).name) old)
        ∙ ap (find (λ (r : CutRow). is_same r.name (run_at tables n).name)) are ∙ row_at_name n below

    -- it has the run's entry
    pub old_entry : (n : ℕ) → n < length tables.runs
        → option_map (λ (r : CutRow). r.entry) (find (λ (r : CutRow). is_same r.name (run_at tables n).name) old) ≡ entry_in tables s (run_at tables n)
    old_entry n below =
        let run = run_at tables n in
        sym (unmarked (find (λ (r : CutRow). is_same r.name run.name) old)) ∙ ap (option_map (λ (r : CutRow). r.entry)) (old_row n below)
        ∙ by_test run (is_member tables s run)
      where
        unmarked : (o : Option CutRow) → option_map (λ (r : CutRow). r.entry) (option_map (stamped_row 0) o) ≡ option_map (λ (r : CutRow). r.entry) o
        unmarked None = refl
        unmarked (Some r) = refl

        by_test : (run : Run) (b : Bool) → option_map (λ (r : CutRow). r.entry) (cond b (Some (row_of tables s run)) None) ≡ cond b (Some (entry_of tables s run)) None
        by_test run true = refl
        by_test run false = refl

    -- and its uses of blocks
    pub old_blocks : IsSound tables → (n : ℕ) → n < length tables.runs → (own : CutRow)
        → Some own ≡ find (λ (r : CutRow). is_same r.name (run_at tables n).name) old → block_part s own.uses ≡ section_uses tables s (run_at tables n)
    old_blocks sound n below own found =
        by_test (is_member tables s (run_at tables n)) refl (ap (option_map (stamped_row 0)) found ∙ old_row n below)
      where
        by_test : (b : Bool) → b ≡ is_member tables s (run_at tables n) → Some (stamped_row 0 own) ≡ cond b (Some (row_of tables s (run_at tables n))) None
            → block_part s own.uses ≡ section_uses tables s (run_at tables n)
        by_test true e is =
            let same : stamped_row 0 own ≡ row_of tables s (run_at tables n) = cc in
            ap (λ (r : CutRow). block_part s r.uses) same ∙ blocks_are tables sound s n below (sym e)
        by_test false e is = absurd (cc)

-- Items whose names rise: a name finds its item.
use Rattle.std.proofs.Common.{◌≡◌, get_or, ap, ◌∙◌}
use Rattle.std.specs.Prelude.{All}
use Rattle.std.proofs.lemmas.List.{get_or_default}
use Rattle.std.proofs.lemmas.List.Elements.{All-filter}
use Rattle.std.proofs.lemmas.List.Kept.{AllPairs-filter}
use Rattle.rail_model.specs.declared.items.Run.{Run}
use Rattle.rail_model.specs.declared.items.Section.{Section}
use Rattle.rail_model.specs.declared.tables.Tables.{Tables}
use Rattle.rail_model.specs.Name.{IsBefore, NamesRise}
use Rattle.rail_model.specs.Tables.{no_run, run_named}
use Rattle.rail_model.specs.Rules.{IsSound}
use Rattle.rail_model.proofs.Places.{number_of-found}
use Rattle.plan_model.specs.Cut.{is_member}
use Rattle.section_cut.specs.Members.{members_of}

module _ (tables : Tables) (sound : IsSound tables) where
  -- the run of the name of a run is that run
  pub run_of_name : All (λ (run : Run). run_named tables run.name ≡ run) tables.runs
  run_of_name k d l =
      let number = number_of-found (λ (r : Run). r.name) tables.runs (get_or tables.runs k d).name k sound.runs.names l
      (λ e. ap (λ (r : Run). r.name) (get_or_default tables.runs k e d l)) in
      ap (λ i. get_or tables.runs i no_run) number ∙ get_or_default tables.runs k no_run d l

  module _ (section : Section) where
    pub member_of_name : All (λ (run : Run). run_named tables run.name ≡ run) (members_of tables section)
    member_of_name = All-filter (is_member tables section) (λ (run : Run). run_named tables run.name ≡ run) tables.runs run_of_name

    pub members_rise : NamesRise (λ (r : Run). r.name) (members_of tables section)
    members_rise = AllPairs-filter (λ (a : Run) (b : Run). IsBefore a.name b.name) (is_member tables section) tables.runs sound.runs.names

-- Which runs have connections, told by one connection after the other.
use Rattle.std.proofs.Common.{◌≡◌, ◌≢◌, ℕ, ◌+◌, ◌<◌, Bool, true, false, ◌||◌, List, [], ◌∷◌, length, get_or, set, take, refl, sym, ap, ◌∙◌, arith}
use Rattle.std.specs.List.{list_any}
use Rattle.std.proofs.lemmas.Bool.{both_ways, false_from_ne_true}
use Rattle.std.proofs.lemmas.Grind.{get_or-set_at}
use Rattle.std.proofs.lemmas.List.{get_or_default, get_or-set_other, length-set, take_more}
use Rattle.std.proofs.lemmas.List.Folds.{list_any-append}
use Rattle.rail_model.specs.declared.items.Run.{Run}
use Rattle.rail_model.specs.declared.items.Connection.{Connection}
use Rattle.rail_model.specs.declared.tables.Tables.{Tables}
use Rattle.rail_model.specs.Name.{is_same}
use Rattle.rail_model.specs.Rules.{has_run, IsSound}
use Rattle.rail_model.specs.Tables.{no_run, number_of, run_at}
use Rattle.rail_model.proofs.NameOrder.{same_name}
use Rattle.rail_model.proofs.Places.{number_of-found}
use Rattle.section_cut.specs.Connected.{joins, with_told, IsOfRuns}
use Rattle.section_cut.proofs.Known.{run_there}

module _ (tables : Tables) where
  -- a run for which no is told still has another name than one for which yes was told
  told_other : IsSound tables → (name : List ℕ) → has_run tables name ≡ true → (told : List Bool) → length told ≡ length tables.runs
      → (k : ℕ) (d : Bool) → k < length tables.runs → get_or (with_told tables name told) k d ≡ false
      → (get_or told k d ≡ false) × (is_same name (run_at tables k).name ≡ false)
  told_other sound name there told long k d below out =
      let n = number_of (λ (r : Run). r.name) tables.runs name in
      let within = run_there tables sound name there in
      let other : k ≢ n = λ e. both_ways (get_or (set told n true) k d) out (get_or-set_at told n k true d e (omega (arith, within, long))) in (
        sym (get_or-set_other told n k true d other) ∙ out,
        false_from_ne_true (is_same name (run_at tables k).name)
            (λ e.
            other
            (sym
            (number_of-found (λ (r : Run). r.name) tables.runs name k sound.runs.names below
            (λ r. ap (λ (x : Run). x.name) (get_or_default tables.runs k r no_run below) ∙ sym (same_name name (run_at tables k).name e))))),
      )

  -- the runs for which no is told have none of the first connections
  abbrev pub IsJoinedTo : ℕ → List Bool → Type 0
  IsJoinedTo n told =
      (length told ≡ length tables.runs)
      × ((k : ℕ) (d : Bool) → k < length tables.runs → get_or told k d ≡ false → list_any (joins (run_at tables k).name) (take n tables.connections) ≡ false)

  pub joined_more : IsSound tables → (told : List Bool) (n : ℕ) (c : Connection) → n < length tables.connections → get_or tables.connections n c ≡ c
      → IsOfRuns tables c → IsJoinedTo n told → IsJoinedTo (n + 1) (with_told tables c.second (with_told tables c.first told))
  joined_more sound told n c below is there so_far =
      let first = with_told tables c.first told in
      let number : List ℕ → ℕ = λ name. number_of (λ (r : Run). r.name) tables.runs name in
      let long : length first ≡ length tables.runs = length-set told (number c.first) true ∙ so_far.0 in (
        length-set first (number c.second) true ∙ long,
        λ k d l out.
            let name = (run_at tables k).name in
            let test = joins name in
            let two = told_other sound c.second there.second first long k d l out in
            let one = told_other sound c.first there.first told so_far.0 k d l two.0 in
            let joined : test c ≡ false = rw (one.1, two.1) refl in
            ap (list_any test) (take_more tables.connections n c below)
            ∙ list_any-append test (take n tables.connections) (get_or tables.connections n c ∷ [])
            ∙ ap (λ b. b || (test (get_or tables.connections n c) || false)) (so_far.1 k d l one.0)
            ∙ ap (λ (x : Connection). test x || false) is ∙ ap (λ b. b || false) joined,
      )

-- An edit of one connection: the entries of runs stay, and where it binds neither before nor after it, so does the cut.
use Rattle.std.proofs.Common.{◌≡◌, ℕ, Bool, true, false, List, [], ◌++◌, map, Option, Some, None, refl, sym, ap, ◌∙◌, subst}
use Rattle.std.specs.Prelude.{filter, find, option_map, IfSome}
use Rattle.std.specs.Option.{option_to_list}
use Rattle.std.proofs.lemmas.List.Elements.{filter-append}
use Rattle.line_tables.proofs.Found.{find_some}
use Rattle.rail_model.specs.declared.items.Run.{Run}
use Rattle.rail_model.specs.declared.items.Section.{Section}
use Rattle.rail_model.specs.declared.items.Connection.{Connection}
use Rattle.rail_model.specs.declared.tables.Tables.{Tables}
use Rattle.rail_model.specs.Name.{is_same, NamesRise}
use Rattle.rail_model.specs.Rules.{is_named, has_run, IsSound}
use Rattle.rail_model.specs.Tables.{number_of, run_at, run_named, last_arrival}
use Rattle.rail_model.proofs.NameOrder.{same_name}
use Rattle.plan_model.specs.declared.cut.CutRow.{CutRow}
use Rattle.plan_model.specs.declared.cut.Cut.{Cut}
use Rattle.plan_model.specs.Cut.{section_uses, is_member, binds, binding_connections, section_cut}
use Rattle.section_cut.specs.declared.cut_changes.CutChange.TheVariants as change
use Rattle.section_cut.specs.declared.cut_changes.StoredCut.{StoredCut}
use Rattle.section_cut.specs.Stored.{IsStored, IsChangeOfStored}
use Rattle.section_cut.specs.Connected.{entry_in, IsOfRuns, TellsEntries}
use Rattle.section_cut.specs.OneRun.{before, behind}
use Rattle.section_cut.specs.declared.one_connection.EditedConnection.{EditedConnection}
use Rattle.section_cut.specs.EditedConnection.{IsEditedConnection}
use Rattle.section_cut.proofs.Around.{split}
use Rattle.section_cut.proofs.BindsBy.{row_by}
use Rattle.section_cut.proofs.Known.{connection_known, run_there, run_named_name}
use Rattle.section_cut.proofs.Listed.{listed_is}
use Rattle.section_cut.proofs.OldRows.{old_entry}
use Rattle.section_cut.proofs.Stored.{stored_is, stored_names, stored_rows, stored_section}

-- tables that differ in their connections alone
module _ (earlier later : Tables) (others : later ≡ record earlier { connections = later.connections }) where
  -- a cut where the connections that bind are these
  abbrev cut_by : Tables → Section → List Connection → Cut
  cut_by t s bs = record {
    section = s;
    connections = map (λ c. c.name) bs;
    rows = map (λ run. row_by s run (section_uses t s run) (last_arrival t run) bs) (filter (is_member t s) t.runs);
  }

  pub cut_stays : (s : Section) → binding_connections later s ≡ binding_connections earlier s → section_cut later s ≡ section_cut earlier s
  cut_stays s binding = ap (cut_by later s) binding ∙ ap (λ (t : Tables). cut_by t s (binding_connections earlier s)) others

-- a connection that is there is of runs that are there
pub found_there : (tables : Tables) → IsSound tables → (name : List ℕ) (c : Connection) → find (λ (x : Connection). is_same x.name name) tables.connections ≡ Some c → IsOfRuns tables c
found_there tables sound name c found =
    (find_some (λ (x : Connection). is_same x.name name) tables.connections c found).1 (IsOfRuns tables)
    (λ k d l. let known = connection_known tables sound k d l in record { first = known.first; second = known.second })

-- what passes a test, around the item of a name
parted : {X : Type 0} (name : X → List ℕ) (p : X → Bool) (n : List ℕ) (xs : List X) → NamesRise name xs
    → filter p xs ≡ filter p (before name n xs) ++ (filter p (option_to_list (find (λ x. is_same (name x) n) xs)) ++ filter p (behind name n xs))
parted name p n xs rise =
    let middle = option_to_list (find (λ x. is_same (name x) n) xs) in
    ap (filter p) (split name n xs rise) ∙ filter-append p (before name n xs) (middle ++ behind name n xs)
    ∙ ap (λ ys. filter p (before name n xs) ++ ys) (filter-append p middle (behind name n xs))

-- a stored cut
module _ {stored : StoredCut} (kept : IsStored stored) where
  abbrev earlier : Tables
  earlier = stored.both.before.now

  abbrev later : Tables
  later = stored.both.after.now

  abbrev old : Cut
  old = stored.cut.now

  abbrev s : Section
  s = old.section

  module _ (others : later ≡ record earlier { connections = later.connections }) where
    pub cut_of_stays : binding_connections later s ≡ binding_connections earlier s → IsChangeOfStored stored change.Untouched
    cut_of_stays binding =
        ap (option_map (section_cut later)) (stored_section kept (ap (λ (t : Tables). t.sections) others))
        ∙ ap Some (cut_stays earlier later others s binding ∙ stored_is kept) ∙ sym kept.is

    -- the rows have the entries of their runs
    pub entries_stay : TellsEntries later s (λ name. find (λ (r : CutRow). is_same r.name name) old.rows)
    entries_stay name there =
        let before : has_run earlier name ≡ true = sym (ap (λ (t : Tables). has_run t name) others) ∙ there in
        let n = number_of (λ (r : Run). r.name) earlier.runs name in
        subst (λ m. option_map (λ (r : CutRow). r.entry) (find (λ (r : CutRow). is_same r.name m) old.rows) ≡ entry_in earlier s (run_at earlier n))
        (run_named_name earlier kept.earlier_sound name before)
        (old_entry earlier s kept.earlier_sound.runs.names old.rows (stored_rows kept) n (run_there earlier kept.earlier_sound name before))
        ∙ sym (ap (λ (t : Tables). entry_in t s (run_named t name)) others)

  -- where an edited connection binds neither before nor after the edit, the cut stays
  module _ (edited : EditedConnection) (is : IsEditedConnection earlier later edited) where
    none_before : is_named (λ n. n) old.connections edited.name ≡ false → (found : Option Connection) → find (λ (c : Connection). is_same c.name edited.name) earlier.connections ≡ found
        → filter (binds earlier s) (option_to_list found) ≡ []
    none_before out None e = refl
    none_before out (Some c) e =
        let at = find_some (λ (x : Connection). is_same x.name edited.name) earlier.connections c e in
        let told = at.1 (λ (x : Connection). is_named (λ n. n) (map (λ (y : Connection). y.name) (binding_connections earlier s)) x.name ≡ binds earlier s x)
        (listed_is (λ (y : Connection). y.name) (binds earlier s) earlier.connections kept.earlier_sound.connections.names) in
        let gone : binds earlier s c ≡ false =
        sym told ∙ ap (is_named (λ n. n) (map (λ (y : Connection). y.name) (binding_connections earlier s))) (same_name c.name edited.name at.0)
        ∙ ap (λ ns. is_named (λ n. n) ns edited.name) (sym (stored_names kept)) ∙ out in
        rw gone refl

    none_after : (found : Option Connection) → IfSome found (λ c. binds later s c ≡ false) → filter (binds later s) (option_to_list found) ≡ []
    none_after None out = refl
    none_after (Some c) out = rw out refl

    binding_kept : is_named (λ n. n) old.connections edited.name ≡ false → IfSome edited.after (λ c. binds later s c ≡ false)
        → binding_connections later s ≡ binding_connections earlier s
    binding_kept out after =
        let name = λ (c : Connection). c.name in
        let p = binds earlier s in
        let q = binds later s in
        let n = edited.name in
        let front = before name n earlier.connections in
        let back = behind name n earlier.connections in
        let same : q ≡ p = ap (λ (t : Tables). binds t s) is.others in
        parted name q n later.connections kept.later_sound.connections.names
        ∙ ap (λ xs. filter q (before name n later.connections) ++ (xs ++ filter q (behind name n later.connections)))
        (ap (λ o. filter q (option_to_list o)) (sym is.after) ∙ none_after edited.after after)
        ∙ ap (λ xs. filter q xs ++ filter q (behind name n later.connections)) is.front
        ∙ ap (λ xs. filter q front ++ filter q xs) is.back
        ∙ ap (λ t. filter t front ++ filter t back) same
        ∙ ap (λ xs. filter p front ++ (xs ++ filter p back)) (sym (none_before out (find (λ (c : Connection). is_same c.name n) earlier.connections) refl))
        ∙ sym (parted name p n earlier.connections kept.earlier_sound.connections.names)

    pub untouched : is_named (λ n. n) old.connections edited.name ≡ false → IfSome edited.after (λ c. binds later s c ≡ false) → IsChangeOfStored stored change.Untouched
    untouched out after = cut_of_stays is.others (binding_kept out after)

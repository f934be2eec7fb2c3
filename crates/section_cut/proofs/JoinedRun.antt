-- An edit of one run: the entries after it by the rows before it, and when the same connections bind.
use Rattle.std.proofs.Common.{◌≡◌, ℕ, Bool, true, false, cond, List, map, get_or, Option, Some, None, refl, sym, ap, ◌∙◌, subst, inl, inr}
use Rattle.std.specs.Prelude.{All, filter, find, option_map, IfSome}
use Rattle.std.proofs.lemmas.Bool.{cases_Bool, both_ways, or_parts}
use Rattle.std.proofs.lemmas.List.Elements.{All-filter}
use Rattle.rail_model.specs.declared.items.Run.{Run}
use Rattle.rail_model.specs.declared.items.Section.{Section}
use Rattle.rail_model.specs.declared.items.Connection.{Connection}
use Rattle.rail_model.specs.declared.stair.Stair.{Stair}
use Rattle.rail_model.specs.declared.stair.Use.{Use}
use Rattle.rail_model.specs.declared.tables.Tables.{Tables}
use Rattle.rail_model.specs.Name.{is_same}
use Rattle.rail_model.specs.Rules.{is_named, has_run, IsSound}
use Rattle.rail_model.specs.Tables.{no_run, number_of, run_at, run_named}
use Rattle.rail_model.proofs.NameOrder.{same_name, is_same-from}
use Rattle.plan_model.specs.declared.cut.CutRow.{CutRow}
use Rattle.plan_model.specs.declared.cut.Cut.{Cut}
use Rattle.plan_model.specs.Cut.{least, section_uses, binds, binding_connections, is_member}
use Rattle.section_cut.specs.Members.{enters, member_row}
use Rattle.section_cut.specs.declared.cut_changes.StoredCut.{StoredCut}
use Rattle.section_cut.specs.Stored.{IsStored}
use Rattle.section_cut.specs.OneRun.{IsOneRun, row_of_stair}
use Rattle.section_cut.specs.Connected.{joins, entry_in, IsOfRuns, HasEntryOf, TellsEntries, row_beside}
use Rattle.section_cut.proofs.Around.{found_still, named_still}
use Rattle.section_cut.proofs.BindsBy.{filter_parted, binds_same}
use Rattle.section_cut.proofs.Known.{connection_known, run_there, run_named_name}
use Rattle.section_cut.proofs.Listed.{listed_is}
use Rattle.section_cut.proofs.OldRows.{old_entry}
use Rattle.section_cut.proofs.OneRun.{row_for, by_stair, run_found, run_missing, named_is}
use Rattle.section_cut.proofs.Stored.{stored_names, stored_rows}

-- a member's row has its entry
entered : (s : Section) (name : List ℕ) (stamp : ℕ) (uses : List Use) (b : Bool) → b ≡ enters s uses
    → option_map (λ (r : CutRow). r.entry) (member_row s name stamp uses) ≡ cond b (Some (least (map (λ (u : Use). u.start) uses))) None
entered s name stamp uses true e = rw (sym e) refl
entered s name stamp uses false e = rw (sym e) refl

module _ {stored : StoredCut} (is : IsStored stored) (name : List ℕ) (its : Option Stair) (one : IsOneRun stored.both.before.now stored.both.after.now name its) where
  abbrev earlier : Tables
  earlier = stored.both.before.now

  abbrev later : Tables
  later = stored.both.after.now

  abbrev old : Cut
  old = stored.cut.now

  abbrev s : Section
  s = old.section

  -- a run of another name is there before the edit, if it is there after it
  pub other_there : (m : List ℕ) → (name ≡ m → ⊥) → has_run later m ≡ true → has_run earlier m ≡ true
  other_there m other there =
      elim (cases_Bool (has_run earlier m)) [
        | inl e ↦ e
        | inr gone ↦
            let found = run_found later m (number_of (λ (r : Run). r.name) later.runs m) refl (run_there later is.later_sound m there) in
            let still = found_still (λ (r : Run). r.name) name earlier.runs later.runs one.front one.back m other in
            let both : Some (run_at later (number_of (λ (r : Run). r.name) later.runs m)) ≡ None = sym found ∙ still ∙ run_missing earlier m gone in
            absurd (cc)
      ]

  -- and it is the same run
  pub other_run : (m : List ℕ) → (name ≡ m → ⊥) → run_named later m ≡ run_named earlier m
  other_run m other = named_still (λ (r : Run). r.name) name earlier.runs later.runs one.front one.back no_run m other

  other_entry : (m : List ℕ) → (name ≡ m → ⊥) → entry_in later s (run_named later m) ≡ entry_in earlier s (run_named earlier m)
  other_entry m other =
      ap (entry_in later s) (other_run m other) ∙ ap (λ (t : Tables). entry_in t s (run_named earlier m)) one.others

  -- where each connection of the run binds as before it, the same connections bind
  binding_stays : All (λ c. binds later s c ≡ binds earlier s c) (filter (joins name) earlier.connections)
      → binding_connections later s ≡ binding_connections earlier s
  binding_stays own =
      ap (λ (t : Tables). filter (binds later s) t.connections) one.others
      ∙ filter_parted (binds later s) (binds earlier s) (joins name) earlier.connections
      (λ k d l out.
      let c = get_or earlier.connections k d in
      let apart = or_parts (is_same c.first name) (is_same c.second name) out in
      let first : name ≡ c.first → ⊥ = λ e. both_ways (is_same c.first name) apart.0 (is_same-from c.first name (sym e)) in
      let second : name ≡ c.second → ⊥ = λ e. both_ways (is_same c.second name) apart.1 (is_same-from c.second name (sym e)) in
      binds_same earlier later s c (other_entry c.first first) (other_entry c.second second) (ap (λ (r : Run). r.start_s) (other_run c.second second)))
      own

  -- where each binds exactly where it is listed in the cut before it
  pub binding_as_listed : All (λ c. binds later s c ≡ is_named (λ n. n) old.connections c.name) (filter (joins name) later.connections)
      → binding_connections later s ≡ binding_connections earlier s
  binding_as_listed own =
      let cs = ap (λ (t : Tables). t.connections) one.others in
      let listed = listed_is (λ (c : Connection). c.name) (binds earlier s) earlier.connections is.earlier_sound.connections.names in
      let mine = All-filter (joins name) (λ (c : Connection). is_named (λ n. n) (map (λ (c : Connection). c.name) (binding_connections earlier s)) c.name ≡ binds earlier s c) earlier.connections listed in
      let told = subst (λ (xs : List Connection). All (λ c. binds later s c ≡ is_named (λ n. n) old.connections c.name) (filter (joins name) xs)) cs own in
      binding_stays
      (λ k d l.
      told k d l ∙ ap (λ (ns : List (List ℕ)). is_named (λ n. n) ns (get_or (filter (joins name) earlier.connections) k d).name) (stored_names is) ∙ mine k d l)

  module _ (bare : Option CutRow) (bare_is : bare ≡ row_of_stair later s stored.number its) where
    -- the run's own row has its entry
    own_entry : (found : Option Run) → find (λ (r : Run). is_same r.name name) later.runs ≡ found → has_run later name ≡ true
        → option_map (λ (r : CutRow). r.entry) (row_for later s stored.number found) ≡ entry_in later s (run_named later name)
    own_entry None e there =
        let found = run_found later name (number_of (λ (r : Run). r.name) later.runs name) refl (run_there later is.later_sound name there) in
        let both : Some (run_at later (number_of (λ (r : Run). r.name) later.runs name)) ≡ None = sym found ∙ e in
        absurd (cc)
    own_entry (Some run) e there =
        entered s run.name stored.number (section_uses later s run) (is_member later s run) refl
        ∙ ap (entry_in later s) (sym (named_is later name run e))

    pub bare_entry : has_run later name ≡ true → HasEntryOf later s name bare
    bare_entry there =
        let found = find (λ (r : Run). is_same r.name name) later.runs in
        ap (option_map (λ (r : CutRow). r.entry)) (bare_is ∙ ap (row_of_stair later s stored.number) one.stair ∙ by_stair later s stored.number found)
        ∙ own_entry found refl there

    pub entries_told : TellsEntries later s (row_beside name bare old.rows)
    entries_told m there =
        elim (cases_Bool (is_same m name)) [
          | inl e ↦
              let same = same_name m name e in
              rw e (subst (λ n. option_map (λ (r : CutRow). r.entry) bare ≡ entry_in later s (run_named later n)) (sym same)
              (bare_entry (subst (λ n. has_run later n ≡ true) same there)))
          | inr e ↦
              let other : name ≡ m → ⊥ = λ h. both_ways (is_same m name) e (is_same-from m name (sym h)) in
              let before = other_there m other there in
              let n = number_of (λ (r : Run). r.name) earlier.runs m in
              rw e (subst (λ k. option_map (λ (r : CutRow). r.entry) (find (λ (r : CutRow). is_same r.name k) old.rows) ≡ entry_in earlier s (run_at earlier n))
              (run_named_name earlier is.earlier_sound m before)
              (old_entry earlier s is.earlier_sound.runs.names old.rows (stored_rows is) n (run_there earlier is.earlier_sound m before))
              ∙ sym (other_entry m other))
        ]

    none_gone : has_run later name ≡ false → bare ≡ None
    none_gone gone =
        bare_is ∙ ap (row_of_stair later s stored.number) one.stair ∙ by_stair later s stored.number (find (λ (r : Run). is_same r.name name) later.runs)
        ∙ ap (row_for later s stored.number) (run_missing later name gone)

    -- a row is there only of a run that is there
    pub bare_there : IfSome bare (λ _. has_run later name ≡ true)
    bare_there =
        elim (cases_Bool (has_run later name)) [
          | inl e ↦ some bare e
          | inr gone ↦ subst (λ o. IfSome o (λ _. has_run later name ≡ true)) (sym (none_gone gone)) tt
        ]
      where
        some : (o : Option CutRow) → has_run later name ≡ true → IfSome o (λ _. has_run later name ≡ true)
        some None e = tt
        some (Some r) e = e

-- the connections of a run are of runs that are there
pub joined_there : (tables : Tables) → IsSound tables → (name : List ℕ) → All (IsOfRuns tables) (filter (joins name) tables.connections)
joined_there tables sound name =
    All-filter (joins name) (IsOfRuns tables) tables.connections
    (λ k d l. let known = connection_known tables sound k d l in record { first = known.first; second = known.second })

-- The cut of a section by tables that differ in one run, where the same connections bind: its row alone differs.
use Rattle.std.proofs.Common.{◌≡◌, ℕ, ◌<◌, Bool, true, false, cond, List, [], ◌∷◌, ◌++◌, map, Option, Some, None, refl, sym, ap, ◌∙◌, subst, inl, inr, arith}
use Rattle.std.specs.Prelude.{find, filter, option_map, option_and_then, length, All, IfSome, slice_get}
use Rattle.std.specs.Option.{option_to_list}
use Rattle.std.proofs.lemmas.List.{map-append}
use Rattle.std.proofs.lemmas.List.Elements.{filter-append}
use Rattle.rail_model.specs.declared.items.Run.{Run}
use Rattle.rail_model.specs.declared.items.Section.{Section}
use Rattle.rail_model.specs.declared.items.Connection.{Connection}
use Rattle.rail_model.specs.declared.stair.Stair.{Stair}
use Rattle.rail_model.specs.declared.stair.Use.{Use}
use Rattle.rail_model.specs.declared.tables.Tables.{Tables}
use Rattle.rail_model.specs.Name.{is_same, is_before, NamesRise}
use Rattle.plan_model.specs.declared.cut.CutRow.{CutRow}
use Rattle.plan_model.specs.declared.cut.Cut.{Cut}
use Rattle.plan_model.specs.Cut.{stamped_row, stamped, section_uses, is_member, binding_connections, row_of, section_cut, cut_of}
use Rattle.section_cut.specs.Members.{enters, member_row}
use Rattle.line_tables.proofs.Found.{find_some}
use Rattle.rail_model.specs.Rules.{IsSound, has_run}
use Rattle.rail_model.specs.Blocking.{stairway, stair_of}
use Rattle.rail_model.specs.Tables.{no_run, number_of, run_at, run_named, path_in, last_arrival}
use Rattle.std.proofs.lemmas.Option.{get_or_from_slice_get}
use Rattle.section_cut.specs.Connected.{with_bound, row_in}
use Rattle.section_cut.proofs.BindsBy.{row_by}
use Rattle.rail_model.proofs.NameOrder.{same_name}
use Rattle.rail_model.proofs.Timetables.{used_there}
use Rattle.std.proofs.lemmas.Bool.{cases_Bool}
use Rattle.std.proofs.lemmas.Option.{slice_get-get_or, slice_get_past}
use Rattle.std.proofs.lemmas.List.Folds.{find_at}
use Rattle.rail_model.proofs.Places.{number_of-missing}
use Rattle.std.proofs.lemmas.List.{get_or_default}
use Rattle.section_cut.specs.declared.cut_changes.CutChange.{CutChange}
use Rattle.section_cut.specs.declared.cut_changes.StoredCut.{StoredCut}
use Rattle.section_cut.specs.Change.{IsChange}
use Rattle.section_cut.specs.Stored.{IsStored, IsChangeOfStored}
use Rattle.section_cut.specs.EditedRun.{IsPut}
use Rattle.section_cut.specs.OneRun.{before, behind, cut_with, row_of_stair, IsOneRun}
use Rattle.section_cut.specs.Stamps.{IsReached, IsOwn}
use Rattle.section_cut.proofs.Placed.{put_is}
use Rattle.section_cut.proofs.SameValue.{sound_cut_of}
use Rattle.section_cut.proofs.Around.{split, filter_rows}

-- the row of a run, if it is there and a member
abbrev pub row_for : Tables → Section → ℕ → Option Run → Option CutRow
row_for tables s stamp found = option_and_then (λ (run : Run). member_row s run.name stamp (section_uses tables s run)) found

pub bare_member : (s : Section) (name : List ℕ) (stamp : ℕ) (uses : List Use) (b : Bool) → b ≡ enters s uses
    → option_map (stamped_row 0) (member_row s name stamp uses) ≡ member_row s name 0 uses
bare_member s name stamp uses true e = rw (sym e) refl
bare_member s name stamp uses false e = rw (sym e) refl

-- the row with its uses of connections
rows_for : (tables : Tables) (s : Section) (found : Option Run)
    → map (row_of tables s) (filter (is_member tables s) (option_to_list found)) ≡ option_to_list (row_in tables s 0 found)
rows_for tables s None = refl
rows_for tables s (Some run) = listed (is_member tables s run) refl
  where
    listed : (b : Bool) → b ≡ is_member tables s run → map (row_of tables s) (cond b (run ∷ []) [])
        ≡ option_to_list (option_map (with_bound tables s run) (member_row s run.name 0 (section_uses tables s run)))
    listed true e = rw (sym e) refl
    listed false e = rw (sym e) refl

pub bare_row_in : (tables : Tables) (s : Section) (stamp : ℕ) (found : Option Run)
    → option_map (stamped_row 0) (row_in tables s stamp found) ≡ row_in tables s 0 found
bare_row_in tables s stamp None = refl
bare_row_in tables s stamp (Some run) = bare (is_member tables s run) refl
  where
    bare : (b : Bool) → b ≡ is_member tables s run
        → option_map (stamped_row 0) (option_map (with_bound tables s run) (member_row s run.name stamp (section_uses tables s run)))
        ≡ option_map (with_bound tables s run) (member_row s run.name 0 (section_uses tables s run))
    bare true e = rw (sym e) refl
    bare false e = rw (sym e) refl

-- cuts whose rows of other names are the same differ in the row of one name
module _ (earlier later : Tables) (s : Section) (name : List ℕ) (rise : NamesRise (λ (r : Run). r.name) later.runs) where
  abbrev found : Option Run
  found = find (λ (r : Run). is_same r.name name) later.runs

  abbrev old_rows : List CutRow
  old_rows = map (row_of earlier s) (filter (is_member earlier s) earlier.runs)

  -- the rows of runs whose names pass a test are the same
  abbrev pub RowsStay : (List ℕ → Bool) → Type 0
  RowsStay q =
      map (row_of later s) (filter (is_member later s) (filter (λ (r : Run). q r.name) later.runs)) ≡ filter (λ (r : CutRow). q r.name) old_rows

  pub one_row : RowsStay (λ m. is_before m name) → RowsStay (λ m. is_before name m)
      → map (λ (c : Connection). c.name) (binding_connections later s) ≡ map (λ (c : Connection). c.name) (binding_connections earlier s)
      → section_cut later s ≡ cut_with name (row_in later s 0 found) (section_cut earlier s)
  one_row front_stays back_stays names =
      let f = row_of later s in
      let p = is_member later s in
      let front = before (λ (r : Run). r.name) name later.runs in
      let back = behind (λ (r : Run). r.name) name later.runs in
      let middle = option_to_list found in
      let form : List (List ℕ) → List CutRow → Cut = λ cs rows. record { section = s; connections = cs; rows = rows } in
      ap (λ cs. form cs (map f (filter p later.runs))) names
      ∙ ap (form (map (λ (c : Connection). c.name) (binding_connections earlier s)))
      (ap (λ rs. map f (filter p rs)) (split (λ (r : Run). r.name) name later.runs rise)
      ∙ ap (map f) (filter-append p front (middle ++ back)) ∙ map-append f (filter p front) (filter p (middle ++ back))
      ∙ ap (λ rs. map f (filter p front) ++ rs) (ap (map f) (filter-append p middle back) ∙ map-append f (filter p middle) (filter p back))
      ∙ ap (λ rs. rs ++ (map f (filter p middle) ++ map f (filter p back))) front_stays
      ∙ ap (λ rs. before (λ (r : CutRow). r.name) name old_rows ++ (map f (filter p middle) ++ rs)) back_stays
      ∙ ap (λ rs. before (λ (r : CutRow). r.name) name old_rows ++ (rs ++ behind (λ (r : CutRow). r.name) name old_rows)) (rows_for later s found))

-- so do those by tables that differ in one run, where the same connections bind
pub cut_later : (earlier later : Tables) (s : Section) (name : List ℕ) (its : Option Stair) → IsOneRun earlier later name its → NamesRise (λ (r : Run). r.name) later.runs
    → binding_connections later s ≡ binding_connections earlier s
    → section_cut later s ≡ cut_with name (row_in later s 0 (find (λ (r : Run). is_same r.name name) later.runs)) (section_cut earlier s)
cut_later earlier later s name its one rise binding =
    one_row earlier later s name rise (kept (λ m. is_before m name) one.front) (kept (λ m. is_before name m) one.back)
    (ap (map (λ (c : Connection). c.name)) binding)
  where
    rows_by : Tables → List Connection → List Run → List CutRow
    rows_by t bs rs = map (λ run. row_by s run (section_uses t s run) (last_arrival t run) bs) (filter (is_member t s) rs)

    kept : (q : List ℕ → Bool) → filter (λ (r : Run). q r.name) later.runs ≡ filter (λ (r : Run). q r.name) earlier.runs → RowsStay earlier later s name rise q
    kept q same =
        let kept_runs = filter (λ (r : Run). q r.name) earlier.runs in
        ap (rows_by later (binding_connections later s)) same
        ∙ ap (λ bs. rows_by later bs kept_runs) binding
        ∙ ap (λ (t : Tables). rows_by t (binding_connections earlier s) kept_runs) one.others
        ∙ sym (filter_rows (row_of earlier s) (is_member earlier s) (λ (r : Run). q r.name) (λ (r : CutRow). q r.name) (λ r. refl) earlier.runs)

-- the run of a name that is there, and of one that isn't
module _ (tables : Tables) (name : List ℕ) where
  pub run_found : (n : ℕ) → n ≡ number_of (λ (r : Run). r.name) tables.runs name → n < length tables.runs
      → find (λ (r : Run). is_same r.name name) tables.runs ≡ Some (run_at tables n)
  run_found n number l =
      find_at (λ (r : Run). is_same r.name name) tables.runs
      ∙ ap (slice_get tables.runs) (sym number) ∙ slice_get-get_or tables.runs n no_run l

  pub run_missing : has_run tables name ≡ false → find (λ (r : Run). is_same r.name name) tables.runs ≡ None
  run_missing missing =
      let past = number_of-missing (λ (r : Run). r.name) tables.runs name missing in
      find_at (λ (r : Run). is_same r.name name) tables.runs
      ∙ slice_get_past tables.runs (number_of (λ (r : Run). r.name) tables.runs name) (omega (arith, past))

-- ---- a stored cut, with its stamps

filter_mapped : {X Y : Type 0} (f : X → Y) (p : Y → Bool) (q : X → Bool) → ((x : X) → p (f x) ≡ q x) → (xs : List X)
    → filter p (map f xs) ≡ map f (filter q xs)
filter_mapped f p q same [] = refl
filter_mapped f p q same (x ∷ xs) =
    elim (cases_Bool (q x)) [
      | inl e ↦ rw (same x, e) (ap (λ ys. f x ∷ ys) (filter_mapped f p q same xs))
      | inr e ↦ rw (same x, e) (filter_mapped f p q same xs)
    ]

pub map_one : (row : Option CutRow) → map (stamped_row 0) (option_to_list row) ≡ option_to_list (option_map (stamped_row 0) row)
map_one None = refl
map_one (Some row) = refl

pub bare_with : (n : List ℕ) (row : Option CutRow) (old : Cut)
    → stamped 0 (cut_with n row old) ≡ cut_with n (option_map (stamped_row 0) row) (stamped 0 old)
bare_with n row old =
    let mark = stamped_row 0 in
    let front = λ (r : CutRow). is_before r.name n in
    let back = λ (r : CutRow). is_before n r.name in
    ap (λ rows. record old { rows = rows })
    (map-append mark (filter front old.rows) (option_to_list row ++ filter back old.rows)
    ∙ ap (λ rs. map mark (filter front old.rows) ++ rs) (map-append mark (option_to_list row) (filter back old.rows))
    ∙ rw (sym (filter_mapped mark front front (λ r. refl) old.rows), sym (filter_mapped mark back back (λ r. refl) old.rows), map_one row) refl)

-- the section of a cut, and what its tables say of it
pub located : (tables : Tables) (name : List ℕ) (old : Cut) (found : Option Section) → find (λ (s : Section). is_same s.name name) tables.sections ≡ found
    → option_map (section_cut tables) found ≡ Some (stamped 0 old)
    → (find (λ (s : Section). is_same s.name name) tables.sections ≡ Some old.section) × (section_cut tables old.section ≡ stamped 0 old)
located tables name old None e is = absurd (cc)
located tables name old (Some s) e is =
    let same : section_cut tables s ≡ stamped 0 old = cc in
    let own : s ≡ old.section = ap (λ (c : Cut). c.section) same in
    (e ∙ ap Some own, subst (λ t. section_cut tables t ≡ stamped 0 old) own same)

pub cut_is : (tables : Tables) (name : List ℕ) (old : Cut) → cut_of tables name ≡ Some (stamped 0 old) → section_cut tables old.section ≡ stamped 0 old
cut_is tables name old is = (located tables name old (find (λ (s : Section). is_same s.name name) tables.sections) refl is).1

pub by_stair : (tables : Tables) (s : Section) (stamp : ℕ) (found : Option Run)
    → row_of_stair tables s stamp (option_map (λ run. stair_of (path_in tables run)) found) ≡ row_for tables s stamp found
by_stair tables s stamp None = refl
by_stair tables s stamp (Some run) = refl

name_found : (tables : Tables) (name : List ℕ) (found : Option Run) → find (λ (r : Run). is_same r.name name) tables.runs ≡ found
    → (s : Section) (stamp : ℕ) → IfSome (row_in tables s stamp found) (λ r. (r.name ≡ name) × (r.stamp ≡ stamp))
name_found tables name None e s stamp = tt
name_found tables name (Some run) e s stamp =
    let named = same_name run.name name (find_some (λ (r : Run). is_same r.name name) tables.runs run e).0 in
    by_test (is_member tables s run) refl named
  where
    by_test : (b : Bool) → b ≡ is_member tables s run → run.name ≡ name
        → IfSome (option_map (with_bound tables s run) (member_row s run.name stamp (section_uses tables s run))) (λ (r : CutRow). (r.name ≡ name) × (r.stamp ≡ stamp))
    by_test true h named = rw (sym h) (named, refl)
    by_test false h named = rw (sym h) tt

-- the run of a name, if it is found
pub named_is : (tables : Tables) (name : List ℕ) (run : Run) → find (λ (r : Run). is_same r.name name) tables.runs ≡ Some run → run_named tables name ≡ run
named_is tables name run e =
    get_or_from_slice_get tables.runs (number_of (λ (r : Run). r.name) tables.runs name) run no_run
    (sym (find_at (λ (r : Run). is_same r.name name) tables.runs) ∙ e)

joined_in : (tables : Tables) (name : List ℕ) (found : Option Run) → find (λ (r : Run). is_same r.name name) tables.runs ≡ found → (s : Section) (stamp : ℕ)
    → option_map (with_bound tables s (run_named tables name)) (row_for tables s stamp found) ≡ row_in tables s stamp found
joined_in tables name None e s stamp = refl
joined_in tables name (Some run) e s stamp =
    ap (λ r. option_map (with_bound tables s r) (member_row s run.name stamp (section_uses tables s run))) (named_is tables name run e)

pub uses_found : (tables : Tables) → IsSound tables → (name : List ℕ) (found : Option Run) → find (λ (r : Run). is_same r.name name) tables.runs ≡ found
    → IfSome (option_map (λ run. stair_of (path_in tables run)) found) (λ (s : Stair). All (λ (u : Use). u.block < length tables.blocks) s.uses)
uses_found tables sound name None e = tt
uses_found tables sound name (Some run) e =
    (find_some (λ (r : Run). is_same r.name name) tables.runs run e).1
    (λ (r : Run). All (λ (u : Use). u.block < length tables.blocks) (stairway (path_in tables r)))
    (λ k d l. subst (λ (r : Run). All (λ (u : Use). u.block < length tables.blocks) (stairway (path_in tables r))) (get_or_default tables.runs k no_run d l) (used_there tables sound k l))

-- what becomes of a stored cut by an edit that changes the row of one name
module _ {stored : StoredCut} (is : IsStored stored) (name : List ℕ) where
  abbrev earlier : Tables
  earlier = stored.both.before.now

  abbrev later : Tables
  later = stored.both.after.now

  abbrev section : List ℕ
  section = stored.section.now

  abbrev old : Cut
  old = stored.cut.now

  abbrev found_run : Option Run
  found_run = find (λ (r : Run). is_same r.name name) later.runs

  module _ (sections : later.sections ≡ earlier.sections) (row : Option CutRow) (row_is : row ≡ row_in later old.section stored.number found_run) (later_is : section_cut later old.section ≡ cut_with name (row_in later old.section 0 found_run) (section_cut earlier old.section)) where
    row_named : IfSome row (λ r. (r.name ≡ name) × (r.stamp ≡ stored.number))
    row_named = subst (λ o. IfSome o (λ (r : CutRow). (r.name ≡ name) × (r.stamp ≡ stored.number))) (sym row_is)
        (name_found later name found_run refl old.section stored.number)

    cut_later_is : cut_of later section ≡ Some (stamped 0 (cut_with name row old))
    cut_later_is =
        let here = located earlier section old (find (λ (s : Section). is_same s.name section) earlier.sections) refl is.is in
        ap (λ ss. option_map (section_cut later) (find (λ (s : Section). is_same s.name section) ss)) sections
        ∙ ap (option_map (section_cut later)) here.0
        ∙ ap Some
        (later_is
        ∙ ap (cut_with name (row_in later old.section 0 found_run)) here.1
        ∙ ap (λ r. cut_with name r (stamped 0 old)) (sym (ap (option_map (stamped_row 0)) row_is ∙ bare_row_in later old.section stored.number found_run))
        ∙ sym (bare_with name row old))

    pub row_changes : (own : Option CutRow) (at : ℕ) → IsReached old.rows name at → IsOwn old.rows name at own
        → (result : CutChange) → IsPut at own row result → IsChangeOfStored stored result
    row_changes own at reached own_is result put =
        subst (λ v. IsChange v (cut_of later section) stored.number (Some old) result) (sym is.is)
        (subst (λ v. IsChange (Some (stamped 0 old)) v stored.number (Some old) result) (sym cut_later_is)
        (put_is old name at stored.number (sound_cut_of earlier is.earlier_sound section old is.is) reached own row result own_is row_named
        (sound_cut_of later is.later_sound section (cut_with name row old) cut_later_is) put))

  -- by an edit of one run, where the same connections bind
  module _ (its : Option Stair) (one : IsOneRun earlier later name its) (bare row : Option CutRow) (bare_is : bare ≡ row_of_stair later old.section stored.number its) (row_is : row ≡ option_map (with_bound later old.section (run_named later name)) bare) (binding : binding_connections later old.section ≡ binding_connections earlier old.section) where
    pub run_changes : (own : Option CutRow) (at : ℕ) → IsReached old.rows name at → IsOwn old.rows name at own
        → (result : CutChange) → IsPut at own row result → IsChangeOfStored stored result
    run_changes =
        row_changes (ap (λ (t : Tables). t.sections) one.others) row
        (row_is
        ∙ ap (option_map (with_bound later old.section (run_named later name)))
        (bare_is ∙ ap (row_of_stair later old.section stored.number) one.stair ∙ by_stair later old.section stored.number found_run)
        ∙ joined_in later name found_run refl old.section stored.number)
        (cut_later earlier later old.section name its one is.later_sound.runs.names binding)

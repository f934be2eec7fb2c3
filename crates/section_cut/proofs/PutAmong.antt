-- The rows of a cut with the one of a run that an edit puts, changes or drops: those of the members after the edit.
use Rattle.std.proofs.Common.{◌≡◌, ℕ, zero, suc, Bool, true, false, not, ltb, List, [], ◌++◌, length, get_or, Option, Some, None, refl, sym, ap, ◌∙◌, subst, inl, inr, arith}
use Rattle.std.specs.Prelude.{All, AllPairs, find, option_map, IfSome}
use Rattle.std.specs.Option.{option_or, option_to_list}
use Rattle.std.proofs.lemmas.Bool.{cases_Bool, both_ways, false_from_ne_true}
use Rattle.std.proofs.lemmas.List.{append-nil}
use Rattle.std.proofs.lemmas.List.Elements.{All-append, All-filter, filter_passes}
use Rattle.std.proofs.lemmas.List.Folds.{find-append, list_any_at}
use Rattle.std.proofs.lemmas.List.Kept.{AllPairs-filter}
use Rattle.rail_model.specs.declared.items.Run.{Run}
use Rattle.rail_model.specs.declared.items.Section.{Section}
use Rattle.rail_model.specs.declared.stair.Stair.{Stair}
use Rattle.rail_model.specs.declared.stair.Use.{Use}
use Rattle.rail_model.specs.declared.tables.Tables.{Tables}
use Rattle.rail_model.specs.Name.{is_before, is_same, IsBefore, NamesRise}
use Rattle.rail_model.specs.Tables.{no_run, number_of, run_at}
use Rattle.rail_model.proofs.Lists.{AllPairs-append, find_none}
use Rattle.rail_model.proofs.NameOrder.{same_name, is_same-from, is_same-before, is_same-after, IsBefore-from, IsBefore-trans}
use Rattle.line_tables.proofs.Found.{find_some}
use Rattle.plan_model.specs.declared.cut.CutRow.{CutRow}
use Rattle.plan_model.specs.declared.cut.Cut.{Cut}
use Rattle.plan_model.specs.Cut.{AreBlocksFirst, section_uses, is_member}
use Rattle.section_cut.specs.Connected.{block_part}
use Rattle.section_cut.specs.Members.{enters, member_row, row_with}
use Rattle.section_cut.specs.OneRun.{before, behind, with_one, IsOneRun, row_of_stair}
use Rattle.section_cut.specs.RowsAfter.{on_blocks, TellsMembers, AreOfMembers}
use Rattle.section_cut.specs.declared.cut_changes.StoredCut.{StoredCut}
use Rattle.section_cut.specs.Stored.{IsStored}
use Rattle.section_cut.proofs.Around.{filter_apart, filter_twice, split}
use Rattle.section_cut.proofs.JoinedRun.{other_there, other_run}
use Rattle.section_cut.proofs.Known.{run_there}
use Rattle.section_cut.proofs.OneRun.{row_for, by_stair, named_is}
use Rattle.section_cut.proofs.Rows.{found_at}
use Rattle.section_cut.proofs.RowsKept.{tells}
use Rattle.section_cut.proofs.Stored.{sound_stored, stored_rows}

abbrev name_of : CutRow → List ℕ
name_of r = r.name

-- ---- rows with one of a name, or without one

module _ (rows : List CutRow) (n : List ℕ) (rise : NamesRise name_of rows) (one : Option CutRow) (named : IfSome one (λ r. r.name ≡ n)) where
  abbrev front : List CutRow
  front = before name_of n rows

  abbrev back : List CutRow
  back = behind name_of n rows

  front_before : All (λ r. IsBefore r.name n) front
  front_before k d l = IsBefore-from (get_or front k d).name n (filter_passes (λ (r : CutRow). is_before r.name n) rows k d l)

  back_after : All (λ r. IsBefore n r.name) back
  back_after k d l = IsBefore-from n (get_or back k d).name (filter_passes (λ (r : CutRow). is_before n r.name) rows k d l)

  -- what holds of each row holds of them
  all_with : (P : CutRow → Type 0) → All P rows → IfSome one P → All P (with_one name_of n one rows)
  all_with P all own =
      All-append P front (option_to_list one ++ back) (All-filter (λ (r : CutRow). is_before r.name n) P rows all)
      (All-append P (option_to_list one) back (single one own) (All-filter (λ (r : CutRow). is_before n r.name) P rows all))
    where
      single : (o : Option CutRow) → IfSome o P → All P (option_to_list o)
      single None own k d l = absurd (omega (arith, l))
      single (Some r) own zero d l = own
      single (Some r) own (suc k) d l = absurd (omega (arith, l))

  -- their names rise
  rise_with : NamesRise name_of (with_one name_of n one rows)
  rise_with =
      AllPairs-append Rise front (option_to_list one ++ back) (AllPairs-filter Rise (λ (r : CutRow). is_before r.name n) rows rise)
      (AllPairs-append Rise (option_to_list one) back (alone one) (AllPairs-filter Rise (λ (r : CutRow). is_before n r.name) rows rise) (then one named))
      (λ k d l.
      let x = get_or front k d in
      All-append (Rise x) (option_to_list one) back (own_after x (front_before k d l) one named)
      (λ j e m. IsBefore-trans x.name n (get_or back j e).name (front_before k d l) (back_after j e m)))
    where
      Rise : CutRow → CutRow → Type 0
      Rise a b = IsBefore a.name b.name

      alone : (o : Option CutRow) → AllPairs Rise (option_to_list o)
      alone None i j d lt l = absurd (omega (arith, l))
      alone (Some r) i j d lt l = absurd (omega (arith, lt, l))

      then : (o : Option CutRow) → IfSome o (λ r. r.name ≡ n) → All (λ x. All (Rise x) back) (option_to_list o)
      then None own k d l = absurd (omega (arith, l))
      then (Some r) own zero d l = λ j e m. subst (λ a. IsBefore a (get_or back j e).name) (sym own) (back_after j e m)
      then (Some r) own (suc k) d l = absurd (omega (arith, l))

      own_after : (x : CutRow) → IsBefore x.name n → (o : Option CutRow) → IfSome o (λ r. r.name ≡ n) → All (Rise x) (option_to_list o)
      own_after x first None own k d l = absurd (omega (arith, l))
      own_after x first (Some r) own zero d l = subst (λ a. IsBefore x.name a) (sym own) first
      own_after x first (Some r) own (suc k) d l = absurd (omega (arith, l))

  -- the one of the name is found
  own_found : find (λ r. is_same r.name n) (with_one name_of n one rows) ≡ one
  own_found =
      find-append p front (option_to_list one ++ back)
      ∙ ap (λ o. option_or o (find p (option_to_list one ++ back))) (find_none p front (λ k d l. is_same-before (get_or front k d).name n (front_before k d l)))
      ∙ by_one one named
    where
      p : CutRow → Bool
      p r = is_same r.name n

      by_one : (o : Option CutRow) → IfSome o (λ r. r.name ≡ n) → find p (option_to_list o ++ back) ≡ o
      by_one None own = find_none p back (λ k d l. is_same-after n (get_or back k d).name (back_after k d l))
      by_one (Some r) own = rw (is_same-from r.name n own) refl

  -- and another as before
  other_found : (m : List ℕ) → (n ≡ m → ⊥) → find (λ r. is_same r.name m) (with_one name_of n one rows) ≡ find (λ r. is_same r.name m) rows
  other_found m other =
      let own = find (λ (r : CutRow). is_same r.name n) rows in
      find-append p front (option_to_list one ++ back)
      ∙ ap (option_or (find p front)) (passed one named ∙ sym (passed own (own_named own refl)))
      ∙ sym (find-append p front (option_to_list own ++ back)) ∙ ap (find p) (sym (split name_of n rows rise))
    where
      p : CutRow → Bool
      p r = is_same r.name m

      passed : (o : Option CutRow) → IfSome o (λ r. r.name ≡ n) → find p (option_to_list o ++ back) ≡ find p back
      passed None own = refl
      passed (Some r) own =
          let out : is_same r.name m ≡ false = false_from_ne_true (is_same r.name m) (λ h. other (sym own ∙ same_name r.name m h)) in
          rw out refl

      own_named : (o : Option CutRow) → find (λ (r : CutRow). is_same r.name n) rows ≡ o → IfSome o (λ r. r.name ≡ n)
      own_named None e = tt
      own_named (Some r) e = same_name r.name n (find_some (λ (x : CutRow). is_same x.name n) rows r e).0

-- ---- a member's row by its uses of blocks

module _ (tables : Tables) (s : Section) (run : Run) where
  abbrev uses : List Use
  uses = section_uses tables s run

  part_same : block_part s uses ≡ uses
  part_same = filter_twice (λ (u : Use). ltb u.block (length s.blocks)) _

  first_is : AreBlocksFirst (length s.blocks) uses
  first_is =
      let p = λ (u : Use). ltb u.block (length s.blocks) in
      sym (append-nil uses) ∙ ap (λ us. us ++ []) (sym part_same) ∙ ap (λ us. block_part s uses ++ us) (sym (filter_apart (λ (u : Use). not (p u)) p (λ u h. ap not h) _))

  made_first : (stamp : ℕ) (b : Bool) → b ≡ enters s uses → IfSome (member_row s run.name stamp uses) (λ r. AreBlocksFirst (length s.blocks) r.uses)
  made_first stamp true e = rw (sym e) first_is
  made_first stamp false e = rw (sym e) tt

  made_named : (stamp : ℕ) (b : Bool) → b ≡ enters s uses → IfSome (member_row s run.name stamp uses) (λ r. r.name ≡ run.name)
  made_named stamp true e = rw (sym e) refl
  made_named stamp false e = rw (sym e) tt

  made_on_blocks : (number stamp : ℕ) (b : Bool) → b ≡ enters s uses
      → option_map (on_blocks s stamp) (member_row s run.name number uses) ≡ member_row s run.name stamp uses
  made_on_blocks number stamp true e = rw (sym e) (ap (λ us. Some (record (row_with run.name stamp uses) { uses = us })) part_same)
  made_on_blocks number stamp false e = rw (sym e) refl

-- ---- the rows after an edit of one run

module _ {stored : StoredCut} (is : IsStored stored) (name : List ℕ) (its : Option Stair) (one : IsOneRun stored.both.before.now stored.both.after.now name its) (bare : Option CutRow) (bare_is : bare ≡ row_of_stair stored.both.after.now stored.cut.now.section stored.number its) where
  abbrev earlier : Tables
  earlier = stored.both.before.now

  abbrev later : Tables
  later = stored.both.after.now

  abbrev old : Cut
  old = stored.cut.now

  abbrev s : Section
  s = old.section

  abbrev found : Option Run
  found = find (λ (r : Run). is_same r.name name) later.runs

  abbrev rows : List CutRow
  rows = with_one name_of name bare old.rows

  rise : NamesRise name_of old.rows
  rise = (sound_stored is).names_rise

  row_is : bare ≡ row_for later s stored.number found
  row_is = bare_is ∙ ap (row_of_stair later s stored.number) one.stair ∙ by_stair later s stored.number found

  bare_named : IfSome bare (λ r. r.name ≡ name)
  bare_named = subst (λ o. IfSome o (λ (r : CutRow). r.name ≡ name)) (sym row_is) (by_run found refl)
    where
      by_run : (o : Option Run) → find (λ (r : Run). is_same r.name name) later.runs ≡ o → IfSome (row_for later s stored.number o) (λ r. r.name ≡ name)
      by_run None e = tt
      by_run (Some run) e =
          subst (λ m. IfSome (row_for later s stored.number (Some run)) (λ (r : CutRow). r.name ≡ m))
          (same_name run.name name (find_some (λ (r : Run). is_same r.name name) later.runs run e).0)
          (made_named later s run stored.number (is_member later s run) refl)

  bare_first : IfSome bare (λ r. AreBlocksFirst (length s.blocks) r.uses)
  bare_first = subst (λ o. IfSome o (λ (r : CutRow). AreBlocksFirst (length s.blocks) r.uses)) (sym row_is) (by_run found)
    where
      by_run : (o : Option Run) → IfSome (row_for later s stored.number o) (λ r. AreBlocksFirst (length s.blocks) r.uses)
      by_run None = tt
      by_run (Some run) = made_first later s run stored.number (is_member later s run) refl

  put_tells : TellsMembers later s rows
  put_tells stamp n below =
      let run = run_at later n in
      let here = found_at (λ (r : Run). r.name) later.runs n no_run is.later_sound.runs.names below in
      elim (cases_Bool (is_same run.name name)) [
        | inl e ↦
            let same = same_name run.name name e in
            let own : found ≡ Some run = subst (λ m. find (λ (r : Run). is_same r.name m) later.runs ≡ Some run) same here in
            subst (λ m. option_map (on_blocks s stamp) (find (λ (r : CutRow). is_same r.name m) rows) ≡ member_row s run.name stamp (section_uses later s run)) (sym same)
            (ap (option_map (on_blocks s stamp)) (own_found old.rows name rise bare bare_named ∙ row_is ∙ ap (row_for later s stored.number) own)
            ∙ made_on_blocks later s run stored.number stamp (is_member later s run) refl)
        | inr e ↦
            let m = run.name in
            let other : name ≡ m → ⊥ = λ h. both_ways (is_same m name) e (is_same-from m name (sym h)) in
            let there = other_there is name its one m other (list_any_at (λ (r : Run). is_same r.name m) later.runs n no_run below (is_same-from m m refl)) in
            let k = number_of (λ (r : Run). r.name) earlier.runs m in
            let same : run_at earlier k ≡ run = sym (other_run is name its one m other) ∙ named_is later m run here in
            let before = tells earlier is.earlier_sound s old.rows (stored_rows is) stamp k (run_there earlier is.earlier_sound m there) in
            ap (option_map (on_blocks s stamp)) (other_found old.rows name rise bare bare_named m other)
            ∙ subst (λ (r : Run). option_map (on_blocks s stamp) (find (λ (x : CutRow). is_same x.name r.name) old.rows) ≡ member_row s r.name stamp (section_uses earlier s r)) same before
            ∙ ap (λ (t : Tables). member_row s m stamp (section_uses t s run)) (sym one.others)
      ]

  pub put_of_members : AreOfMembers later s rows
  put_of_members = record {
    rise = rise_with old.rows name rise bare bare_named;
    first = all_with old.rows name rise bare bare_named (λ r. AreBlocksFirst (length s.blocks) r.uses) (λ k d l. ((sound_stored is).each k d l).blocks_first) bare_first;
    each = put_tells;
  }

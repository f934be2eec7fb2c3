-- The rows of a section's cut after an edit that changes the paths of some runs.
use Rattle.std.proofs.Common.{◌≡◌, ℕ, ℤ, zero, suc, ◌+◌, ◌<◌, ◌≤◌, Bool, true, false, cond, ltb, List, [], ◌∷◌, ◌++◌, length, map, get_or, take, Option, Some, None, refl, sym, ap, ◌∙◌, subst, inl, inr, arith}
use Rattle.std.specs.Prelude.{All, filter, find, option_map, IfSome}
use Rattle.std.specs.List.{filter_map, enumerate_from, list_any}
use Rattle.std.specs.Option.{option_to_list}
use Rattle.std.proofs.lemmas.Bool.{cases_Bool, cases_lt, both_ways, or_parts}
use Rattle.std.proofs.Math.ListN.{get_or-append}
use Rattle.std.proofs.lemmas.List.{append-nil, map-append, get_or_push, length-append, length-map, get_or-map, take_all, get_or_default}
use Rattle.std.proofs.lemmas.List.Elements.{All-push, filter_more}
use Rattle.rail_model.specs.declared.items.Run.{Run}
use Rattle.rail_model.specs.declared.items.Section.{Section}
use Rattle.rail_model.specs.declared.items.Connection.{Connection}
use Rattle.rail_model.specs.declared.stair.Stair.{Stair}
use Rattle.rail_model.specs.declared.stair.Use.{Use}
use Rattle.rail_model.specs.declared.path.Path.{Path}
use Rattle.rail_model.specs.declared.tables.Tables.{Tables}
use Rattle.rail_model.specs.Name.{is_same}
use Rattle.rail_model.specs.Blocking.{stairway}
use Rattle.rail_model.specs.Tables.{no_run, number_of, run_at, block_name, path_in, last_arrival}
use Rattle.rail_model.specs.Rules.{IsSound}
use Rattle.rail_model.proofs.Lists.{map_same}
use Rattle.plan_model.specs.declared.cut.CutRow.{CutRow}
use Rattle.plan_model.specs.declared.cut.Cut.{Cut}
use Rattle.plan_model.specs.Cut.{least, stamped_row, stamped, AreBlocksFirst, use_in_section, section_uses, entry_of, is_member, binds, binding_connections, connection_use, uses_of_connections, row_of, section_cut, cut_of}
use Rattle.section_cut.specs.Connected.{joins, entry_in, block_part, with_rest}
use Rattle.section_cut.specs.Members.{enters, member_row, row_with}
use Rattle.section_cut.specs.Positions.{uses_in}
use Rattle.section_cut.specs.declared.cut_changes.CutChange.TheVariants as change
use Rattle.section_cut.specs.declared.cut_changes.StoredCut.{StoredCut}
use Rattle.section_cut.specs.Stored.{IsStored, IsChangeOfStored}
use Rattle.section_cut.specs.RowsAfter.{on_blocks, member_after, AreBeside, AllStay, IsKept, AreRowsAfter, IsOwnOf}
use Rattle.section_cut.specs.Stamps.{AreBefore, IsReached, IsStamped, IsStampedBy}
use Rattle.section_cut.specs.ReachedRuns.{IsStairIfReached, AreReachedRuns, IsOwnRow, IsRowAfter, row_after, uses_if_there}
use Rattle.section_cut.specs.Wanted.{IsStairOf}
use Rattle.section_cut.specs.Spans.{AreSpans, IsLookedAt, IsSpan, blocks_of, part_of}
use Rattle.section_cut.specs.declared.spans.BlockRange.{BlockRange}
use Rattle.section_cut.proofs.BindsBy.{use_by, entry_same}
use Rattle.section_cut.proofs.MemberRows.{uses_by_positions}
use Rattle.section_cut.proofs.OldRows.{row_if, row_at_name, old_row}
use Rattle.section_cut.proofs.OneRun.{map_one}
use Rattle.section_cut.proofs.Stored.{stored_names, stored_rows, stored_section}
use Rattle.section_cut.proofs.Parts.{part_in, part_all}
use Rattle.section_cut.proofs.RowsKept.{tells}
use Rattle.section_cut.proofs.Rows.{before_later}
use Rattle.section_cut.proofs.SameRuns.{arrival_same, binding_same, row_same, cuts_same}
use Rattle.section_cut.proofs.SameValue.{sound_cut_of}
use Rattle.section_cut.proofs.SoundRow.{blocks_are, others_are, sound_row}

-- a run of the same path has the same uses, where the blocks have the same names
pub uses_by_path : (earlier later : Tables) (s : Section) (run : Run) → ((block : ℕ) → block_name later block ≡ block_name earlier block)
    → path_in later run ≡ path_in earlier run → section_uses later s run ≡ section_uses earlier s run
uses_by_path earlier later s run names same =
    let placed : Use → List ℕ → Use = λ u n. record u { block = number_of (λ m. m) s.blocks n } in
    ap (filter (λ (u : Use). ltb u.block (length s.blocks)))
    (map_same (use_in_section later s) (use_in_section earlier s) (stairway (path_in later run))
    (λ k d l. let u = get_or (stairway (path_in later run)) k d in ap (placed u) (names u.block))
    ∙ ap (λ (p : Path). map (use_in_section earlier s) (stairway p)) same)

-- ---- the rows with the next run's

-- a reached stair uses blocks of the tables
reached_uses : (earlier later : Tables) (block : Option ℕ) (run : Run) (stair : Option Stair) → IsStairIfReached earlier later block run stair
    → IfSome stair (λ (s : Stair). All (λ (u : Use). u.block < length later.blocks) s.uses)
reached_uses earlier later block run None own = tt
reached_uses earlier later block run (Some stair) own = own.there

-- the stairs with the next run's
pub stairs_more : (earlier later : Tables) (block : Option ℕ) (stairs more : List (Option Stair)) (run : ℕ) (stair : Option Stair) → more ≡ stairs ++ stair ∷ []
    → (length stairs ≡ run) × ((n : ℕ) (d : Option Stair) → n < run → IsStairIfReached earlier later block (run_at later n) (get_or stairs n d))
    → IsStairIfReached earlier later block (run_at later run) stair
    → (length more ≡ run + 1) × ((n : ℕ) (d : Option Stair) → n < run + 1 → IsStairIfReached earlier later block (run_at later n) (get_or more n d))
stairs_more earlier later block stairs more run stair is so_far own =
    let long = length-append stairs (stair ∷ []) in (
      omega (arith, ap length is, long, so_far.0),
      λ n d below.
          let Here : ℕ → Option Stair → Type 0 = λ k o. IsStairIfReached earlier later block (run_at later k) o in
          subst (λ (os : List (Option Stair)). Here n (get_or os n d)) (sym is)
          (elim (cases_lt n run) [
            | inl lt ↦ subst (Here n) (sym (get_or-append stairs (stair ∷ []) d n (omega (arith, lt, so_far.0)))) (so_far.1 n d lt)
            | inr ge ↦
                let last : n ≡ run = omega (arith, ge, below) in
                subst (Here n) (sym (get_or_push stairs stair d n (omega (arith, so_far.0, last)))) (subst (λ k. Here k stair) (sym last) own)
          ]),
    )

-- a member's row has its entry
entered : (s : Section) (name : List ℕ) (uses : List Use) (own : Option CutRow) (b : Bool) → b ≡ enters s uses
    → option_map (λ (r : CutRow). r.entry) (option_map (with_rest s own) (member_row s name 0 uses)) ≡ cond b (Some (least (map (λ (u : Use). u.start) uses))) None
entered s name uses None true e = rw (sym e) refl
entered s name uses (Some row) true e = rw (sym e) refl
entered s name uses own false e = rw (sym e) refl

unmarked : (o : Option CutRow) → option_map (λ (r : CutRow). r.entry) (option_map (stamped_row 0) o) ≡ option_map (λ (r : CutRow). r.entry) o
unmarked None = refl
unmarked (Some r) = refl

-- a run that has no connection has no uses of connections
none_joined : (tables : Tables) (s : Section) (run : Run) (p : Connection → Bool) (n : ℕ) (some : List Connection) → list_any (joins run.name) some ≡ false
    → filter_map (connection_use tables s run) (enumerate_from n (filter p some)) ≡ []
none_joined tables s run p n [] none = refl
none_joined tables s run p n (c ∷ some) none =
    let parts = or_parts (joins run.name c) (list_any (joins run.name) some) none in
    let apart = or_parts (is_same c.first run.name) (is_same c.second run.name) parts.0 in
    elim (cases_Bool (p c)) [
      | inl e ↦ rw e (rw (apart.0, apart.1) (none_joined tables s run p (n + 1) some parts.1))
      | inr e ↦ rw e (none_joined tables s run p n some parts.1)
    ]

-- the rows with the next run's
rows_next : (tables : Tables) (s : Section) (runs : List Run) (n : ℕ) → n < length runs
    → map (row_of tables s) (filter (is_member tables s) (take (n + 1) runs))
    ≡ map (row_of tables s) (filter (is_member tables s) (take n runs)) ++ option_to_list (row_if tables s (get_or runs n no_run))
rows_next tables s runs n l =
    let run = get_or runs n no_run in
    ap (map (row_of tables s)) (filter_more (is_member tables s) runs n no_run l)
    ∙ map-append (row_of tables s) (filter (is_member tables s) (take n runs)) (cond (is_member tables s run) (run ∷ []) [])
    ∙ ap (λ t. map (row_of tables s) (filter (is_member tables s) (take n runs)) ++ t) (one (is_member tables s run) run)
  where
    one : (b : Bool) (run : Run) → map (row_of tables s) (cond b (run ∷ []) []) ≡ option_to_list (cond b (Some (row_of tables s run)) None)
    one true run = refl
    one false run = refl

-- the first rows are the same, where those of the first runs are
rows_so_far : (s : Section) (later earlier : Tables) (runs : List Run) → ((n : ℕ) → n < length runs → row_if later s (get_or runs n no_run) ≡ row_if earlier s (get_or runs n no_run))
    → (k : ℕ) → k ≤ length runs → map (row_of later s) (filter (is_member later s) (take k runs)) ≡ map (row_of earlier s) (filter (is_member earlier s) (take k runs))
rows_so_far s later earlier runs each zero le = refl
rows_so_far s later earlier runs each (suc k) le =
    let e : suc k ≡ k + 1 = omega arith in
    rw e
    (rows_next later s runs k (omega (arith, le))
    ∙ ap (λ rs. rs ++ option_to_list (row_if later s (get_or runs k no_run))) (rows_so_far s later earlier runs each k (omega (arith, le)))
    ∙ ap (λ o. map (row_of earlier s) (filter (is_member earlier s) (take k runs)) ++ option_to_list o) (each k (omega (arith, le)))
    ∙ sym (rows_next earlier s runs k (omega (arith, le))))

module _ {earlier later : Tables} {stairs : List (Option Stair)} {s : Section} {positions : List ℕ} {old : List CutRow} (beside : AreBeside earlier later stairs s positions old) where
  -- where all runs are kept, the same connections bind
  pub kept_binding : ((n : ℕ) → n < length earlier.runs → IsKept earlier later s n) → binding_connections later s ≡ binding_connections earlier s
  kept_binding kept =
      binding_same earlier later beside.earlier_sound beside.later_sound beside.reached.same.runs beside.reached.same.connections s
      (λ n l joined. elim (kept n l) [
        | inl none ↦ absurd (both_ways (list_any (joins (run_at earlier n).name) earlier.connections) none joined)
        | inr entries ↦ entries
      ])

  pub before_next : (n at : ℕ) → IsReached old (run_at later n).name at → n + 1 < length later.runs → AreBefore old (run_at later (n + 1)).name at
  before_next n at reached below =
      before_later old (run_at later n).name at beside.rise reached (run_at later (n + 1)).name
      (beside.later_sound.runs.names n (n + 1) no_run (omega arith) below)

  abbrev block : Option ℕ
  block = beside.block

  module _ (n : ℕ) (below : n < length later.runs) (stair : Option Stair) (its : stair ≡ get_or stairs n stair) where
    reached_is : IsStairIfReached earlier later block (run_at later n) stair
    reached_is = subst (IsStairIfReached earlier later block (run_at later n)) (sym its) (beside.reached.each n stair below)

    pub stair_uses : IfSome stair (λ (t : Stair). All (λ (u : Use). u.block < length positions) t.uses)
    stair_uses = subst (λ k. IfSome stair (λ (t : Stair). All (λ (u : Use). u.block < k) t.uses)) (sym beside.table.count)
        (reached_uses earlier later block (run_at later n) stair reached_is)

    -- the uses that are looked at
    pub uses_looked_at : (spans : List (Option BlockRange)) → AreSpans positions (length s.blocks) (map uses_if_there stairs) spans → (uses : List Use)
        → uses ≡ part_of (get_or spans n None) (uses_if_there (get_or stairs n None)) → IfSome stair (IsLookedAt positions (length s.blocks) uses)
    uses_looked_at spans are uses is =
        by_stair stair stair_uses (its ∙ get_or_default stairs n stair None (omega (arith, below, beside.reached.count)))
      where
        by_stair : (o : Option Stair) → IfSome o (λ (t : Stair). All (λ (u : Use). u.block < length positions) t.uses) → o ≡ get_or stairs n None
            → IfSome o (IsLookedAt positions (length s.blocks) uses)
        by_stair None whole at = tt
        by_stair (Some t) whole at =
            let blocks = length s.blocks in
            let span = get_or spans n None in
            let below_stairs : n < length stairs = omega (arith, below, beside.reached.count) in
            let own : uses ≡ part_of span t.uses = is ∙ ap (λ o. part_of span (uses_if_there o)) (sym at) in
            let fits = subst (λ us. IfSome span (IsSpan positions blocks (blocks_of us)))
            (get_or-map uses_if_there stairs n None [] below_stairs ∙ ap uses_if_there (sym at))
            (are n (omega (arith, below_stairs, length-map stairs uses_if_there))) in
            record {
              whole = whole;
              there = subst (All (λ (u : Use). u.block < length positions)) (sym own) (part_all (λ (u : Use). u.block < length positions) span t.uses whole);
              same = ap (uses_in positions blocks) own ∙ part_in positions blocks span t.uses fits;
            }

    abbrev run : Run
    run = run_at earlier n

    same_run : run_at later n ≡ run
    same_run = ap (λ runs. get_or runs n no_run) beside.reached.same.runs

    below_earlier : n < length earlier.runs
    below_earlier = omega (arith, below, ap length beside.reached.same.runs)

    -- the run's uses of blocks by its stair, or as before where that isn't reached
    by_table : (t : Stair) → IsStairOf later block (run_at later n) t → uses_in positions (length s.blocks) t.uses ≡ section_uses later s run
    by_table t is = uses_by_positions later s positions beside.table t.uses is.there ∙ is.uses s beside.touched ∙ ap (section_uses later s) same_run

    its_name : (t : Stair) → IsStairOf later block (run_at later n) t → t.run ≡ run.name
    its_name t is = is.name ∙ ap (λ (r : Run). r.name) same_run

    unreached : path_in later (run_at later n) ≡ path_in earlier (run_at later n) → section_uses later s run ≡ section_uses earlier s run
    unreached is =
        subst (λ (r : Run). section_uses later s r ≡ section_uses earlier s r) same_run
        (uses_by_path earlier later s (run_at later n) beside.reached.same.names is)

    module _ (own : Option CutRow) (found : IsOwnOf later n old own) where
      own_is : option_map (stamped_row 0) own ≡ row_if earlier s run
      own_is =
          ap (option_map (stamped_row 0)) (found ∙ ap (λ (r : Run). find (λ (o : CutRow). is_same o.name r.name) old) same_run)
          ∙ old_row earlier s beside.earlier_sound.runs.names old beside.rows n below_earlier

      own_row : (o : Option CutRow) (b : Bool) → b ≡ is_member earlier s run → option_map (stamped_row 0) o ≡ cond b (Some (row_of earlier s run)) None → IfSome o (IsOwnRow s run.name)
      own_row None b e is = tt
      own_row (Some row) false e is = absurd (cc)
      own_row (Some row) true e is =
          let same : stamped_row 0 row ≡ row_of earlier s run = cc in
          let blocks : block_part s row.uses ≡ section_uses earlier s run =
          ap (λ (r : CutRow). block_part s r.uses) same ∙ blocks_are earlier beside.earlier_sound s n below_earlier (sym e) in
          let member : member_row s run.name 0 (section_uses earlier s run)
          ≡ Some (record (row_of earlier s run) { uses = section_uses earlier s run }) = rw (sym e) refl in
          record {
            member = ap (member_row s run.name 0) blocks ∙ member
                ∙ ap (λ (r : CutRow). Some (record r { uses = section_uses earlier s run })) (sym same)
                ∙ ap (λ us. Some (record row { stamp = 0; uses = us })) (sym blocks);
            first = subst (λ (r : CutRow). AreBlocksFirst (length s.blocks) r.uses) (sym same) (sound_row earlier beside.earlier_sound s n below_earlier (sym e)).blocks_first;
          }

      -- the row before the edit is the stair's run's
      pub own_bare : IfSome stair (λ t. IfSome own (IsOwnRow s t.run))
      own_bare = by_stair stair reached_is (subst (λ (r : Run). IfSome own (IsOwnRow s r.name)) (sym same_run) (own_row own (is_member earlier s run) refl own_is))
        where
          by_stair : (o : Option Stair) → IsStairIfReached earlier later block (run_at later n) o → IfSome own (IsOwnRow s (run_at later n).name)
              → IfSome o (λ t. IfSome own (IsOwnRow s t.run))
          by_stair None is bare = tt
          by_stair (Some t) is bare = subst (λ m. IfSome own (IsOwnRow s m)) (sym is.name) bare

      pub own_blocks_first : IfSome own (λ (r : CutRow). AreBlocksFirst (length s.blocks) r.uses)
      own_blocks_first = by_row own (own_row own (is_member earlier s run) refl own_is)
        where
          by_row : (o : Option CutRow) → IfSome o (IsOwnRow s run.name) → IfSome o (λ (r : CutRow). AreBlocksFirst (length s.blocks) r.uses)
          by_row None is = tt
          by_row (Some row) is = is.first

      -- what is made of its uses of blocks alone is the member's
      pub member_is : (stamp : ℕ) → member_after s positions stair stamp own ≡ member_row s (run_at later n).name stamp (section_uses later s (run_at later n))
      member_is stamp = by_stair stair reached_is
        where
          by_stair : (o : Option Stair) → IsStairIfReached earlier later block (run_at later n) o
              → member_after s positions o stamp own ≡ member_row s (run_at later n).name stamp (section_uses later s (run_at later n))
          by_stair None is =
              ap (option_map (on_blocks s stamp)) (found ∙ ap (λ (r : Run). find (λ (o : CutRow). is_same o.name r.name) old) same_run)
              ∙ tells earlier beside.earlier_sound s old beside.rows stamp n below_earlier
              ∙ ap (member_row s run.name stamp) (sym (unreached is))
              ∙ ap (λ (r : Run). member_row s r.name stamp (section_uses later s r)) (sym same_run)
          by_stair (Some t) is =
              ap (λ m. member_row s m stamp (uses_in positions (length s.blocks) t.uses)) is.name
              ∙ ap (member_row s (run_at later n).name stamp) (by_table t is ∙ sym (ap (section_uses later s) same_run))

      entry_if : (b : Bool) → option_map (λ (r : CutRow). r.entry) (cond b (Some (row_of earlier s run)) None) ≡ cond b (Some (entry_of earlier s run)) None
      entry_if true = refl
      entry_if false = refl

      -- the row after it has the run's entry
      pub after_entry : option_map (λ (r : CutRow). r.entry) (row_after s positions stair (option_map (stamped_row 0) own)) ≡ entry_in later s run
      after_entry = by_stair stair reached_is
        where
          by_stair : (o : Option Stair) → IsStairIfReached earlier later block (run_at later n) o
              → option_map (λ (r : CutRow). r.entry) (row_after s positions o (option_map (stamped_row 0) own)) ≡ entry_in later s run
          by_stair None is =
              ap (option_map (λ (r : CutRow). r.entry)) own_is ∙ entry_if (is_member earlier s run) ∙ sym (entry_same earlier later s run (unreached is))
          by_stair (Some t) is =
              rw (its_name t is, by_table t is)
              (entered s run.name (section_uses later s run) (option_map (stamped_row 0) own) (is_member later s run) refl)

      -- and its name
      after_named : IfSome (row_after s positions stair (option_map (stamped_row 0) own)) (λ r. r.name ≡ run.name)
      after_named = by_stair stair reached_is
        where
          named_if : (b : Bool) → IfSome (cond b (Some (row_of earlier s run)) None) (λ (r : CutRow). r.name ≡ run.name)
          named_if true = refl
          named_if false = tt

          named_member : (uses : List Use) (o : Option CutRow) (b : Bool) → b ≡ enters s uses
              → IfSome (option_map (with_rest s o) (member_row s run.name 0 uses)) (λ (r : CutRow). r.name ≡ run.name)
          named_member uses None true e = rw (sym e) refl
          named_member uses (Some m) true e = rw (sym e) refl
          named_member uses o false e = rw (sym e) tt

          by_stair : (o : Option Stair) → IsStairIfReached earlier later block (run_at later n) o
              → IfSome (row_after s positions o (option_map (stamped_row 0) own)) (λ r. r.name ≡ run.name)
          by_stair None is = subst (λ o. IfSome o (λ (r : CutRow). r.name ≡ run.name)) (sym own_is) (named_if (is_member earlier s run))
          by_stair (Some t) is =
              let uses = uses_in positions (length s.blocks) t.uses in
              rw (its_name t is) (named_member uses (option_map (stamped_row 0) own) (enters s uses) refl)

      -- where that is the entry of the row before it, the run enters as before
      pub kept_by : option_map (λ (r : CutRow). r.entry) (row_after s positions stair (option_map (stamped_row 0) own)) ≡ option_map (λ (r : CutRow). r.entry) own
          → entry_in later s run ≡ entry_in earlier s run
      kept_by same =
          sym after_entry ∙ same ∙ sym (unmarked own) ∙ ap (option_map (λ (r : CutRow). r.entry)) own_is ∙ entry_if (is_member earlier s run)

      -- where it is kept, and the same connections bind, it is the run's
      module _ (kept : IsKept earlier later s n) (binding : binding_connections later s ≡ binding_connections earlier s) where
        -- uses of connections
        joined_same : entry_of later s run ≡ entry_of earlier s run → uses_of_connections later s run ≡ uses_of_connections earlier s run
        joined_same entry =
            let uses : ℤ → ℕ → List Connection → List Use = λ e last bs. filter_map (use_by run e last) (enumerate_from (length s.blocks) bs) in
            ap (λ e. uses e (last_arrival later run) (binding_connections later s)) entry
            ∙ ap (λ last. uses (entry_of earlier s run) last (binding_connections later s))
            (arrival_same earlier later beside.earlier_sound beside.later_sound beside.reached.same.runs beside.reached.same.connections n below_earlier)
            ∙ ap (uses (entry_of earlier s run) (last_arrival earlier run)) binding

        no_uses : (tables : Tables) → list_any (joins run.name) tables.connections ≡ false → uses_of_connections tables s run ≡ []
        no_uses tables none = none_joined tables s run (binds tables s) (length s.blocks) tables.connections none

        rest_is : (b : Bool) → b ≡ is_member earlier s run → is_member later s run ≡ true → (bare : CutRow)
            → with_rest s (cond b (Some (row_of earlier s run)) None) bare ≡ record bare { uses = bare.uses ++ uses_of_connections later s run }
        rest_is b e member bare = elim kept [
          | inl none ↦
              let after_none = no_uses later (ap (list_any (joins run.name)) beside.reached.same.connections ∙ none) in
              rw after_none (by_member b e none)
          | inr entries ↦ by_entry b e entries
        ]
          where
            by_member : (b : Bool) → b ≡ is_member earlier s run → list_any (joins run.name) earlier.connections ≡ false
                → with_rest s (cond b (Some (row_of earlier s run)) None) bare ≡ record bare { uses = bare.uses ++ [] }
            by_member true e none =
                ap (λ us. record bare { uses = bare.uses ++ us }) (others_are earlier beside.earlier_sound s n below_earlier (sym e) ∙ no_uses earlier none)
            by_member false e none = ap (λ us. record bare { uses = us }) (sym (append-nil bare.uses))

            by_entry : (b : Bool) → b ≡ is_member earlier s run → entry_in later s run ≡ entry_in earlier s run
                → with_rest s (cond b (Some (row_of earlier s run)) None) bare ≡ record bare { uses = bare.uses ++ uses_of_connections later s run }
            by_entry true e entries =
                let both : Some (entry_of later s run) ≡ Some (entry_of earlier s run) = rw (member, sym e) at entries in
                let entry : entry_of later s run ≡ entry_of earlier s run = cc in
                ap (λ us. record bare { uses = bare.uses ++ us }) (others_are earlier beside.earlier_sound s n below_earlier (sym e) ∙ sym (joined_same entry))
            by_entry false e entries =
                let both : Some (entry_of later s run) ≡ None = rw (member, sym e) at entries in
                absurd (cc)

        pub after_is : row_after s positions stair (option_map (stamped_row 0) own) ≡ row_if later s run
        after_is = by_stair stair reached_is
          where
            joined : (b : Bool) → b ≡ is_member later s run
                → option_map (with_rest s (row_if earlier s run)) (member_row s run.name 0 (section_uses later s run)) ≡ cond b (Some (row_of later s run)) None
            joined true e = rw (sym e) (ap Some (rest_is (is_member earlier s run) refl (sym e) (row_with run.name 0 (section_uses later s run))))
            joined false e = rw (sym e) refl

            by_stair : (o : Option Stair) → IsStairIfReached earlier later block (run_at later n) o → row_after s positions o (option_map (stamped_row 0) own) ≡ row_if later s run
            by_stair None is =
                let same = unreached is in
                own_is
                ∙ ap (λ b. cond b (Some (row_of earlier s run)) None) (sym (ap (enters s) same))
                ∙ ap (λ r. cond (is_member later s run) (Some r) None)
                (sym (row_same earlier later beside.earlier_sound beside.later_sound beside.reached.same.runs beside.reached.same.connections s binding n below_earlier same))
            by_stair (Some t) is =
                rw (its_name t is, by_table t is, own_is) (joined (is_member later s run) refl)

      -- the rows with the run's
      module _ (number : ℕ) (row : Option CutRow) (is : IsRowAfter (row_after s positions stair (option_map (stamped_row 0) own)) number own row) (rows : List CutRow) where
        pub rows_with : IsKept earlier later s n → binding_connections later s ≡ binding_connections earlier s
            → map (stamped_row 0) rows ≡ map (row_of later s) (filter (is_member later s) (take n earlier.runs))
            → map (stamped_row 0) (rows ++ option_to_list row) ≡ map (row_of later s) (filter (is_member later s) (take (n + 1) earlier.runs))
        rows_with kept binding so_far =
            map-append (stamped_row 0) rows (option_to_list row)
            ∙ ap (λ rs. rs ++ map (stamped_row 0) (option_to_list row)) so_far
            ∙ ap (λ rs. map (row_of later s) (filter (is_member later s) (take n earlier.runs)) ++ rs)
            (map_one row ∙ ap option_to_list (is.value ∙ after_is kept binding))
            ∙ sym (rows_next later s earlier.runs n below_earlier)

        pub kept_with : option_map (λ (r : CutRow). r.entry) row ≡ option_map (λ (r : CutRow). r.entry) own → entry_in later s run ≡ entry_in earlier s run
        kept_with same = kept_by (ap (option_map (λ (r : CutRow). r.entry)) (sym is.value) ∙ unmarked row ∙ same)

        pub stamps_with : All (IsStampedBy number old) rows → All (IsStampedBy number old) (rows ++ option_to_list row)
        stamps_with so_far = by_row row (subst (λ o. IfSome o (λ (r : CutRow). r.name ≡ run.name)) (sym is.value) after_named) is.stamp
          where
            by_row : (o : Option CutRow) → IfSome (option_map (stamped_row 0) o) (λ r. r.name ≡ run.name)
                → IfSome o (IsStamped number own) → All (IsStampedBy number old) (rows ++ option_to_list o)
            by_row None named stamp = rw (append-nil rows) so_far
            by_row (Some r) named stamp =
                All-push (IsStampedBy number old) rows r so_far
                (subst (λ o. IsStamped number o r) (found ∙ ap (λ m. find (λ (x : CutRow). is_same x.name m) old) (ap (λ (r : Run). r.name) same_run ∙ sym named)) stamp)

-- ---- the cut after the edit

module _ {stored : StoredCut} (is : IsStored stored) {stairs : List (Option Stair)} {positions : List ℕ} (beside : AreBeside stored.both.before.now stored.both.after.now stairs stored.cut.now.section positions stored.cut.now.rows) where
  abbrev earlier : Tables
  earlier = stored.both.before.now

  abbrev later : Tables
  later = stored.both.after.now

  abbrev name : List ℕ
  name = stored.section.now

  abbrev old : Cut
  old = stored.cut.now

  abbrev s : Section
  s = old.section

  cut_made : (made : Cut) → made.section ≡ s → made.connections ≡ old.connections → binding_connections later s ≡ binding_connections earlier s
      → map (stamped_row 0) made.rows ≡ map (row_of later s) (filter (is_member later s) earlier.runs) → cut_of later name ≡ Some (stamped 0 made)
  cut_made made section connections binding rows =
      let form : Section → List (List ℕ) → List CutRow → Cut = λ s cs rs. record { section = s; connections = cs; rows = rs } in
      let by_runs : List Run → List CutRow = λ rs. map (row_of later s) (filter (is_member later s) rs) in
      ap (option_map (section_cut later)) (stored_section is beside.reached.same.sections)
      ∙ ap Some
      (ap (λ cs. form s cs (by_runs later.runs)) (ap (map (λ (c : Connection). c.name)) binding ∙ sym (stored_names is) ∙ sym connections)
      ∙ ap (λ rs. form s made.connections (by_runs rs)) beside.reached.same.runs
      ∙ ap (form s made.connections) (sym rows)
      ∙ ap (λ s. form s made.connections (map (stamped_row 0) made.rows)) (sym section))

  abbrev own_at : ℕ → Option CutRow
  own_at n = find (λ (r : CutRow). is_same r.name (run_at later n).name) old.rows

  abbrev stair_at : ℕ → Option Stair
  stair_at n = get_or stairs n None

  its : (n : ℕ) → n < length later.runs → stair_at n ≡ get_or stairs n (stair_at n)
  its n l = get_or_default stairs n None (stair_at n) (omega (arith, l, beside.reached.count))

  count : length later.runs ≡ length earlier.runs
  count = ap length beside.reached.same.runs

  -- ---- where all rows stay, so does the cut
  pub cut_same : AllStay later stairs s positions old.rows → IsChangeOfStored stored change.Untouched
  cut_same stay =
      let entry : (n : ℕ) → n < length earlier.runs → IsKept earlier later s n = λ n l.
      let below : n < length later.runs = omega (arith, l, count) in
      inr (kept_by beside n below (stair_at n) (its n below) (own_at n) refl (ap (option_map (λ (r : CutRow). r.entry)) (stay n below) ∙ unmarked (own_at n))) in
      let binding = kept_binding beside entry in
      let rows : (k : ℕ) → k ≤ length earlier.runs
      → map (row_of later s) (filter (is_member later s) (take k earlier.runs)) ≡ map (row_of earlier s) (filter (is_member earlier s) (take k earlier.runs)) =
      rows_so_far s later earlier earlier.runs
      (λ n l.
      let below : n < length later.runs = omega (arith, l, count) in
      sym (after_is beside n below (stair_at n) (its n below) (own_at n) refl (entry n l) binding) ∙ stay n below
      ∙ own_is beside n below (stair_at n) (its n below) (own_at n) refl) in
      let all = take_all (length earlier.runs) earlier.runs (omega arith) in
      cut_made old refl refl binding
      (stored_rows is ∙ ap (λ rs. map (row_of earlier s) (filter (is_member earlier s) rs)) (sym all)
      ∙ sym (rows (length earlier.runs) (omega arith)) ∙ ap (λ rs. map (row_of later s) (filter (is_member later s) rs)) all)
      ∙ sym is.is

  -- ---- a cut of other rows, and what becomes of the earlier one by it
  pub cut_changes : (made : Cut) → made.section ≡ s → made.connections ≡ old.connections
      → AreRowsAfter earlier later s stored.number old.rows made.rows → (AllStay later stairs s positions old.rows → ⊥)
      → IsChangeOfStored stored (change.Touched (Some made))
  cut_changes made section connections after changes =
      let binding = kept_binding beside after.kept in
      let now = cut_made made section connections binding after.value in (
        λ same.
            let both : Some (stamped 0 made) ≡ Some (stamped 0 old) = sym now ∙ same ∙ is.is in
            let values : stamped 0 made ≡ stamped 0 old = cc in
            let rows : map (row_of later s) (filter (is_member later s) later.runs) ≡ map (row_of earlier s) (filter (is_member earlier s) earlier.runs) =
            ap (λ rs. map (row_of later s) (filter (is_member later s) rs)) beside.reached.same.runs
            ∙ sym after.value ∙ ap (λ (c : Cut). c.rows) values ∙ stored_rows is in
            changes
            (λ n below.
            let l : n < length earlier.runs = omega (arith, below, count) in
            let run = same_run beside n below (stair_at n) (its n below) in
            let one : (t : Tables) → Run → Option CutRow = λ t r. find (λ (x : CutRow). is_same x.name r.name) (map (row_of t s) (filter (is_member t s) t.runs)) in
            after_is beside n below (stair_at n) (its n below) (own_at n) refl (after.kept n l) binding
            ∙ ap (row_if later s) (sym run) ∙ sym (row_at_name later s beside.later_sound.runs.names n below)
            ∙ ap (one later) run
            ∙ ap (find (λ (x : CutRow). is_same x.name (run_at earlier n).name)) rows
            ∙ row_at_name earlier s beside.earlier_sound.runs.names n l
            ∙ sym (own_is beside n below (stair_at n) (its n below) (own_at n) refl)),
        record { same = now; stamps = after.stamps; sound = sound_cut_of later beside.later_sound name made now },
      )

-- where no run is reached, no cut differs
module _ (earlier later : Tables) (block : Option ℕ) (stairs : List (Option Stair)) (reached : AreReachedRuns earlier later block stairs) (none : All (λ s. s ≡ None) stairs) where
  same_path : (n : ℕ) → n < length later.runs → path_in later (run_at later n) ≡ path_in earlier (run_at later n)
  same_path n below =
      subst (IsStairIfReached earlier later block (run_at later n)) (none n None (omega (arith, below, reached.count))) (reached.each n None below)

  pub cuts_as_before : IsSound earlier → IsSound later → (name : List ℕ) → cut_of later name ≡ cut_of earlier name
  cuts_as_before earlier_sound later_sound =
      cuts_same earlier later earlier_sound later_sound reached.same.runs reached.same.connections reached.same.sections
      (λ s n below.
      let same = ap (λ (rs : List Run). get_or rs n no_run) reached.same.runs in
      subst (λ (r : Run). section_uses later s r ≡ section_uses earlier s r) same
      (uses_by_path earlier later s (run_at later n) reached.same.names (same_path n (omega (arith, below, ap length reached.same.runs)))))

-- Another minimum of one connection: the same connections bind, and the first run's row alone differs, in one end.
use Rattle.std.proofs.Common.{◌≡◌, ℕ, ℤ, zero, suc, ◌+◌, ◌<◌, Bool, true, false, cond, ◌==◌, List, [], ◌∷◌, ◌++◌, map, length, get_or, set, Option, Some, None, refl, sym, ap, ◌∙◌, subst, inl, inr, arith}
use Rattle.std.specs.Prelude.{All, filter, find, option_map, IfSome, pos}
use Rattle.std.specs.List.{filter_map, cons_option, enumerate_from, list_any}
use Rattle.std.proofs.lemmas.Bool.{cases_Bool, both_ways, or_parts, eq-eqb, ne_eqb, ltb-true}
use Rattle.std.proofs.lemmas.List.{map-append, length-map, get_or-map, get_or-set_same, length-set}
use Rattle.std.proofs.lemmas.List.Elements.{All-head, All-tail, All-filter, filter_passes}
use Rattle.std.proofs.lemmas.List.Folds.{map_fixed}
use Rattle.std.proofs.lemmas.List.Kept.{AllPairs-filter}
use Rattle.std.proofs.lemmas.List.Sums.{passes_at_first}
use Rattle.rail_model.specs.declared.items.Run.{Run}
use Rattle.rail_model.specs.declared.items.Section.{Section}
use Rattle.rail_model.specs.declared.items.Connection.{Connection}
use Rattle.rail_model.specs.declared.stair.Use.{Use}
use Rattle.rail_model.specs.declared.tables.Tables.{Tables}
use Rattle.rail_model.specs.Rules.{with_changed, is_named, has_run}
use Rattle.rail_model.specs.Name.{is_same, is_before, IsBefore, NamesRise}
use Rattle.rail_model.specs.Tables.{number_of, run_at, run_named, last_arrival}
use Rattle.rail_model.proofs.NameOrder.{same_name, is_same-from, is_same-after, is_before-itself}
use Rattle.plan_model.specs.declared.cut.CutRow.{CutRow}
use Rattle.plan_model.specs.declared.cut.Cut.{Cut}
use Rattle.plan_model.specs.Cut.{stamped_row, section_uses, entry_of, is_member, binds, binding_connections, uses_of_connections, row_of, section_cut}
use Rattle.section_cut.specs.declared.cut_changes.StoredCut.{StoredCut}
use Rattle.section_cut.specs.Connected.{row_in}
use Rattle.section_cut.specs.EditedConnection.{IsOfSameRuns, IsMinimumChanged, ending, uses_ending}
use Rattle.section_cut.specs.OneRun.{cut_with}
use Rattle.section_cut.specs.Stored.{IsStored}
use Rattle.section_cut.proofs.Around.{filter_rows}
use Rattle.section_cut.proofs.BindsBy.{use_by, row_by}
use Rattle.section_cut.proofs.OneRun.{one_row, RowsStay, run_found}
use Rattle.section_cut.proofs.BlockUses.{uses_inside}
use Rattle.section_cut.proofs.Known.{IsKnown, run_there, run_named_name}
use Rattle.section_cut.proofs.OldRows.{row_if, old_row}
use Rattle.section_cut.proofs.SameRuns.{rows_same}
use Rattle.section_cut.proofs.SoundRow.{binding_known}
use Rattle.section_cut.proofs.Stored.{stored_rows}

-- ---- lists

-- an item that is changed passes as it did
changed_passing : (p : Connection → Bool) (c : Connection) (xs : List Connection) → All (λ x. is_same x.name c.name ≡ true → p x ≡ p c) xs
    → filter p (with_changed (λ x. x.name) xs c) ≡ with_changed (λ x. x.name) (filter p xs) c
changed_passing p c [] same = refl
changed_passing p c (x ∷ xs) same =
    let rest = changed_passing p c xs (All-tail (λ x. is_same x.name c.name ≡ true → p x ≡ p c) x xs same) in
    let here = All-head (λ x. is_same x.name c.name ≡ true → p x ≡ p c) x xs same in
    elim (cases_Bool (is_same x.name c.name)) [
      | inl e ↦ elim (cases_Bool (p x)) [
        | inl h ↦ let own : p c ≡ true = sym (here e) ∙ h in rw e (rw (own, h) (rw e (ap (λ ys. c ∷ ys) rest)))
        | inr h ↦ let own : p c ≡ false = sym (here e) ∙ h in rw e (rw (own, h) rest)
      ]
      | inr e ↦ rw e (elim (cases_Bool (p x)) [
        | inl h ↦ rw h (rw e (ap (λ ys. x ∷ ys) rest))
        | inr h ↦ rw h rest
      ])
    ]

-- where no item has its name, nothing changes
changed_none : (c : Connection) (xs : List Connection) → list_any (λ n. is_same n c.name) (map (λ (x : Connection). x.name) xs) ≡ false
    → with_changed (λ x. x.name) xs c ≡ xs
changed_none c [] none = refl
changed_none c (x ∷ xs) none =
    let apart = or_parts (is_same x.name c.name) (list_any (λ n. is_same n c.name) (map (λ (y : Connection). y.name) xs)) none in
    rw (apart.0) (ap (λ ys. x ∷ ys) (changed_none c xs apart.1))

-- where names rise, the item of its number is written
changed_set : (c : Connection) (xs : List Connection) → NamesRise (λ (x : Connection). x.name) xs
    → with_changed (λ x. x.name) xs c ≡ set xs (number_of (λ (n : List ℕ). n) (map (λ (x : Connection). x.name) xs) c.name) c
changed_set c [] rise = refl
changed_set c (x ∷ xs) rise =
    elim (cases_Bool (is_same x.name c.name)) [
      | inl e ↦
          let same = same_name x.name c.name e in
          rw e
          (ap (λ ys. c ∷ ys)
          (map_fixed (λ (y : Connection). cond (is_same y.name c.name) c y) xs
          (λ k d l.
          let other : is_same (get_or xs k d).name c.name ≡ false =
          subst (λ n. is_same (get_or xs k d).name n ≡ false) same (is_same-after x.name (get_or xs k d).name (rise 0 (suc k) d (omega arith) (omega (arith, l)))) in
          rw other refl)))
      | inr e ↦
          let m = number_of (λ (n : List ℕ). n) (map (λ (y : Connection). y.name) xs) c.name in
          let step : 1 + m ≡ suc m = omega arith in
          rw e (rw step (ap (λ ys. x ∷ ys) (changed_set c xs (λ i j d before below. rise (suc i) (suc j) d (omega (arith, before)) (omega (arith, below))))))
    ]

changed_names : (c : Connection) (xs : List Connection) → map (λ (x : Connection). x.name) (with_changed (λ x. x.name) xs c) ≡ map (λ (x : Connection). x.name) xs
changed_names c [] = refl
changed_names c (x ∷ xs) =
    elim (cases_Bool (is_same x.name c.name)) [
      | inl e ↦ rw e (ap (λ n. n ∷ map (λ (y : Connection). y.name) (with_changed (λ y. y.name) xs c)) (sym (same_name x.name c.name e)) ∙ ap (λ ns. x.name ∷ ns) (changed_names c xs))
      | inr e ↦ rw e (ap (λ ns. x.name ∷ ns) (changed_names c xs))
    ]

-- ---- uses of numbered connections

-- where a change leaves what each gives, the uses stay
numbered_same : (f : ℕ × Connection → Option Use) (c : Connection) (n : ℕ) (xs : List Connection)
    → All (λ x. is_same x.name c.name ≡ true → (m : ℕ) → f (m, c) ≡ f (m, x)) xs
    → filter_map f (enumerate_from n (with_changed (λ x. x.name) xs c)) ≡ filter_map f (enumerate_from n xs)
numbered_same f c n [] same = refl
numbered_same f c n (x ∷ xs) same =
    let P = λ (y : Connection). is_same y.name c.name ≡ true → (m : ℕ) → f (m, c) ≡ f (m, y) in
    let rest = numbered_same f c (n + 1) xs (All-tail P x xs same) in
    elim (cases_Bool (is_same x.name c.name)) [
      | inl e ↦ rw e (ap (λ o. cons_option o (filter_map f (enumerate_from (n + 1) (with_changed (λ y. y.name) xs c)))) (All-head P x xs same e n) ∙ ap (cons_option (f (n, x))) rest)
      | inr e ↦ rw e (ap (cons_option (f (n, x))) rest)
    ]

module _ (run : Run) (entry : ℤ) (last : ℕ) where
  abbrev f : ℕ × Connection → Option Use
  f = use_by run entry last

  at_place : (m : ℕ) (x : Connection) → IfSome (f (m, x)) (λ u. u.block ≡ m)
  at_place m x =
      elim (cases_Bool (is_same x.first run.name)) [
        | inl e ↦ rw e refl
        | inr e ↦ elim (cases_Bool (is_same x.second run.name)) [
          | inl g ↦ rw (e, g) refl
          | inr g ↦ rw (e, g) tt
        ]
      ]

  apart : (place m : ℕ) (until : ℤ) (o : Option Use) (us : List Use) → IfSome o (λ u. u.block ≡ m) → (m ≡ place → ⊥)
      → uses_ending place until (cons_option o us) ≡ cons_option o (uses_ending place until us)
  apart place m until None us at other = refl
  apart place m until (Some u) us at other = rw (ne_eqb u.block place (λ e. other (sym at ∙ e))) refl

  beyond : (place n : ℕ) (until : ℤ) (xs : List Connection) → place < n
      → uses_ending place until (filter_map f (enumerate_from n xs)) ≡ filter_map f (enumerate_from n xs)
  beyond place n until [] before = refl
  beyond place n until (x ∷ xs) before =
      apart place n until (f (n, x)) (filter_map f (enumerate_from (n + 1) xs)) (at_place n x) (λ e. omega (arith, e, before))
      ∙ ap (cons_option (f (n, x))) (beyond place (n + 1) until xs (omega (arith, before)))

  -- the use by the first run of a connection ends by its minimum
  ended : (place n k : ℕ) (c : Connection) (xs : List Connection) → place ≡ n + k → k < length xs → is_same c.first run.name ≡ true → is_same (get_or xs k c).first run.name ≡ true
      → uses_ending place (pos (last + c.minimum_s)) (filter_map f (enumerate_from n xs)) ≡ filter_map f (enumerate_from n (set xs k c))
  ended place n k c [] at below new old = absurd (omega (arith, below))
  ended place n zero c (x ∷ xs) at below new old =
      let here : (n == place) ≡ true = eq-eqb n place (omega (arith, at)) in
      let rest = beyond place (n + 1) (pos (last + c.minimum_s)) xs (omega (arith, at)) in
      rw (old, new) (rw here (ap (λ us. record { block = n; start = entry; «end» = pos (last + c.minimum_s) } ∷ us) rest))
  ended place n (suc k) c (x ∷ xs) at below new old =
      apart place n (pos (last + c.minimum_s)) (f (n, x)) (filter_map f (enumerate_from (n + 1) xs)) (at_place n x) (λ e. omega (arith, e, at))
      ∙ ap (cons_option (f (n, x))) (ended place (n + 1) k c xs (omega (arith, at)) (omega (arith, below)) new old)

-- the name of this number
named_at : (names : List (List ℕ)) (n : List ℕ) (k : ℕ) → k ≡ number_of (λ m. m) names n → k < length names → get_or names k [] ≡ n
named_at names n k number below =
    same_name (get_or names k []) n
    (subst (λ i. is_same (get_or names i []) n ≡ true) (sym number) (passes_at_first (λ (m : List ℕ). is_same m n) names [] (omega (arith, number, below))))

-- uses of blocks end as they did
blocks_kept : (place : ℕ) (until : ℤ) (uses : List Use) → All (λ (u : Use). u.block < place) uses → uses_ending place until uses ≡ uses
blocks_kept place until uses inside =
    map_fixed (ending place until) uses (λ k d l. let below = inside k d l in rw (ne_eqb (get_or uses k d).block place (λ e. omega (arith, e, below))) refl)

-- ---- the cut

module _ {stored : StoredCut} (kept : IsStored stored) (c : Connection) (is : IsMinimumChanged stored.both.before.now stored.both.after.now c) where
  abbrev earlier : Tables
  earlier = stored.both.before.now

  abbrev later : Tables
  later = stored.both.after.now

  abbrev old : Cut
  old = stored.cut.now

  abbrev s : Section
  s = old.section

  abbrev bound : List Connection
  bound = binding_connections earlier s

  same_binds : All (λ x. is_same x.name c.name ≡ true → binds earlier s x ≡ binds earlier s c) earlier.connections
  same_binds k d l e =
      let x = get_or earlier.connections k d in
      let runs = is.runs k d l (same_name x.name c.name e) in
      let by_runs : List ℕ → List ℕ → Bool = λ a b. binds earlier s (record c { first = a; second = b }) in
      ap (λ a. by_runs a x.second) runs.0 ∙ ap (by_runs c.first) runs.1

  pub changed : binding_connections later s ≡ with_changed (λ x. x.name) bound c
  changed =
      ap (λ (t : Tables). filter (binds t s) later.connections) is.others ∙ ap (filter (binds earlier s)) is.changed
      ∙ changed_passing (binds earlier s) c earlier.connections same_binds

  -- where it doesn't bind, the same connections bind
  pub unchanged : (names : List (List ℕ)) → names ≡ map (λ (x : Connection). x.name) bound → is_named (λ n. n) names c.name ≡ false
      → binding_connections later s ≡ binding_connections earlier s
  unchanged names are out = changed ∙ changed_none c bound (ap (λ ns. is_named (λ n. n) ns c.name) (sym are) ∙ out)

  bound_runs : All (IsOfSameRuns c) bound
  bound_runs = All-filter (binds earlier s) (IsOfSameRuns c) earlier.connections is.runs

  -- the row of another run than the first stays
  other_row : (run : Run) → is_same c.first run.name ≡ false → row_of later s run ≡ row_of earlier s run
  other_row run other =
      let row : Tables → List Connection → CutRow = λ t bs. row_by s run (section_uses t s run) (last_arrival t run) bs in
      let entry = entry_of earlier s run in
      let last = last_arrival earlier run in
      ap (row later) changed ∙ ap (λ (t : Tables). row t (with_changed (λ x. x.name) bound c)) is.others
      ∙ ap (λ us. record (row_of earlier s run) { uses = section_uses earlier s run ++ us })
      (numbered_same (use_by run entry last) c (length s.blocks) bound
      (λ k d l e m.
      let x = get_or bound k d in
      let runs = bound_runs k d l (same_name x.name c.name e) in
      let not_first : is_same x.first run.name ≡ false = subst (λ n. is_same n run.name ≡ false) (sym runs.0) other in
      rw (other, not_first, runs.1) refl))

  rows_stay : (q : List ℕ → Bool) → q c.first ≡ false → RowsStay earlier later s c.first kept.later_sound.runs.names q
  rows_stay q out =
      let kept = filter (λ (r : Run). q r.name) earlier.runs in
      ap (λ (t : Tables). map (row_of later s) (filter (is_member later s) (filter (λ (r : Run). q r.name) t.runs))) is.others
      ∙ rows_same (row_of later s) (row_of earlier s) (is_member later s) (is_member earlier s) kept
      (λ k d l.
      let run = get_or kept k d in
      let passes = filter_passes (λ (r : Run). q r.name) earlier.runs k d l in
      let other : is_same c.first run.name ≡ false =
      elim (cases_Bool (is_same c.first run.name)) [
        | inl e ↦ absurd (both_ways (q c.first) out (ap q (same_name c.first run.name e) ∙ passes))
        | inr e ↦ e
      ] in
      (ap (λ (t : Tables). is_member t s run) is.others, other_row run other))
      ∙ sym (filter_rows (row_of earlier s) (is_member earlier s) (λ (r : Run). q r.name) (λ (r : CutRow). q r.name) (λ r. refl) earlier.runs)

  pub first_row_alone : section_cut later s ≡ cut_with c.first (row_in later s 0 (find (λ (r : Run). is_same r.name c.first) later.runs)) (section_cut earlier s)
  first_row_alone =
      one_row earlier later s c.first kept.later_sound.runs.names
      (rows_stay (λ m. is_before m c.first) (is_before-itself c.first)) (rows_stay (λ m. is_before c.first m) (is_before-itself c.first))
      (ap (map (λ (x : Connection). x.name)) changed ∙ changed_names c bound)

  -- where it binds, at this place
  module _ (k : ℕ) (number : k ≡ number_of (λ n. n) (map (λ (x : Connection). x.name) bound) c.name) (below : k < length bound) where
    set_is : binding_connections later s ≡ set bound k c
    set_is =
        changed
        ∙ changed_set c bound (AllPairs-filter (λ (a : Connection) (b : Connection). IsBefore a.name b.name) (binds earlier s) earlier.connections kept.earlier_sound.connections.names)
        ∙ ap (λ m. set bound m c) (sym number)

    pub known_still : IsKnown later c
    known_still =
        let at : get_or (binding_connections later s) k c ≡ c = ap (λ bs. get_or bs k c) set_is ∙ get_or-set_same bound k c c below in
        subst (IsKnown later) at
        (binding_known later kept.later_sound s k c (omega (arith, ap length set_is, length-set bound k c, below)))

    known_before : has_run earlier c.first ≡ true
    known_before = sym (ap (λ (t : Tables). has_run t c.first) is.others) ∙ known_still.first

    abbrev n : ℕ
    n = number_of (λ (r : Run). r.name) earlier.runs c.first

    there : n < length earlier.runs
    there = run_there earlier kept.earlier_sound c.first known_before

    abbrev first : Run
    first = run_at earlier n

    named : first.name ≡ c.first
    named = run_named_name earlier kept.earlier_sound c.first known_before

    -- the first run's uses after the edit
    uses_end : uses_ending (length s.blocks + k) (pos (last_arrival later first + c.minimum_s)) (section_uses earlier s first ++ uses_of_connections earlier s first)
        ≡ section_uses later s first ++ uses_of_connections later s first
    uses_end =
        let place = length s.blocks + k in
        let last = last_arrival earlier first in
        let entry = entry_of earlier s first in
        let until = pos (last + c.minimum_s) in
        let numbered : List Connection → List Use = λ bs. filter_map (use_by first entry last) (enumerate_from (length s.blocks) bs) in
        let mine : is_same c.first first.name ≡ true = is_same-from c.first first.name (sym named) in
        let x = get_or bound k c in
        let x_named : x.name ≡ c.name =
        sym (get_or-map (λ (y : Connection). y.name) bound k c [] below)
        ∙ named_at (map (λ (y : Connection). y.name) bound) c.name k number (omega (arith, below, length-map bound (λ (y : Connection). y.name))) in
        let its : is_same x.first first.name ≡ true = subst (λ m. is_same m first.name ≡ true) (sym (bound_runs k c below x_named).0) mine in
        let blocks = section_uses earlier s first in
        ap (λ (t : Tables). uses_ending place (pos (last_arrival t first + c.minimum_s)) (blocks ++ numbered bound)) is.others
        ∙ map-append (ending place until) blocks (numbered bound)
        ∙ ap (λ us. us ++ uses_ending place until (numbered bound))
        (blocks_kept place until blocks
        (λ i d l. let inside = ltb-true (get_or blocks i d).block (length s.blocks) (uses_inside earlier kept.earlier_sound s n there i d l) in omega (arith, inside)))
        ∙ ap (λ us. blocks ++ us) (ended first entry last place (length s.blocks) k c bound refl below mine its)
        ∙ ap (λ bs. blocks ++ numbered bs) (sym set_is)
        ∙ sym (ap (λ (t : Tables). section_uses t s first ++ filter_map (use_by first (entry_of t s first) (last_arrival t first)) (enumerate_from (length s.blocks) (binding_connections later s))) is.others)

    -- its row
    pub minimum_row : (own : CutRow) → Some own ≡ find (λ (r : CutRow). is_same r.name c.first) old.rows
        → (stamp : ℕ) (until : ℤ) → until ≡ pos (last_arrival later (run_named later c.first) + c.minimum_s)
        → Some (record own { stamp = stamp; uses = uses_ending (length s.blocks + k) until own.uses }) ≡ row_in later s stamp (find (λ (r : Run). is_same r.name c.first) later.runs)
    minimum_row own found stamp until told =
        let moment : until ≡ pos (last_arrival later first + c.minimum_s) = told ∙ ap (λ (t : Tables). pos (last_arrival later (run_named t c.first) + c.minimum_s)) is.others in
        by_test (is_member earlier s first) refl
        (ap (option_map (stamped_row 0)) found
        ∙ subst (λ m. option_map (stamped_row 0) (find (λ (r : CutRow). is_same r.name m) old.rows) ≡ row_if earlier s first) named
        (old_row earlier s kept.earlier_sound.runs.names old.rows (stored_rows kept) n there))
        moment
      where
        found_row : is_member later s first ≡ true → row_in later s stamp (Some first)
            ≡ Some (record { name = first.name; stamp = stamp; entry = entry_of later s first; uses = section_uses later s first ++ uses_of_connections later s first })
        found_row member = rw member refl

        by_test : (b : Bool) → b ≡ is_member earlier s first → Some (stamped_row 0 own) ≡ cond b (Some (row_of earlier s first)) None
            → until ≡ pos (last_arrival later first + c.minimum_s)
            → Some (record own { stamp = stamp; uses = uses_ending (length s.blocks + k) until own.uses }) ≡ row_in later s stamp (find (λ (r : Run). is_same r.name c.first) later.runs)
        by_test false e value moment = absurd (cc)
        by_test true e value moment =
            let place = length s.blocks + k in
            let ended_row : ℤ → CutRow → CutRow = λ m r. record r { stamp = stamp; uses = uses_ending place m r.uses } in
            let same : stamped_row 0 own ≡ row_of earlier s first = cc in
            let member : is_member later s first ≡ true = ap (λ (t : Tables). is_member t s first) is.others ∙ sym e in
            let form : Tables → List Use → CutRow = λ t uses. record { name = first.name; stamp = stamp; entry = entry_of t s first; uses = uses } in
            ap Some
            (ap (ended_row until) same ∙ ap (λ m. ended_row m (row_of earlier s first)) moment
            ∙ ap (form earlier) uses_end
            ∙ sym (ap (λ (t : Tables). form t (section_uses later s first ++ uses_of_connections later s first)) is.others))
            ∙ sym (found_row member)
            ∙ sym
            (ap (λ (t : Tables). row_in later s stamp (find (λ (r : Run). is_same r.name c.first) t.runs)) is.others
            ∙ ap (row_in later s stamp) (run_found earlier c.first n refl there))

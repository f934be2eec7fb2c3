-- A connection more: what it adds to the rows of its two runs, and to no other.
use Rattle.std.proofs.Common.{◌≡◌, ℕ, ◌+◌, ◌<◌, true, false, List, [], ◌∷◌, ◌++◌, map, length, get_or, Option, Some, None, refl, sym, ap, ◌∙◌, subst, inl, inr, arith}
use Rattle.std.specs.List.{filter_map, cons_option, enumerate_from}
use Rattle.std.proofs.lemmas.Bool.{cases_eq, both_ways}
use Rattle.std.proofs.lemmas.List.{append_assoc, append-nil, length-map, length-set, get_or-map, get_or-set_same, get_or-set_other, ext_get_or}
use Rattle.std.proofs.lemmas.List.Elements.{filter_map-append}
use Rattle.rail_model.specs.declared.items.Run.{Run}
use Rattle.rail_model.specs.declared.items.Section.{Section}
use Rattle.rail_model.specs.declared.items.Connection.{Connection}
use Rattle.rail_model.specs.declared.tables.Tables.{Tables}
use Rattle.rail_model.specs.declared.stair.Use.{Use}
use Rattle.rail_model.specs.Name.{is_same}
use Rattle.rail_model.specs.Tables.{no_run, run_named}
use Rattle.rail_model.specs.Rules.{IsSound}
use Rattle.rail_model.proofs.NameOrder.{is_same-from, names_apart}
use Rattle.plan_model.specs.declared.cut.CutRow.{CutRow}
use Rattle.plan_model.specs.Members.{no_member}
use Rattle.plan_model.specs.Cut.{connection_use}
use Rattle.section_cut.specs.declared.connections.Bound.{Bound}
use Rattle.section_cut.specs.Members.{members_of}
use Rattle.section_cut.specs.Bound.{with_use, first_use, second_use, use_added, both_added, with_connections, IsBound}
use Rattle.section_cut.proofs.Lists.{enumerate_push}
use Rattle.section_cut.proofs.Names.{member_of_name, members_rise}

-- a row with some uses more
abbrev with_uses : CutRow → List Use → CutRow
with_uses row some = record row { uses = row.uses ++ some }

module _ (tables : Tables) (section : Section) where
  -- a row's uses with a connection more
  uses_more : (c : Connection) (some : List Connection) (row : CutRow) (place : ℕ) (more : Option Use)
      → place ≡ length section.blocks + length some
      → connection_use tables section (run_named tables row.name) (place, c) ≡ more
      → with_connections tables section (some ++ c ∷ []) row
      ≡ with_uses (with_connections tables section some row) (cons_option more [])
  uses_more c some row place more at is =
      let h = connection_use tables section (run_named tables row.name) in
      let n = length section.blocks in
      let numbered = enumerate_push n some c ∙ ap (λ k. enumerate_from n some ++ (k, c) ∷ []) (sym at) in
      ap (λ us. with_uses row us)
      (ap (filter_map h) numbered ∙ filter_map-append h (enumerate_from n some) ((place, c) ∷ [])
      ∙ ap (λ o. filter_map h (enumerate_from n some) ++ cons_option o []) is)
      ∙ ap (λ us. record row { uses = us }) (sym (append_assoc row.uses (filter_map h (enumerate_from n some)) (cons_option more [])))

  module _ (c : Connection) (bound : Bound) (place : ℕ) (is : IsBound tables section c bound) where
    use_of_first : (name : List ℕ) → name ≡ c.first → (run_named tables name).name ≡ name
        → connection_use tables section (run_named tables name) (place, c) ≡ Some (first_use bound place)
    use_of_first name first named =
        let e : is_same c.first (run_named tables name).name ≡ true =
        is_same-from c.first (run_named tables name).name (sym (named ∙ first)) in
        let run : run_named tables name ≡ run_named tables c.first = ap (run_named tables) first in
        rw (e, is.entry, is.until, run) refl

    use_of_second : (name : List ℕ) → name ≡ c.second → (run_named tables name).name ≡ name → is_same c.first c.second ≡ false
        → connection_use tables section (run_named tables name) (place, c) ≡ Some (second_use bound place)
    use_of_second name second named differ =
        let no : is_same c.first (run_named tables name).name ≡ false =
        subst (λ m. is_same c.first m ≡ false) (sym (named ∙ second)) differ in
        let e : is_same c.second (run_named tables name).name ≡ true =
        is_same-from c.second (run_named tables name).name (sym (named ∙ second)) in
        let run : run_named tables name ≡ run_named tables c.second = ap (run_named tables) second in
        rw (no, e, is.start, run) refl

    use_of_other : (name : List ℕ) → is_same c.first name ≡ false → is_same c.second name ≡ false
        → (run_named tables name).name ≡ name → connection_use tables section (run_named tables name) (place, c) ≡ None
    use_of_other name first second named =
        let no : is_same c.first (run_named tables name).name ≡ false = subst (λ m. is_same c.first m ≡ false) (sym named) first in
        let nor : is_same c.second (run_named tables name).name ≡ false = subst (λ m. is_same c.second m ≡ false) (sym named) second in
        rw (no, nor) refl

    module _ (sound : IsSound tables) (some : List Connection) (rows : List CutRow) where
      pub both_more : map (λ (r : CutRow). r.name) rows ≡ map (λ (r : Run). r.name) (members_of tables section)
          → is_same c.first c.second ≡ false → place ≡ length section.blocks + length some
          → both_added (map (with_connections tables section some) rows) bound place
          ≡ map (with_connections tables section (some ++ c ∷ [])) rows
      both_more names differ at =
          let members = members_of tables section in
          let before = with_connections tables section some in
          let old = map before rows in
          let f = bound.first_row in
          let s = bound.second_row in
          let u = first_use bound place in
          let v = second_use bound place in
          let once = use_added old f u in
          let rows_long = length-map rows before in
          let count : length rows ≡ length members =
          sym (length-map rows (λ (r : CutRow). r.name)) ∙ ap length names ∙ length-map members (λ (r : Run). r.name) in
          let once_long = length-set old f (with_use (get_or old f no_member) u) in
          let twice_long = length-set once s (with_use (get_or once s no_member) v) in
          let name_at : (k : ℕ) → k < length rows → (get_or rows k no_member).name ≡ (get_or members k no_run).name =
          λ k l. sym (get_or-map (λ (r : CutRow). r.name) rows k no_member [] l) ∙ ap (λ ns. get_or ns k []) names
          ∙ get_or-map (λ (r : Run). r.name) members k no_run [] (omega (arith, count, l)) in
          let named : (k : ℕ) → k < length rows → (run_named tables (get_or rows k no_member).name).name ≡ (get_or rows k no_member).name =
          λ k l. ap (λ m. (run_named tables m).name) (name_at k l)
          ∙ ap (λ (r : Run). r.name) (member_of_name tables sound section k no_run (omega (arith, count, l))) ∙ sym (name_at k l) in
          let lf : f < length rows = omega (arith, count, is.first_there) in
          let ls : s < length rows = omega (arith, count, is.second_there) in
          let first : (get_or rows f no_member).name ≡ c.first = name_at f lf ∙ is.first in
          let second : (get_or rows s no_member).name ≡ c.second = name_at s ls ∙ is.second in
          let two : f ≡ s → ⊥ =
          λ e. both_ways (is_same c.first c.second) differ
          (is_same-from c.first c.second (sym first ∙ ap (λ k. (get_or rows k no_member).name) e ∙ second)) in
          let away : (j k : ℕ) (m : List ℕ) → j < length rows → k < length rows → (get_or rows j no_member).name ≡ m → (k ≡ j → ⊥)
          → is_same m (get_or rows k no_member).name ≡ false =
          λ j k m lj lk at_j other.
          subst (λ a. is_same a (get_or rows k no_member).name ≡ false) (sym (name_at j lj) ∙ at_j)
          (subst (λ b. is_same (get_or members j no_run).name b ≡ false) (sym (name_at k lk))
          (names_apart (λ (r : Run). r.name) members no_run (members_rise tables sound section) j k
          (omega (arith, count, lj)) (omega (arith, count, lk)) (λ e. other (sym e)))) in
          ext_get_or no_member (both_added old bound place) (map (with_connections tables section (some ++ c ∷ [])) rows)
          (omega (arith, rows_long, once_long, twice_long, length-map rows (with_connections tables section (some ++ c ∷ []))))
          (λ k below.
          let l : k < length rows = omega (arith, below, rows_long, once_long, twice_long) in
          let row = get_or rows k no_member in
          let kept : get_or old k no_member ≡ before row = get_or-map before rows k no_member no_member l in
          let after = get_or-map (with_connections tables section (some ++ c ∷ [])) rows k no_member no_member l in
          elim (cases_eq k f) [
            | inl e ↦
                let not_second : k ≡ s → ⊥ = λ g. two (sym e ∙ g) in
                get_or-set_other once s k (with_use (get_or once s no_member) v) no_member not_second
                ∙ ap (λ i. get_or (use_added old i u) k no_member) (sym e)
                ∙ get_or-set_same old k (with_use (get_or old k no_member) u) no_member (omega (arith, rows_long, l))
                ∙ ap (λ (r : CutRow). with_use r u) kept
                ∙ sym (after ∙ uses_more c some row place (Some u) at
                (use_of_first row.name (ap (λ i. (get_or rows i no_member).name) e ∙ first) (named k l)))
            | inr not_first ↦ elim (cases_eq k s) [
              | inl g ↦
                  ap (λ i. get_or (use_added once i v) k no_member) (sym g)
                  ∙ get_or-set_same once k (with_use (get_or once k no_member) v) no_member (omega (arith, rows_long, once_long, l))
                  ∙ ap (λ (r : CutRow). with_use r v) (get_or-set_other old f k (with_use (get_or old f no_member) u) no_member not_first ∙ kept)
                  ∙ sym (after ∙ uses_more c some row place (Some v) at
                  (use_of_second row.name (ap (λ i. (get_or rows i no_member).name) g ∙ second) (named k l) differ))
              | inr not_second ↦
                  get_or-set_other once s k (with_use (get_or once s no_member) v) no_member not_second
                  ∙ get_or-set_other old f k (with_use (get_or old f no_member) u) no_member not_first ∙ kept
                  ∙ ap (λ us. record row { uses = us }) (sym (append-nil (before row).uses))
                  ∙ sym (after ∙ uses_more c some row place None at
                  (use_of_other row.name (away f k c.first lf l first not_first) (away s k c.second ls l second not_second) (named k l)))
            ]
          ])

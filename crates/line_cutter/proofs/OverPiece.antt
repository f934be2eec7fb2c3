-- A section over the blocks of an orderly piece has an order: its members use these blocks as the piece's members do.
use Rattle.std.proofs.Common.{◌≡◌, ◌≢◌, ℕ, zero, suc, ◌+◌, ◌-◌, ◌<◌, ◌≤◌, Bool, true, false, ◌&&◌, List, [], ◌∷◌, ◌++◌, map, length, get_or, All, AllPairs, inl, inr, refl, sym, ap, subst, ◌∙◌, arith}
use Rattle.std.specs.Prelude.{pos, int_le, nat_le, nat_lt, filter, take, drop, IsTrue}
use Rattle.std.specs.List.{filter_map, enumerate_from, list_any}
use Rattle.std.proofs.lemmas.Bool.{cases_Bool, cases_lt, and_parts, and_right, both_ways, or_left, or_right, ltb-true, lt-ltb, le-ltb, false_from_ne_true}
use Rattle.std.proofs.lemmas.List.{append-nil, length-append, length-map, length-take, length-drop, get_or-take, get_or-drop}
use Rattle.std.proofs.lemmas.List.Elements.{All-head, All-tail, filter-append}
use Rattle.std.proofs.lemmas.List.Sums.{position_or_len_is, fails_before_first, passes_at_first}
use Rattle.rail_model.specs.declared.items.Run.{Run}
use Rattle.rail_model.specs.declared.items.Section.{Section}
use Rattle.rail_model.specs.declared.items.Connection.{Connection}
use Rattle.rail_model.specs.declared.tables.Tables.{Tables}
use Rattle.rail_model.specs.declared.stair.Use.{Use}
use Rattle.rail_model.specs.Name.{is_same}
use Rattle.rail_model.specs.Tables.{number_of, block_name, path_in}
use Rattle.rail_model.specs.Blocking.{stairway}
use Rattle.rail_model.proofs.NameOrder.{same_name}
use Rattle.plan_model.specs.declared.cut.CutRow.{CutRow}
use Rattle.plan_model.specs.Members.{place_count, no_member}
use Rattle.plan_model.specs.Cut.{position_in_section, use_in_section, section_uses, entry_of, is_member, binding_connections, connection_use, uses_of_connections, row_of, section_cut}
use Rattle.critical_chain.proofs.Opposite.{ordered_is_not_opposite}
use Rattle.line_cutter.specs.Cutting.{is_within, moved_use, piece_uses, uses_piece, piece_row, piece}
use Rattle.line_cutter.specs.Laws.{IsOverPiece, OverPieceIsOrderly}
use Rattle.line_cutter.proofs.Part.{within_from, from_within}
use Rattle.line_cutter.proofs.Covered.{IsAmong, stays_in_order}

-- ---- where a name stands among the blocks of a piece

module _ (all part : List (List ℕ)) (a b : ℕ) (differ : AllPairs (λ m n. m ≢ n) all) (within : b ≤ length all)
    (is : part ≡ drop a (take b all)) where
  long : length part ≡ b - a
  long = ap length is ∙ omega (arith, within, length-drop a (take b all), length-take b all)

  there : (k : ℕ) (d : List ℕ) → k < length part → get_or part k d ≡ get_or all (a + k) d
  there k d l =
      ap (λ names. get_or names k d) is ∙ get_or-drop a (take b all) k d
      ∙ get_or-take b all (a + k) d (omega (arith, l, long))

  module _ (name : List ℕ) where
    abbrev names : List ℕ → Bool
    names n = is_same n name

    abbrev here : ℕ
    here = number_of (λ n. n) part name

    number_found : here < length part → number_of (λ n. n) all name ≡ a + here
    number_found l =
        let inside : a + here < length all = omega (arith, l, long, within) in
        let is_there : names (get_or all (a + here) []) ≡ true =
        ap names (sym (there here [] l)) ∙ passes_at_first names part [] l in
        position_or_len_is names all (a + here) [] (omega (arith, inside))
        (λ k before.
        false_from_ne_true (names (get_or all k []))
        (λ y.
        differ k (a + here) [] before inside
        (same_name (get_or all k []) name y ∙ sym (same_name (get_or all (a + here) []) name is_there))))
        (λ _. is_there)

    number_outside : length part ≤ here → a ≤ number_of (λ n. n) all name → number_of (λ n. n) all name < b → ⊥
    number_outside out from to =
        let q = number_of (λ n. n) all name in
        let k : q - a < length part = omega (arith, from, to, long) in
        let same : a + (q - a) ≡ q = omega (arith, from) in
        both_ways (names (get_or all q [])) (ap (λ m. names (get_or all m [])) (sym same)
        ∙ ap names (sym (there (q - a) [] k)) ∙ fails_before_first names part (q - a) [] (omega (arith, k, out)))
        (passes_at_first names all [] (omega (arith, to, within)))

-- ---- a run's uses

same_cons : (u v : Use) (us vs : List Use) → u ≡ v → us ≡ vs → (u ∷ us) ≡ (v ∷ vs)
same_cons u v us vs e f = rw (e, f) refl

module _ (tables : Tables) (section other : Section) (a b : ℕ) (differ : AllPairs (λ m n. m ≢ n) section.blocks)
    (within : b ≤ length section.blocks) (is : other.blocks ≡ drop a (take b section.blocks)) where
  uses_here : (stairs : List Use)
      → filter (λ u. nat_lt u.block (length other.blocks)) (map (use_in_section tables other) stairs)
      ≡ map (moved_use a) (filter (is_within a b)
      (filter (λ u. nat_lt u.block (length section.blocks)) (map (use_in_section tables section) stairs)))
  uses_here [] = refl
  uses_here (u ∷ stairs) =
      let p = position_in_section tables other u.block in
      let q = position_in_section tables section u.block in
      let name = block_name tables u.block in
      elim (cases_lt p (length other.blocks)) [
        | inl l ↦
            let at : q ≡ a + p = number_found section.blocks other.blocks a b differ within is name l in
            let to : q < b = omega (arith, at, l, long section.blocks other.blocks a b differ within is) in
            let moved : use_in_section tables other u ≡ moved_use a (use_in_section tables section u) =
            ap (λ k. record u { block = k }) (omega (arith, at)) in
            rw (lt-ltb p (length other.blocks) l, lt-ltb q (length section.blocks) (omega (arith, to, within)))
            (rw (within_from a b (use_in_section tables section u) (omega (arith, at)) to)
            (same_cons (use_in_section tables other u) (moved_use a (use_in_section tables section u)) _ _ moved (uses_here stairs)))
        | inr out ↦
            let no : is_within a b (use_in_section tables section u) ≡ false =
            false_from_ne_true _ (λ w.
            let inside = from_within a b (use_in_section tables section u) w in
            number_outside section.blocks other.blocks a b differ within is name out inside.0 inside.1) in
            elim (cases_Bool (nat_lt q (length section.blocks))) [
              | inl e ↦ rw (le-ltb p (length other.blocks) out, e) (rw no (uses_here stairs))
              | inr e ↦ rw (le-ltb p (length other.blocks) out, e) (uses_here stairs)
            ]
      ]

  module _ (run : Run) where
    none_of_connections : (some : List Connection) (place : ℕ) → b ≤ place
        → filter (is_within a b) (filter_map (connection_use tables section run) (enumerate_from place some)) ≡ []
    none_of_connections [] place l = refl
    none_of_connections (c ∷ some) place l =
        let rest = none_of_connections some (place + 1) (omega (arith, l)) in
        let no : (nat_le a place && nat_lt place b) ≡ false = and_right (nat_le a place) (nat_lt place b) (le-ltb place b l) in
        elim (cases_Bool (is_same c.first run.name)) [
          | inl e ↦ rw e (rw no rest)
          | inr e ↦ elim (cases_Bool (is_same c.second run.name)) [
            | inl f ↦ rw (e, f) (rw no rest)
            | inr f ↦ rw (e, f) rest
          ]
        ]

    pub uses_of_piece : section_uses tables other run ≡ piece_uses a b (row_of tables section run)
    uses_of_piece =
        let of_blocks = section_uses tables section run in
        let of_connections = uses_of_connections tables section run in
        let front : filter (is_within a b) (of_blocks ++ of_connections) ≡ filter (is_within a b) of_blocks =
        filter-append (is_within a b) of_blocks of_connections
        ∙ ap (λ us. filter (is_within a b) of_blocks ++ us)
        (none_of_connections (binding_connections tables section) (length section.blocks) within)
        ∙ append-nil (filter (is_within a b) of_blocks) in
        uses_here (stairway (path_in tables run)) ∙ ap (map (moved_use a)) (sym front)

-- ---- the members

any_from : {X : Type 0} (p : X → Bool) (xs : List X) → 0 < length (filter p xs) → list_any p xs ≡ true
any_from p [] l = absurd (omega (arith, l))
any_from p (x ∷ xs) l =
    elim (cases_Bool (p x)) [
      | inl e ↦ or_left (p x) (list_any p xs) e
      | inr e ↦ or_right (p x) (list_any p xs) (any_from p xs (rw e at l))
    ]

module _ (tables : Tables) (section other : Section) (a b : ℕ) (differ : AllPairs (λ m n. m ≢ n) section.blocks)
    (within : b ≤ length section.blocks) (over : IsOverPiece tables section a b other) where
  abbrev rows_here : List Run → List CutRow
  rows_here runs = map (row_of tables other) (filter (is_member tables other) runs)

  abbrev rows_there : List Run → List CutRow
  rows_there runs =
      map (piece_row a b) (filter (uses_piece a b) (map (row_of tables section) (filter (is_member tables section) runs)))

  uses_are : (run : Run) → section_uses tables other run ≡ piece_uses a b (row_of tables section run)
  uses_are = uses_of_piece tables section other a b differ within over.blocks

  row_uses : (run : Run) → (row_of tables other run).uses ≡ piece_uses a b (row_of tables section run)
  row_uses run =
      ap (λ some. section_uses tables other run
      ++ filter_map (connection_use tables other run) (enumerate_from (length other.blocks) some)) over.none_binds
      ∙ append-nil (section_uses tables other run) ∙ uses_are run

  -- a member uses the piece
  uses_some : (run : Run) → is_member tables other run ≡ true → uses_piece a b (row_of tables section run) ≡ true
  uses_some run m =
      let entered = (and_parts _ _ m).0 in
      let some : 0 < length (section_uses tables other run) =
      ltb-true 0 (length (section_uses tables other run))
      (and_parts (nat_lt 0 (length (section_uses tables other run)))
      (int_le (pos other.from_s) (entry_of tables other run)) entered).0 in
      let inside = filter (is_within a b) (row_of tables section run).uses in
      let count : length (section_uses tables other run) ≡ length inside =
      ap length (uses_are run) ∙ length-map inside (moved_use a) in
      any_from (is_within a b) (row_of tables section run).uses (subst (λ n. 0 < n) count some)

  one_more : (run : Run) (runs : List Run) (row : CutRow) → IsAmong (rows_there runs) row
      → IsAmong (rows_there (run ∷ runs)) row
  one_more run runs row among =
      elim (cases_Bool (is_member tables section run)) [
        | inr e ↦ rw e among
        | inl e ↦ elim (cases_Bool (uses_piece a b (row_of tables section run))) [
          | inr f ↦ rw e (rw f among)
          | inl f ↦ rw e (rw f (record { at = suc among.at; there = omega (arith, among.there); is = among.is }))
        ]
      ]

  with_member : (run : Run) (runs : List Run) → is_member tables other run ≡ true → is_member tables section run ≡ true
      → ((j : ℕ) → j < length (rows_here runs) → IsAmong (rows_there runs) (get_or (rows_here runs) j no_member))
      → (j : ℕ) → j < length (rows_here (run ∷ runs))
      → IsAmong (rows_there (run ∷ runs)) (get_or (rows_here (run ∷ runs)) j no_member)
  with_member run runs e f rest zero l =
      rw e (rw f (rw (uses_some run e)
      (record { at = 0; there = omega arith; is = record { name = refl; uses = row_uses run } })))
  with_member run runs e f rest (suc j) l =
      let m = rw e at l in rw e (one_more run runs _ (rest j (omega (arith, m))))

  among : (runs : List Run) → All (λ run. IsTrue (is_member tables other run) → IsTrue (is_member tables section run)) runs
      → (j : ℕ) → j < length (rows_here runs) → IsAmong (rows_there runs) (get_or (rows_here runs) j no_member)
  among [] all j l = absurd (omega (arith, l))
  among (run ∷ runs) all j l =
      let P : Run → Type 0 = λ run. IsTrue (is_member tables other run) → IsTrue (is_member tables section run) in
      let rest = among runs (All-tail P run runs all) in
      elim (cases_Bool (is_member tables other run)) [
        | inr e ↦ rw e (one_more run runs _ (rest j (rw e at l)))
        | inl e ↦ with_member run runs e (All-head P run runs all e) rest j l
      ]

  enough : place_count (section_cut tables other) ≤ place_count (piece (section_cut tables section) a b)
  enough =
      omega (
        arith,
        length-append other.blocks (map (λ c. c.name) (binding_connections tables other)),
        ap (λ (some : List Connection). length (map (λ c. c.name) some)) over.none_binds,
        ap length over.blocks,
        length-append (drop a (take b section.blocks)) [],
      )

pub over_piece_is_orderly : OverPieceIsOrderly
over_piece_is_orderly tables section other a b differ within over orderly =
    let cut = section_cut tables other in
    let none = stays_in_order cut (piece (section_cut tables section) a b) (enough tables section other a b differ within over)
    (among tables section other a b differ within over tables.runs over.members) orderly.none_remains in
    record { not_opposite = ordered_is_not_opposite cut none; none_remains = none }

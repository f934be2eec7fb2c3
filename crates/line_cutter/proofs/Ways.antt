-- Uses that go one way: those of a piece stand side by side.
use Rattle.std.proofs.Common.{◌≡◌, ◌⊎◌, ℕ, ◌+◌, ◌-◌, ◌<◌, ◌≤◌, true, false, List, [], ◌∷◌, ◌++◌, length, take, drop, map, inl, inr, refl, sym, ap, subst, ◌∙◌, arith}
use Rattle.std.specs.Prelude.{filter}
use Rattle.std.specs.List.{list_any}
use Rattle.std.proofs.lemmas.Bool.{cases_Bool, cases_eq, both_ways, false_from_ne_true}
use Rattle.std.proofs.lemmas.List.{take-append-drop, append-nil, get_or-take, get_or-drop, length-take, length-drop}
use Rattle.std.proofs.lemmas.List.Elements.{All-from_get_or, filter-append}
use Rattle.rail_model.specs.declared.stair.Use.{Use}
use Rattle.rail_model.proofs.Places.{filter_none}
use Rattle.plan_model.specs.Members.{no_use}
use Rattle.plan_model.specs.declared.cut.CutRow.{CutRow}
use Rattle.line_cutter.specs.Cutting.{is_within, moved_use, uses_piece, piece_row}
use Rattle.line_cutter.specs.Ways.{nth, RiseUpTo, FallUpTo, IsOneWay, IsBeginning}
use Rattle.line_cutter.proofs.Part.{from_within, within_from}

-- one use more
pub rise_more : (uses : List Use) (k : ℕ) → 0 < k → RiseUpTo uses k → (nth uses (k - 1)).block ≤ (nth uses k).block
    → RiseUpTo uses (k + 1)
rise_more uses k some up step i j le lt =
    elim (cases_eq j k) [
      | inr n ↦ up i j le (omega (arith, lt, n))
      | inl e ↦ elim (cases_eq i k) [
        | inl f ↦
            subst (λ m. (nth uses i).block ≤ (nth uses m).block) (let s : i ≡ j = omega (arith, e, f) in s) (omega arith)
        | inr n ↦
            let so_far = up i (k - 1) (omega (arith, le, e, n)) (omega (arith, some)) in
            subst (λ m. (nth uses i).block ≤ (nth uses m).block) (sym e) (omega (arith, so_far, step))
      ]
    ]

pub fall_more : (uses : List Use) (k : ℕ) → 0 < k → FallUpTo uses k → (nth uses k).block ≤ (nth uses (k - 1)).block
    → FallUpTo uses (k + 1)
fall_more uses k some down step i j le lt =
    elim (cases_eq j k) [
      | inr n ↦ down i j le (omega (arith, lt, n))
      | inl e ↦ elim (cases_eq i k) [
        | inl f ↦
            subst (λ m. (nth uses m).block ≤ (nth uses i).block) (let s : i ≡ j = omega (arith, e, f) in s) (omega arith)
        | inr n ↦
            let so_far = down i (k - 1) (omega (arith, le, e, n)) (omega (arith, some)) in
            subst (λ m. (nth uses m).block ≤ (nth uses i).block) (sym e) (omega (arith, so_far, step))
      ]
    ]

-- of three uses the middle one's block lies between those of the others
abbrev IsBetween : ℕ → ℕ → ℕ → Type 0
IsBetween x y z = ((x ≤ y) × (y ≤ z)) ⊎ ((z ≤ y) × (y ≤ x))

between : (uses : List Use) → IsOneWay uses → (i j k : ℕ) → i ≤ j → j ≤ k → k < length uses
    → IsBetween (nth uses i).block (nth uses j).block (nth uses k).block
between uses (inl up) i j k a b l = inl (up i j a (omega (arith, b, l)), up j k b l)
between uses (inr down) i j k a b l = inr (down j k b l, down i j a (omega (arith, b, l)))

module _ (uses : List Use) (way : IsOneWay uses) (a b : ℕ) where
  middle : (i j k : ℕ) → i ≤ j → j ≤ k → k < length uses → is_within a b (nth uses i) ≡ true
      → is_within a b (nth uses k) ≡ true → is_within a b (nth uses j) ≡ true
  middle i j k l m n one other =
      let x = from_within a b (nth uses i) one in
      let z = from_within a b (nth uses k) other in
      elim (between uses way i j k l m n) [
        | inl r ↦ within_from a b (nth uses j) (omega (arith, r.0, x.0)) (omega (arith, r.1, z.1))
        | inr r ↦ within_from a b (nth uses j) (omega (arith, r.0, z.0)) (omega (arith, r.1, x.1))
      ]

  -- where the first and the last use are both before the piece, or both behind it, all are
  pub none_before : (nth uses 0).block < a → (nth uses (length uses - 1)).block < a → filter (is_within a b) uses ≡ []
  none_before first last =
      filter_none (is_within a b) uses (All-from_get_or (λ u. is_within a b u ≡ false) uses no_use (λ k l.
      false_from_ne_true (is_within a b (nth uses k)) (λ t.
      let w = from_within a b (nth uses k) t in
      elim (between uses way 0 k (length uses - 1) (omega arith) (omega (arith, l)) (omega (arith, l))) [
        | inl r ↦ omega (arith, r.1, last, w.0)
        | inr r ↦ omega (arith, r.1, first, w.0)
      ])))

  pub none_behind : b ≤ (nth uses 0).block → b ≤ (nth uses (length uses - 1)).block → filter (is_within a b) uses ≡ []
  none_behind first last =
      filter_none (is_within a b) uses (All-from_get_or (λ u. is_within a b u ≡ false) uses no_use (λ k l.
      false_from_ne_true (is_within a b (nth uses k)) (λ t.
      let w = from_within a b (nth uses k) t in
      elim (between uses way 0 k (length uses - 1) (omega arith) (omega (arith, l)) (omega (arith, l))) [
        | inl r ↦ omega (arith, r.0, first, w.1)
        | inr r ↦ omega (arith, r.0, last, w.1)
      ])))

  module _ (first : ℕ) (begins : IsBeginning uses a b first) where
    pub none_earlier : filter (is_within a b) (take first uses) ≡ []
    none_earlier =
        filter_none (is_within a b) (take first uses)
        (All-from_get_or (λ u. is_within a b u ≡ false) (take first uses) no_use (λ k l.
        let there : k < first = omega (arith, l, length-take first uses) in
        subst (λ (u : Use). is_within a b u ≡ false) (sym (get_or-take first uses k no_use there))
        (false_from_ne_true (is_within a b (nth uses k)) (λ t.
        both_ways (is_within a b (nth uses (first - 1))) (begins.before (omega (arith, there)))
        (middle k (first - 1) first (omega (arith, there)) (omega arith) begins.there t begins.within)))))

    pub none_later : (k : ℕ) → first ≤ k → k < length uses → is_within a b (nth uses k) ≡ false
        → filter (is_within a b) (drop k uses) ≡ []
    none_later k from there out =
        filter_none (is_within a b) (drop k uses)
        (All-from_get_or (λ u. is_within a b u ≡ false) (drop k uses) no_use (λ m l.
        let here : k + m < length uses = omega (arith, l, length-drop k uses) in
        subst (λ (u : Use). is_within a b u ≡ false) (sym (get_or-drop k uses m no_use))
        (false_from_ne_true (is_within a b (nth uses (k + m))) (λ t.
        both_ways (is_within a b (nth uses k)) out
        (middle first k (k + m) from (omega arith) here begins.within t)))))

-- the uses of the piece before a place: all of them, where none follows
module _ (a b : ℕ) (uses : List Use) where
  abbrev pub moved_upto : ℕ → List Use
  moved_upto k = map (moved_use a) (filter (is_within a b) (take k uses))

  pub no_more : (k : ℕ) → filter (is_within a b) (drop k uses) ≡ []
      → moved_upto k ≡ map (moved_use a) (filter (is_within a b) uses)
  no_more k none =
      ap (map (moved_use a)) (
      sym (append-nil (filter (is_within a b) (take k uses)))
      ∙ ap (λ us. filter (is_within a b) (take k uses) ++ us) (sym none)
      ∙ sym (filter-append (is_within a b) (take k uses) (drop k uses))
      ∙ ap (filter (is_within a b)) (take-append-drop k uses))

-- some uses are of the piece, or none
some_used : (a b : ℕ) (uses : List Use)
    → ((list_any (is_within a b) uses ≡ false) × (map (moved_use a) (filter (is_within a b) uses) ≡ []))
    ⊎ ((list_any (is_within a b) uses ≡ true) × (map (moved_use a) (filter (is_within a b) uses) ≡ [] → ⊥))
some_used a b [] = inl (refl, refl)
some_used a b (u ∷ uses) =
    elim (cases_Bool (is_within a b u)) [
      | inl e ↦ inr (rw e refl, λ none. let g = rw e at none in absurd (cc))
      | inr e ↦ elim (some_used a b uses) [
        | inl r ↦ inl (rw e r.0, rw e r.1)
        | inr r ↦ inr (rw e r.0, λ none. r.1 (rw e at none))
      ]
    ]

-- a row is added with its uses of the piece, or not where it has none
module _ (a b : ℕ) (rows : List CutRow) (row : CutRow) where
  pub none_added : map (moved_use a) (filter (is_within a b) row.uses) ≡ []
      → rows ≡ rows ++ map (piece_row a b) (filter (uses_piece a b) (row ∷ []))
  none_added none =
      elim (some_used a b row.uses) [
        | inl r ↦ rw r.0 (sym (append-nil rows))
        | inr r ↦ absurd (r.1 none)
      ]

  pub one_added : (map (moved_use a) (filter (is_within a b) row.uses) ≡ [] → ⊥)
      → rows ++ piece_row a b row ∷ [] ≡ rows ++ map (piece_row a b) (filter (uses_piece a b) (row ∷ []))
  one_added some =
      elim (some_used a b row.uses) [
        | inl r ↦ absurd (some r.1)
        | inr r ↦ rw r.0 refl
      ]

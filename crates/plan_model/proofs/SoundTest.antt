-- A test that shows a cut to be sound.
use Rattle.std.proofs.Common.{◌≡◌, ℕ, zero, suc, ◌<◌, ◌≤◌, Bool, true, not, ◌&&◌, ◌||◌, List, [], ◌∷◌, ◌++◌, length, map, get_or, inl, inr, refl, ap, ◌∙◌, subst, arith}
use Rattle.std.specs.Prelude.{ℤ, pos, ◌-ℤ◌, int_lt, int_le, nat_lt, nat_le, ◌==◌, filter, count_by, All, AllPairs}
use Rattle.std.specs.List.{list_all}
use Rattle.std.specs.Ordering.{int_eq}
use Rattle.std.proofs.lemmas.Bool.{and_parts, or_cases, both_ways, not-true, ltb-true, leb-true, eqb-true, eq-eqb, le-ltb}
use Rattle.std.proofs.lemmas.Bool.Decides.{Decides-int_eq}
use Rattle.std.proofs.lemmas.Int.{ints}
use Rattle.std.proofs.lemmas.List.Sums.{AllPass-from_list_all}
use Rattle.std.proofs.lemmas.List.FromFn.{length-range_with_len, get_or-range_with_len}
use Rattle.rail_model.specs.declared.stair.Use.{Use}
use Rattle.rail_model.specs.declared.limits.TheConstants.{RUNS, CONNECTIONS, PATH_HOPS, GREATEST_MOMENT_S}
use Rattle.rail_model.specs.Name.{is_before, is_same}
use Rattle.rail_model.proofs.NameOrder.{is_same-from, IsBefore-from}
use Rattle.rail_model.proofs.Numbers.{le_from_test, lt_from_test}
use Rattle.plan_model.specs.declared.cut.CutRow.{CutRow}
use Rattle.plan_model.specs.declared.cut.Cut.{Cut}
use Rattle.plan_model.specs.Members.{place_names, block_count, place_count, places, uses_place}
use Rattle.plan_model.specs.Cut.{least, is_block, block_uses, IsMoment, IsSoundUse, IsSoundRow, IsSoundCut}

-- ---- lists

-- a test of each item with each later one
abbrev pub all_pairs : {X : Type 0} → (X → X → Bool) → List X → Bool
all_pairs test [] = true
all_pairs test (x ∷ xs) = list_all (test x) xs && all_pairs test xs

at_pair : {X : Type 0} (test : X → X → Bool) (x : X) (xs : List X) → All (λ b. test x b ≡ true) xs
    → AllPairs (λ a b. test a b ≡ true) xs → AllPairs (λ a b. test a b ≡ true) (x ∷ xs)
at_pair test x xs first rest zero zero d l m = absurd (omega (arith, l))
at_pair test x xs first rest zero (suc j) d l m = first j d (omega (arith, m))
at_pair test x xs first rest (suc i) zero d l m = absurd (omega (arith, l))
at_pair test x xs first rest (suc i) (suc j) d l m = rest i j d (omega (arith, l)) (omega (arith, m))

pairs_pass : {X : Type 0} (test : X → X → Bool) (xs : List X) → all_pairs test xs ≡ true
    → AllPairs (λ a b. test a b ≡ true) xs
pairs_pass test [] h = λ i j d l m. absurd (omega (arith, m))
pairs_pass test (x ∷ xs) h =
    let parts = and_parts _ _ h in
    at_pair test x xs (AllPass-from_list_all (test x) xs parts.0) (pairs_pass test xs parts.1)

-- no item that passes a test follows one that doesn't
abbrev pub passing_first : {X : Type 0} → (X → Bool) → List X → Bool
passing_first test [] = true
passing_first test (x ∷ xs) = (test x && passing_first test xs) || (not (test x) && list_all (λ y. not (test y)) xs)

none_pass : {X : Type 0} (test : X → Bool) (xs : List X) → list_all (λ y. not (test y)) xs ≡ true
    → (filter test xs ≡ []) × (filter (λ y. not (test y)) xs ≡ xs)
none_pass test [] h = (refl, refl)
none_pass test (x ∷ xs) h =
    let parts = and_parts _ _ h in
    let rest = none_pass test xs parts.1 in
    (rw (not-true (test x) parts.0) rest.0, rw parts.0 (ap (λ ys. x ∷ ys) rest.1))

parted : {X : Type 0} (test : X → Bool) (xs : List X) → passing_first test xs ≡ true
    → xs ≡ filter test xs ++ filter (λ y. not (test y)) xs
parted test [] h = refl
parted test (x ∷ xs) h =
    elim (or_cases (test x && passing_first test xs) (not (test x) && list_all (λ y. not (test y)) xs) h) [
      | inl p ↦
          let parts = and_parts (test x) (passing_first test xs) p in
          rw parts.0 (ap (λ ys. x ∷ ys) (parted test xs parts.1))
      | inr p ↦
          let parts = and_parts (not (test x)) (list_all (λ y. not (test y)) xs) p in
          let rest = none_pass test xs parts.1 in
          rw (not-true (test x) parts.0, rest.0, rest.1) refl
    ]

-- ---- moments and names

moment : (t : ℤ) → int_le (pos 0 -ℤ GREATEST_MOMENT_S) t ≡ true → int_le t GREATEST_MOMENT_S ≡ true → IsMoment t
moment t p q = record { after = grind (arith, ints); before = grind (arith, ints) }

module _ (cut : Cut) where
  abbrev pub is_sound_use : Use → Bool
  is_sound_use u =
      nat_lt u.block (place_count cut) && int_lt u.start u.«end» && int_le (pos 0 -ℤ GREATEST_MOMENT_S) u.start
      && int_le u.start GREATEST_MOMENT_S && int_le (pos 0 -ℤ GREATEST_MOMENT_S) u.«end»
      && int_le u.«end» GREATEST_MOMENT_S

  sound_use : (u : Use) → is_sound_use u ≡ true → IsSoundUse cut u
  sound_use u h =
      let a = and_parts _ _ h in
      let b = and_parts _ _ a.0 in
      let c = and_parts _ _ b.0 in
      let d = and_parts _ _ c.0 in
      let e = and_parts _ _ d.0 in
      record {
        place = ltb-true u.block (place_count cut) e.0;
        some_time = lt_from_test u.start u.«end» e.1;
        starts = moment u.start d.1 c.1;
        ends = moment u.«end» b.1 a.1;
      }

  abbrev pub is_sound_row : CutRow → Bool
  is_sound_row row =
      nat_lt 0 (length (block_uses cut row)) && nat_le (length (block_uses cut row)) PATH_HOPS
      && passing_first (λ (u : Use). is_block cut u.block) row.uses
      && all_pairs (λ (u : Use) (v : Use). not (u.block == v.block)) row.uses && list_all is_sound_use row.uses
      && int_eq row.entry (least (map (λ u. u.start) (block_uses cut row)))
      && int_le (pos cut.section.from_s) row.entry && int_lt row.entry (pos cut.section.to_s)

  sound_row : (row : CutRow) → is_sound_row row ≡ true → IsSoundRow cut row
  sound_row row h =
      let a = and_parts _ _ h in
      let b = and_parts _ _ a.0 in
      let c = and_parts _ _ b.0 in
      let d = and_parts _ _ c.0 in
      let e = and_parts _ _ d.0 in
      let f = and_parts _ _ e.0 in
      let g = and_parts _ _ f.0 in
      let differ = pairs_pass (λ (u : Use) (v : Use). not (u.block == v.block)) row.uses e.1 in
      let uses = AllPass-from_list_all is_sound_use row.uses d.1 in
      record {
        some_block = ltb-true 0 (length (block_uses cut row)) g.0;
        most_blocks = leb-true (length (block_uses cut row)) PATH_HOPS g.1;
        blocks_first = parted (λ (u : Use). is_block cut u.block) row.uses f.1;
        places_differ = λ i j none l m same. both_ways _ (not-true _ (differ i j none l m)) (eq-eqb _ _ same);
        each = λ k none l. sound_use (get_or row.uses k none) (uses k none l);
        entry = (Decides-int_eq row.entry (least (map (λ u. u.start) (block_uses cut row)))).0 c.1;
        from_window = le_from_test (pos cut.section.from_s) row.entry b.1;
        to_window = lt_from_test row.entry (pos cut.section.to_s) a.1;
      }

  abbrev pub is_sound : Bool
  is_sound =
      nat_lt cut.section.from_s cut.section.to_s && int_le (pos cut.section.from_s) GREATEST_MOMENT_S
      && nat_lt 0 (block_count cut) && nat_le (block_count cut) PATH_HOPS && nat_le
      (length cut.connections) CONNECTIONS
      && nat_le (length cut.rows) RUNS && all_pairs (λ a b. not (is_same a b)) (place_names cut)
      && all_pairs (λ (r : CutRow) (s : CutRow). is_before r.name s.name) cut.rows && list_all is_sound_row cut.rows
      && list_all (λ c. is_block cut c || (count_by (λ r. uses_place r c) cut.rows == 2)) (places cut)

  two_rows : list_all (λ c. is_block cut c || (count_by (λ r. uses_place r c) cut.rows == 2)) (places cut) ≡ true
      → (c : ℕ) → block_count cut ≤ c → c < place_count cut → count_by (λ r. uses_place r c) cut.rows ≡ 2
  two_rows h c from below =
      let test = λ (c : ℕ). is_block cut c || (count_by (λ r. uses_place r c) cut.rows == 2) in
      let at : get_or (places cut) c 0 ≡ c = get_or-range_with_len 0 (place_count cut) c 0 below ∙ omega arith in
      let long = length-range_with_len 0 (place_count cut) in
      let passes = subst (λ k. test k ≡ true) at (AllPass-from_list_all test (places cut) h c 0 (omega arith)) in
      elim (or_cases (is_block cut c) (count_by (λ r. uses_place r c) cut.rows == 2) passes) [
        | inl e ↦ absurd (both_ways _ (le-ltb c (block_count cut) from) e)
        | inr e ↦ eqb-true (count_by (λ r. uses_place r c) cut.rows) 2 e
      ]

  pub sound : is_sound ≡ true → IsSoundCut cut
  sound h =
      let a = and_parts _ _ h in
      let b = and_parts _ _ a.0 in
      let c = and_parts _ _ b.0 in
      let d = and_parts _ _ c.0 in
      let e = and_parts _ _ d.0 in
      let f = and_parts _ _ e.0 in
      let g = and_parts _ _ f.0 in
      let i = and_parts _ _ g.0 in
      let j = and_parts _ _ i.0 in
      let differ = pairs_pass (λ a b. not (is_same a b)) (place_names cut) d.1 in
      let rise = pairs_pass (λ (r : CutRow) (s : CutRow). is_before r.name s.name) cut.rows c.1 in
      let rows = AllPass-from_list_all is_sound_row cut.rows b.1 in
      record {
        window = ltb-true cut.section.from_s cut.section.to_s j.0;
        window_start = le_from_test (pos cut.section.from_s) GREATEST_MOMENT_S j.1;
        some_block = ltb-true 0 (block_count cut) i.1;
        most_blocks = leb-true (block_count cut) PATH_HOPS g.1;
        most_connections = leb-true (length cut.connections) CONNECTIONS f.1;
        most_rows = leb-true (length cut.rows) RUNS e.1;
        places_differ = λ k m none l n same. both_ways _ (not-true _ (differ k m none l n)) (is_same-from _ _ same);
        names_rise = λ k m none l n. IsBefore-from (get_or cut.rows k none).name (get_or cut.rows m none).name (rise k m none l n);
        each = λ k none l. sound_row (get_or cut.rows k none) (rows k none l);
        two_rows = two_rows a.1;
      }

-- A changed signal that keeps its block moves the runs' uses of that block alone.
use Rattle.std.proofs.Common.{◌≡◌, ◌⊎◌, ℕ, zero, suc, ◌-◌, Bool, true, false, ltb, cond, List, [], ◌∷◌, length, map, get_or, refl, sym, ap, ◌∙◌, inl, inr, le-ltb}
use Rattle.std.specs.Prelude.{filter}
use Rattle.std.specs.List.{zip, range_with_len}
use Rattle.std.proofs.lemmas.Bool.{cases_Bool, both_ways}
use Rattle.rail_model.specs.declared.items.Signal.{Signal}
use Rattle.rail_model.specs.declared.items.Leg.{Leg}
use Rattle.rail_model.specs.declared.items.Item.TheVariants as item
use Rattle.rail_model.specs.declared.path.Hop.{Hop}
use Rattle.rail_model.specs.declared.stair.Use.{Use}
use Rattle.rail_model.specs.declared.tables.Tables.{Tables}
use Rattle.rail_model.specs.Name.{is_same}
use Rattle.rail_model.specs.Blocking.{no_hop, hop, hop_count, use_of}
use Rattle.rail_model.specs.Tables.{no_signal, block_number, signal_named, route_named, hop_beyond, path_in}
use Rattle.rail_model.specs.Rules.{has_signal, after_change}
use Rattle.rail_model.proofs.NameOrder.{same_name, is_same-from}
use Rattle.plan_model.specs.Cut.{use_in_section, position_in_section}
use Rattle.section_cut.specs.ReachedRuns.{StayBeside}
use Rattle.rail_model.proofs.Members.{first-with_changed}
use Rattle.section_cut.proofs.Alike.{bare, count_same, use_same}
use Rattle.section_cut.proofs.Around.{named_still, change_front, change_back}

-- ---- images

-- what holds of two images of each item holds of the images at each place
at_place : {X : Type 0} (f g : X → Hop) (R : Hop → Hop → Type 0) → R no_hop no_hop → ((x : X) → R (f x) (g x))
    → (xs : List X) (k : ℕ) → R (get_or (map f xs) k no_hop) (get_or (map g xs) k no_hop)
at_place f g R none each [] k = none
at_place f g R none each (x ∷ xs) zero = each x
at_place f g R none each (x ∷ xs) (suc k) = at_place f g R none each xs k

images_alike : {X : Type 0} (f g : X → Hop) → ((x : X) → bare (f x) ≡ bare (g x)) → (xs : List X) → map bare (map f xs) ≡ map bare (map g xs)
images_alike f g alike [] = refl
images_alike f g alike (x ∷ xs) = λ i. alike x i ∷ images_alike f g alike xs i

-- two images pass a test the same where they are the same or both fail
passing_same : {X Y Z : Type 0} (f g : X → Y) (h : Y → Z) (test : Z → Bool)
    → ((x : X) → (f x ≡ g x) ⊎ ((test (h (f x)) ≡ false) × (test (h (g x)) ≡ false)))
    → (xs : List X) → filter test (map h (map f xs)) ≡ filter test (map h (map g xs))
passing_same f g h test same [] = refl
passing_same f g h test same (x ∷ xs) =
    let rest = passing_same f g h test same xs in
    elim (same x) [
      | inl e ↦ λ i. cond (test (h (e i))) (h (e i) ∷ rest i) (rest i)
      | inr fail ↦ rw (fail.0, fail.1) rest
    ]

-- ---- the changed signal

-- a run's hop beyond the signal of a name, with the run's leg
abbrev hop_in : Tables → List ℕ × Leg → Hop
hop_in tables p = hop_beyond tables (signal_named tables p.0) p.1

-- two hops are the same, or both over this block
abbrev AreSameOrOver : ℕ → Hop → Hop → Type 0
AreSameOrOver block a b = (a ≡ b) ⊎ ((a.block ≡ block) × (b.block ≡ block))

module _ (tables : Tables) (x : Signal) (there : has_signal tables x.name ≡ true) (keeps : (signal_named tables x.name).block ≡ x.block) where
  abbrev later : Tables
  later = after_change tables (item.Signal x)

  -- the signal of a name is the same before and after, or both have the changed one's block
  signal_same : (m : List ℕ) → (signal_named later m ≡ signal_named tables m)
      ⊎ (((signal_named later m).block ≡ x.block) × ((signal_named tables m).block ≡ x.block))
  signal_same m =
      elim (cases_Bool (is_same m x.name)) [
        | inl e ↦
            let named : m ≡ x.name = same_name m x.name e in
            inr (ap (λ n. (signal_named later n).block) named ∙ ap (λ (s : Signal). s.block) (first-with_changed (λ (s : Signal). s.name) x tables.signals no_signal there), ap (λ n. (signal_named tables n).block) named ∙ keeps)
        | inr e ↦
            inl
            (named_still (λ (s : Signal). s.name) x.name tables.signals later.signals (change_front (λ (s : Signal). s.name) x tables.signals) (change_back (λ (s : Signal). s.name) x tables.signals) no_signal m
            (λ named. both_ways (is_same m x.name) e (is_same-from m x.name (sym named))))
      ]

  -- so the hops beyond it are the same or both over that block, and have the same bare hops
  hop_same : (p : List ℕ × Leg) → (bare (hop_in later p) ≡ bare (hop_in tables p)) × AreSameOrOver (block_number tables x.block) (hop_in later p) (hop_in tables p)
  hop_same p =
      elim (signal_same p.0) [
        | inl e ↦ (ap (λ s. bare (hop_beyond tables s p.1)) e, inl (ap (λ s. hop_beyond tables s p.1) e))
        | inr own ↦ (
          ap (λ b. bare (hop_beyond tables (record no_signal { block = b }) p.1)) (own.0 ∙ sym own.1),
          inr (ap (block_number tables) own.0, ap (block_number tables) own.1),
        )
      ]

-- a signal that is changed and keeps its block moves the runs' uses of that block alone
pub stay_beside : (tables : Tables) (x : Signal) → has_signal tables x.name ≡ true → (signal_named tables x.name).block ≡ x.block
    → StayBeside tables (after_change tables (item.Signal x)) (block_number tables x.block)
stay_beside tables x there keeps section out run =
    let later = after_change tables (item.Signal x) in
    let passed = zip (route_named tables run.route).signals run.legs in
    let same = hop_same tables x there keeps in
    let path = path_in later run in
    let other = path_in tables run in
    let others = map (hop_in tables) passed in
    let alike = images_alike (hop_in later) (hop_in tables) (λ m. (same m).0) passed in
    let placed = use_in_section tables section in
    let is_in : Use → Bool = λ u. ltb u.block (length section.blocks) in
    let out_of : (b : ℕ) → b ≡ block_number tables x.block → ltb (position_in_section tables section b) (length section.blocks) ≡ false =
    λ b e. rw e (le-ltb (position_in_section tables section (block_number tables x.block)) (length section.blocks) out) in
    passing_same (use_of path) (use_of other) placed is_in
    (λ k. elim (at_place (hop_in later) (hop_in tables) (AreSameOrOver (block_number tables x.block)) (inl refl) (λ m. (same m).1) passed (k - 1)) [
      | inl own ↦ inl (use_same path others alike k (hop path k) own refl)
      | inr own ↦ inr (out_of (hop path k).block own.0, out_of (hop other k).block own.1)
    ])
    (range_with_len 1 (hop_count path))
    ∙ (λ i. filter is_in (map placed (map (use_of other) (range_with_len 1 (count_same path others alike i)))))

-- A piece of a sound cut is sound.
use Rattle.std.proofs.Common.{◌≡◌, ◌≢◌, ℕ, zero, suc, ◌+◌, ◌-◌, ◌<◌, ◌≤◌, Bool, true, not, List, [], ◌∷◌, ◌++◌, map, length, get_or, All, AllPairs, inl, inr, refl, sym, ap, subst, ◌∙◌, arith}
use Rattle.std.specs.Prelude.{ℤ, pos, ◌≤ℤ◌, filter, take, drop}
use Rattle.std.specs.List.{list_any, fold}
use Rattle.std.specs.Int.{int_min}
use Rattle.std.proofs.lemmas.Int.{ints, fold-int_min_bounds, fold-int_min_reached}
use Rattle.std.proofs.lemmas.Bool.{cases_Bool, lt-ltb, not_from_true}
use Rattle.std.proofs.lemmas.List.{append-nil, length-append, length-map, length-take, length-drop, get_or-take, get_or-drop, get_or_append_left}
use Rattle.std.proofs.lemmas.List.Elements.{All-map, All-cons, All-tail, All-filter, filter_passes, All-head}
use Rattle.std.proofs.lemmas.List.Kept.{AllPairs-filter}
use Rattle.std.proofs.lemmas.List.Sums.{length-filter, count_by-le-length}
use Rattle.rail_model.specs.declared.stair.Use.{Use}
use Rattle.rail_model.specs.declared.limits.TheConstants.{GREATEST_MOMENT_S, PATH_HOPS}
use Rattle.rail_model.specs.Name.{IsBefore}
use Rattle.rail_model.proofs.Places.{filter_all, filter_none}
use Rattle.rail_model.proofs.Lists.{AllPairs-map}
use Rattle.plan_model.specs.declared.cut.CutRow.{CutRow}
use Rattle.plan_model.specs.declared.cut.Cut.{Cut}
use Rattle.plan_model.specs.Members.{block_count, place_count, place_names, member_count}
use Rattle.plan_model.specs.Cut.{least, is_block, block_uses, connection_uses, IsSoundUse, IsSoundRow, IsSoundCut}
use Rattle.plan_model.proofs.Sound.{least_most}
use Rattle.line_cutter.specs.Cutting.{is_within, moved_use, piece_uses, uses_piece, piece_row, piece}
use Rattle.line_cutter.proofs.Part.{from_within}

-- ---- what passes tests

passes_some : {X : Type 0} (p : X → Bool) (xs : List X) → list_any p xs ≡ true → 0 < length (filter p xs)
passes_some p [] h = absurd (cc)
passes_some p (x ∷ xs) h =
    elim (cases_Bool (p x)) [
      | inl e ↦ rw e (omega arith)
      | inr e ↦ rw e (passes_some p xs (rw e at h))
    ]

fewer_pass : {X : Type 0} (p q : X → Bool) → ((x : X) → p x ≡ true → q x ≡ true) → (xs : List X)
    → length (filter p xs) ≤ length (filter q xs)
fewer_pass p q also [] = omega arith
fewer_pass p q also (x ∷ xs) =
    let rest = fewer_pass p q also xs in
    elim (cases_Bool (p x)) [
      | inl e ↦ rw (e, also x e) (omega (arith, rest))
      | inr e ↦ elim (cases_Bool (q x)) [ inl f ↦ rw (e, f) (omega (arith, rest)) | inr f ↦ rw (e, f) rest ]
    ]

pub few_pass : {X : Type 0} (p : X → Bool) (xs : List X) → length (filter p xs) ≤ length xs
few_pass p xs = omega (arith, length-filter p xs, count_by-le-length p xs)

kept_also : {X : Type 0} (P : X → Type 0) (p q : X → Bool) → ((x : X) → p x ≡ true → q x ≡ true) → (xs : List X)
    → All P (filter q xs) → All P (filter p xs)
kept_also P p q also [] all = all
kept_also P p q also (x ∷ xs) all =
    elim (cases_Bool (p x)) [
      | inl e ↦
          let both = rw (also x e) at all in
          rw e (All-cons P x (filter p xs) (All-head P x (filter q xs) both) (kept_also P p q also xs (All-tail P x (filter q xs) both)))
      | inr e ↦ elim (cases_Bool (q x)) [
        | inl f ↦ let both = rw f at all in rw e (kept_also P p q also xs (All-tail P x (filter q xs) both))
        | inr f ↦ let rest = rw f at all in rw e (kept_also P p q also xs rest)
      ]
    ]

-- ---- the least start

least_from : (uses : List Use) (z : ℤ) → 0 < length uses → All (λ (u : Use). z ≤ℤ u.start) uses
    → z ≤ℤ least (map (λ (u : Use). u.start) uses)
least_from [] z some each = absurd (omega (arith, some))
least_from (u ∷ uses) z some each =
    let starts = map (λ (u : Use). u.start) uses in
    let first : z ≤ℤ u.start = each 0 u (omega arith) in
    elim (fold-int_min_reached u.start starts (fold int_min u.start starts) refl) [
      | inl e ↦ omega (arith, ints, first, e)
      | inr at ↦
          let all : All (λ x. z ≤ℤ x) starts = All-map (λ x. z ≤ℤ x) (λ (u : Use). u.start) uses
          (λ k d l. each (suc k) d (omega (arith, l))) in
          subst (λ x. z ≤ℤ x) at.2 (all at.0 (fold int_min u.start starts) at.1)
    ]

-- the least is no later than any
least_first : (uses : List Use) → All (λ (u : Use). least (map (λ (u : Use). u.start) uses) ≤ℤ u.start) uses
least_first [] k d l = absurd (omega (arith, l))
least_first (u ∷ uses) zero d l = (fold-int_min_bounds u.start (map (λ (u : Use). u.start) uses) _ refl).0
least_first (u ∷ uses) (suc k) d l =
    let starts = map (λ (u : Use). u.start) uses in
    let below : k < length starts = omega (arith, l, length-map uses (λ (u : Use). u.start)) in
    subst (λ x. fold int_min u.start starts ≤ℤ x) (at uses k d (omega (arith, l)))
    ((fold-int_min_bounds u.start starts _ refl).1 k d.start below)
  where
    at : (uses : List Use) (k : ℕ) (d : Use) → k < length uses
        → get_or (map (λ (u : Use). u.start) uses) k d.start ≡ (get_or uses k d).start
    at [] k d l = refl
    at (u ∷ uses) zero d l = refl
    at (u ∷ uses) (suc k) d l = at uses k d (omega (arith, l))

-- ---- the piece

module _ (cut : Cut) (sound : IsSoundCut cut) (a b : ℕ) (some : a < b) (within : b ≤ block_count cut) where
  blocks_in : block_count (piece cut a b) ≡ b - a
  blocks_in = omega (arith, within, length-drop a (take b cut.section.blocks), length-take b cut.section.blocks)

  pub places_in : place_count (piece cut a b) ≡ b - a
  places_in = omega (arith, blocks_in, length-append (drop a (take b cut.section.blocks)) [])

  module _ (row : CutRow) (is : IsSoundRow cut row) (uses : uses_piece a b row ≡ true) where
    each_within : All (λ u. is_within a b u ≡ true) (filter (is_within a b) row.uses)
    each_within = filter_passes (is_within a b) row.uses

    each_sound : All (IsSoundUse cut) (filter (is_within a b) row.uses)
    each_sound = All-filter (is_within a b) (IsSoundUse cut) row.uses is.each

    each_moved : All (IsSoundUse (piece cut a b)) (piece_uses a b row)
    each_moved =
        All-map (IsSoundUse (piece cut a b)) (moved_use a) (filter (is_within a b) row.uses)
        (λ k d l.
        let u = each_sound k d l in
        let w = from_within a b (get_or (filter (is_within a b) row.uses) k d) (each_within k d l) in
        record { place = omega (arith, places_in, w.0, w.1); some_time = u.some_time; starts = u.starts; ends = u.ends })

    on_block : All (λ u. is_block (piece cut a b) u.block ≡ true) (piece_uses a b row)
    on_block k d l =
        let u = get_or (piece_uses a b row) k d in
        lt-ltb u.block (block_count (piece cut a b)) (omega (arith, blocks_in, places_in, (each_moved k d l).place))

    blocks_are : block_uses (piece cut a b) (piece_row a b row) ≡ piece_uses a b row
    blocks_are = filter_all (λ u. is_block (piece cut a b) u.block) (piece_uses a b row) on_block

    others_are : connection_uses (piece cut a b) (piece_row a b row) ≡ []
    others_are =
        filter_none (λ u. not (is_block (piece cut a b) u.block)) (piece_uses a b row)
        (λ k d l. not_from_true _ (on_block k d l))

    count_uses : length (piece_uses a b row) ≡ length (filter (is_within a b) row.uses)
    count_uses = length-map (filter (is_within a b) row.uses) (moved_use a)

    some_use : 0 < length (piece_uses a b row)
    some_use = omega (arith, count_uses, passes_some (is_within a b) row.uses uses)

    most_uses : length (piece_uses a b row) ≤ PATH_HOPS
    most_uses =
        omega (
          arith,
          count_uses,
          is.most_blocks,
          fewer_pass (is_within a b) (λ u. is_block cut u.block)
              (λ u h. lt-ltb u.block (block_count cut) (omega (arith, within, (from_within a b u h).1))) row.uses,
        )

    apart : AllPairs (λ (u : Use) (v : Use). u.block ≢ v.block) (piece_uses a b row)
    apart =
        let inside = filter (is_within a b) row.uses in
        AllPairs-map (moved_use a) (λ (u : Use) (v : Use). u.block ≢ v.block) inside
        (λ i j d l m e.
        let u = from_within a b (get_or inside i d) (each_within i d (omega (arith, l, m))) in
        let v = from_within a b (get_or inside j d) (each_within j d m) in
        AllPairs-filter (λ (u : Use) (v : Use). u.block ≢ v.block) (is_within a b) row.uses is.places_differ i j d l m
        (omega (arith, u.0, v.0, e)))

    starts_late : All (λ (u : Use). row.entry ≤ℤ u.start) (piece_uses a b row)
    starts_late =
        let late : All (λ (u : Use). row.entry ≤ℤ u.start) (block_uses cut row) =
        λ k d l. rw is.entry (least_first (block_uses cut row) k d l) in
        All-map (λ (u : Use). row.entry ≤ℤ u.start) (moved_use a) (filter (is_within a b) row.uses)
        (kept_also (λ (u : Use). row.entry ≤ℤ u.start) (is_within a b) (λ u. is_block cut u.block)
        (λ u h. lt-ltb u.block (block_count cut) (omega (arith, within, (from_within a b u h).1))) row.uses late)

    sound_row : IsSoundRow (piece cut a b) (piece_row a b row)
    sound_row = record {
      some_block = omega (arith, some_use, ap length blocks_are);
      most_blocks = omega (arith, most_uses, ap length blocks_are);
      blocks_first =
          sym (ap (λ us. us ++ connection_uses (piece cut a b) (piece_row a b row)) blocks_are
          ∙ ap (λ us. piece_uses a b row ++ us) others_are ∙ append-nil (piece_uses a b row));
      places_differ = apart;
      each = each_moved;
      entry = sym (ap (λ us. least (map (λ (u : Use). u.start) us)) blocks_are);
      from_window =
          least_from (piece_uses a b row) (pos cut.section.from_s) some_use
          (λ k d l. let late = starts_late k d l in omega (arith, ints, late, is.from_window));
      to_window =
          let most = least_most (piece_uses a b row) GREATEST_MOMENT_S some_use (λ k d l. (each_moved k d l).starts.before) in
          omega (arith, ints, most);
    }

  places_apart : AllPairs (λ p q. p ≢ q) (place_names (piece cut a b))
  places_apart i j d l m =
      let part = drop a (take b cut.section.blocks) in
      let short : j < b - a = omega (arith, m, places_in) in
      rw (append-nil part) (rw (there i d (omega (arith, l, short)), there j d short)
      (sound.places_differ (a + i) (a + j) d (omega (arith, l))
      (omega (arith, short, within, length-append cut.section.blocks cut.connections))))
    where
      there : (k : ℕ) (d : List ℕ) → k < b - a
          → get_or (drop a (take b cut.section.blocks)) k d ≡ get_or (cut.section.blocks ++ cut.connections) (a + k) d
      there k d l =
          get_or-drop a (take b cut.section.blocks) k d ∙ get_or-take b cut.section.blocks (a + k) d (omega (arith, l))
          ∙ sym (get_or_append_left cut.section.blocks cut.connections d (a + k) (omega (arith, l, within)))

  pub sound_piece : IsSoundCut (piece cut a b)
  sound_piece = record {
    window = omega (arith, ints, sound.window_start);
    window_start = sound.window_start;
    some_block = omega (arith, blocks_in, some);
    most_blocks = omega (arith, blocks_in, within, sound.most_blocks);
    most_connections = omega arith;
    most_rows =
        omega (arith, length-map (filter (uses_piece a b) cut.rows) (piece_row a b), few_pass (uses_piece a b) cut.rows, sound.most_rows);
    places_differ = places_apart;
    names_rise =
        AllPairs-map (piece_row a b) (λ (r : CutRow) (s : CutRow). IsBefore r.name s.name) (filter (uses_piece a b) cut.rows)
        (AllPairs-filter (λ (r : CutRow) (s : CutRow). IsBefore r.name s.name) (uses_piece a b) cut.rows sound.names_rise);
    each =
        All-map (IsSoundRow (piece cut a b)) (piece_row a b) (filter (uses_piece a b) cut.rows)
        (λ k d l.
        sound_row (get_or (filter (uses_piece a b) cut.rows) k d)
        (All-filter (uses_piece a b) (IsSoundRow cut) cut.rows sound.each k d l)
        (filter_passes (uses_piece a b) cut.rows k d l));
    two_rows = λ c from below. absurd (omega (arith, from, below, blocks_in, places_in));
  }

  pub few_members : member_count (piece cut a b) ≤ member_count cut
  few_members = omega (arith, length-map (filter (uses_piece a b) cut.rows) (piece_row a b), few_pass (uses_piece a b) cut.rows)

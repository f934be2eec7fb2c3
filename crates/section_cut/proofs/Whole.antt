-- A row with a use for each block of its run's path: where the run keeps its route, the positions stay, and only times
-- change.
use Rattle.std.proofs.Common.{◌≡◌, ℕ, ◌+◌, ◌-◌, ◌<◌, Bool, true, ltb, eqb, not, List, [], ◌∷◌, map, length, get_or, sym, ap, ◌∙◌, inl, inr, arith}
use Rattle.std.specs.Prelude.{All, filter}
use Rattle.std.proofs.lemmas.Bool.{cases_Bool, eqb-true, not-true, not-false}
use Rattle.std.proofs.lemmas.List.{length-map, get_or-map, get_or_default}
use Rattle.std.proofs.lemmas.List.Elements.{All-cons}
use Rattle.std.proofs.lemmas.List.FromFn.{length-map-range_with_len, get_or-map-range_with_len}
use Rattle.rail_model.specs.declared.items.Run.{Run}
use Rattle.rail_model.specs.declared.items.Section.{Section}
use Rattle.rail_model.specs.declared.items.Item.TheVariants as item
use Rattle.rail_model.specs.declared.path.Hop.{Hop}
use Rattle.rail_model.specs.declared.path.Path.{Path}
use Rattle.rail_model.specs.declared.stair.Use.{Use}
use Rattle.rail_model.specs.declared.tables.Tables.{Tables}
use Rattle.rail_model.specs.Blocking.{hop_count, no_hop, use_of, stairway}
use Rattle.rail_model.specs.Tables.{number_of, block_number, block_name, signal_named, route_named, path_in}
use Rattle.rail_model.specs.Rules.{Stands}
use Rattle.rail_model.proofs.Paths.{hop_in_at, length-hops_in}
use Rattle.rail_model.proofs.Places.{filter_all}
use Rattle.plan_model.specs.Members.{no_use}
use Rattle.plan_model.specs.Cut.{position_in_section, use_in_section, section_uses}
use Rattle.section_cut.specs.Times.{with_times}
use Rattle.section_cut.proofs.Lists.{few_pass}
use Rattle.section_cut.proofs.RowTimes.{placed_by}

-- ---- paths over the same blocks

pub record SameBlocks (a b : Path) : Type 0 where
  pub count : hop_count a ≡ hop_count b
  pub each : (k : ℕ) → k < hop_count a → (get_or a.hops k no_hop).block ≡ (get_or b.hops k no_hop).block

-- the uses of a stairway are of the hops' blocks
use_at : (path : Path) (k : ℕ) → k < hop_count path → (get_or (stairway path) k no_use).block ≡ (get_or path.hops k no_hop).block
use_at path k l =
    let e : 1 + k ≡ k + 1 = omega arith in
    let back : k + 1 - 1 ≡ k = omega arith in
    ap (λ (u : Use). u.block) (get_or-map-range_with_len (use_of path) 1 (hop_count path) k (k + 1) no_use l e)
    ∙ ap (λ j. (get_or path.hops j no_hop).block) back

pub length-stairway : (path : Path) → length (stairway path) ≡ hop_count path
length-stairway path = length-map-range_with_len (use_of path) 1 (hop_count path)

-- where as many pass a test as there are, each passes
all_pass : {X : Type 0} (p : X → Bool) (xs : List X) → length (filter p xs) ≡ length xs → All (λ x. p x ≡ true) xs
all_pass p [] long = λ k d l. absurd (omega (arith, l))
all_pass p (x ∷ xs) long = elim (cases_Bool (p x)) [
  | inl e ↦
      let more : length (x ∷ filter p xs) ≡ length (x ∷ xs) = rw e at long in
      All-cons (λ y. p y ≡ true) x xs e (all_pass p xs (omega (arith, more)))
  | inr e ↦
      let less : length (filter p xs) ≡ length (x ∷ xs) = rw e at long in
      absurd (omega (arith, less, few_pass p xs))
]

module _ (earlier later : Tables) (s : Section) (r q : Run) (names : (block : ℕ) → block_name later block ≡ block_name earlier block) (same : SameBlocks (path_in later q) (path_in earlier r)) where
  abbrev inside : Use → Bool
  inside u = ltb u.block (length s.blocks)

  abbrev old_uses : List Use
  old_uses = map (use_in_section earlier s) (stairway (path_in earlier r))

  abbrev new_uses : List Use
  new_uses = map (use_in_section later s) (stairway (path_in later q))

  placed_at : (t : Tables) (p : Path) (k : ℕ) → k < hop_count p
      → (get_or (map (use_in_section t s) (stairway p)) k no_use).block ≡ position_in_section t s (get_or p.hops k no_hop).block
  placed_at t p k l =
      ap (λ (u : Use). u.block) (get_or-map (use_in_section t s) (stairway p) k no_use no_use (omega (arith, l, length-stairway p)))
      ∙ ap (position_in_section t s) (use_at p k l)

  same_place : (block : ℕ) → position_in_section later s block ≡ position_in_section earlier s block
  same_place block = ap (number_of (λ n. n) s.blocks) (names block)

  count_new : length new_uses ≡ hop_count (path_in later q)
  count_new = length-map (stairway (path_in later q)) (use_in_section later s) ∙ length-stairway (path_in later q)

  count_old : length old_uses ≡ hop_count (path_in earlier r)
  count_old = length-map (stairway (path_in earlier r)) (use_in_section earlier s) ∙ length-stairway (path_in earlier r)

  -- the positions are the same
  old_at : (k : ℕ) → k < hop_count (path_in later q)
      → (get_or old_uses k no_use).block ≡ position_in_section later s (get_or (path_in later q).hops k no_hop).block
  old_at k l =
      placed_at earlier (path_in earlier r) k (omega (arith, l, same.count))
      ∙ ap (position_in_section earlier s) (sym (same.each k l))
      ∙ sym (same_place (get_or (path_in later q).hops k no_hop).block)

  pub whole : (uses : List Use) → uses ≡ section_uses earlier s r → length uses ≡ length (stairway (path_in later q))
      → with_times uses (stairway (path_in later q)) ≡ section_uses later s q
  whole uses is long =
      let count = length-stairway (path_in later q) in
      let each = all_pass inside old_uses (omega (arith, ap length is, long, count, same.count, count_old)) in
      let all : uses ≡ old_uses = is ∙ filter_all inside old_uses each in
      let inside_new : All (λ u. inside u ≡ true) new_uses = λ k d l.
      let here : k < hop_count (path_in later q) = omega (arith, l, count_new) in
      let there : k < length old_uses = omega (arith, here, count_old, same.count) in
      ap inside (get_or_default new_uses k d no_use l)
      ∙ ap (λ (b : ℕ). ltb b (length s.blocks)) (placed_at later (path_in later q) k here ∙ sym (old_at k here))
      ∙ each k no_use there in
      placed_by (position_in_section later s) uses (stairway (path_in later q)) long
      (λ k l.
      let here : k < hop_count (path_in later q) = omega (arith, l, count) in
      ap (λ (us : List Use). (get_or us k no_use).block) all ∙ old_at k here
      ∙ ap (position_in_section later s) (sym (use_at (path_in later q) k here)))
      ∙ sym (filter_all inside new_uses inside_new)

-- ---- runs on one route

abbrev block_beyond : Tables → List ℕ → ℕ
block_beyond t n = block_number t (signal_named t n).block

module _ (t : Tables) (r : Run) (stands : Stands t (item.Run r)) where
  abbrev signals : List (List ℕ)
  signals = (route_named t r.route).signals

  legs_count : length r.legs ≡ length signals
  legs_count = eqb-true (length r.legs) (length signals) (not-false (eqb (length r.legs) (length signals)) (not-true (not (eqb (length r.legs) (length signals))) stands.count))

  hops_count : hop_count (path_in t r) ≡ length signals
  hops_count = omega (arith, legs_count, length-hops_in t signals r.legs)

  block_at : (k : ℕ) → k < length signals → (get_or (path_in t r).hops k no_hop).block ≡ block_beyond t (get_or signals k [])
  block_at k l = ap (λ (h : Hop). h.block) (hop_in_at t signals r.legs k no_hop l (omega (arith, l, legs_count)))

pub one_route : (earlier later : Tables) → later ≡ record earlier { runs = later.runs } → (r q : Run) → q.route ≡ r.route
    → Stands earlier (item.Run r) → Stands later (item.Run q) → SameBlocks (path_in later q) (path_in earlier r)
one_route earlier later others r q route stands_r stands_q =
    let old = (route_named earlier r.route).signals in
    let new = (route_named later q.route).signals in
    let same : new ≡ old = ap (λ (t : Tables). (route_named t q.route).signals) others ∙ ap (λ n. (route_named earlier n).signals) route in
    let count : hop_count (path_in later q) ≡ hop_count (path_in earlier r) =
    hops_count later q stands_q ∙ ap length same ∙ sym (hops_count earlier r stands_r) in
    record {
      count = count;
      each = λ k l.
          let here : k < length new = omega (arith, l, hops_count later q stands_q) in
          let there : k < length old = omega (arith, here, ap length same) in
          block_at later q stands_q k here
          ∙ ap (λ (t : Tables). block_beyond t (get_or new k [])) others
          ∙ ap (λ (ns : List (List ℕ)). block_beyond earlier (get_or ns k [])) same
          ∙ sym (block_at earlier r stands_r k there);
    }

-- A run's uses of a section's blocks: their moments, their places, and its entry.
use Rattle.std.proofs.Common.{◌≡◌, ◌≢◌, ℕ, ◌-◌, ◌<◌, ◌≤◌, true, ltb, List, [], ◌∷◌, map, length, get_or, All, AllPairs, sym, ap, ◌∙◌, inl, inr, arith}
use Rattle.std.specs.Prelude.{ℤ, pos, ◌-ℤ◌, ◌<ℤ◌, ◌≤ℤ◌, int_lt, int_le, nat_lt, ◌&&◌, fold}
use Rattle.std.specs.Int.{int_min}
use Rattle.std.proofs.lemmas.Int.{ints}
use Rattle.std.proofs.lemmas.Bool.{and_parts, ltb-true, cases_eq, both_ways, cond_both}
use Rattle.std.proofs.lemmas.List.{length-map, get_or-map}
use Rattle.std.proofs.lemmas.List.Elements.{All-head, All-tail, All-map, All-filter, filter_passes}
use Rattle.std.proofs.lemmas.List.FromFn.{length-map-range_with_len}
use Rattle.std.proofs.lemmas.List.Kept.{AllPairs-filter}
use Rattle.std.proofs.lemmas.List.Sums.{passes_at_first}
use Rattle.rail_model.specs.declared.items.Block.{Block}
use Rattle.rail_model.specs.declared.items.Section.{Section}
use Rattle.rail_model.specs.declared.tables.Tables.{Tables}
use Rattle.rail_model.specs.declared.stair.Use.{Use}
use Rattle.rail_model.specs.declared.limits.TheConstants.{PATH_HOPS}
use Rattle.rail_model.specs.Name.{is_same}
use Rattle.rail_model.specs.Blocking.{hop, hop_count, departure, approach_moment, use_of, stairway}
use Rattle.rail_model.specs.Tables.{no_block, run_at, path_in, last_arrival, block_name}
use Rattle.rail_model.specs.Rules.{IsSound}
use Rattle.rail_model.proofs.NameOrder.{same_name, is_same-from, names_apart}
use Rattle.rail_model.proofs.Paths.{path_at_fits}
use Rattle.rail_model.specs.Moment.{IsMoment}
use Rattle.blocking_time.proofs.Places.{departures_rise}
use Rattle.blocking_time.proofs.Bounds.{approach_before_entry, entry_before_exit}
use Rattle.rail_model.proofs.Numbers.{lt_from_test, le_from_test}
use Rattle.rail_model.proofs.Lists.{All-from_one, AllPairs-map}
use Rattle.blocking_time.proofs.Uses.{not_empty, bounded, blocks_differ}
use Rattle.plan_model.specs.Cut.{least, position_in_section, use_in_section, section_uses, entry_of, is_member}
use Rattle.section_cut.proofs.Lists.{few_pass}
use Rattle.rail_model.proofs.Timetables.{used_there}
use Rattle.section_cut.proofs.Arrivals.{last_departure}

-- a use takes some time, its moments are within the limit, and it starts before the run's last arrival
pub record IsTimely (last : ℕ) (u : Use) : Type 0 where
  pub some_time : u.start <ℤ u.«end»
  pub starts : IsMoment u.start
  pub ends : IsMoment u.«end»
  pub early : u.start <ℤ pos last

-- an entry within the limit, before the run's last arrival
pub record IsEntry (last : ℕ) (t : ℤ) : Type 0 where
  pub moment : IsMoment t
  pub early : t <ℤ pos last

early : (a w f d last : ℕ) → a ≤ d → d < last → (pos a -ℤ pos w -ℤ pos f) <ℤ pos last
early a w f d last p q = omega (arith, ints)

-- what holds of each of some numbers holds of the least
least_after : (P : ℤ → Type 0) (x : ℤ) (xs : List ℤ) → P x → All P xs → P (fold int_min x xs)
least_after P x [] first rest = first
least_after P x (y ∷ xs) first rest =
    least_after P (int_min x y) xs
    (cond_both (int_lt y x) y x P (λ _. All-head P y xs rest) (λ _. first)) (All-tail P y xs rest)

pub least_holds : (P : ℤ → Type 0) (xs : List ℤ) → 0 < length xs → All P xs → P (least xs)
least_holds P [] some each = absurd (omega (arith, some))
least_holds P (x ∷ xs) some each = least_after P x xs (All-head P x xs each) (All-tail P x xs each)

-- a member's parts
pub record IsInWindow (tables : Tables) (section : Section) (n : ℕ) : Type 0 where
  pub some : 0 < length (section_uses tables section (run_at tables n))
  pub from : pos section.from_s ≤ℤ entry_of tables section (run_at tables n)
  pub to : entry_of tables section (run_at tables n) <ℤ pos section.to_s

pub in_window : (tables : Tables) (section : Section) (n : ℕ) → is_member tables section (run_at tables n) ≡ true
    → IsInWindow tables section n
in_window tables section n member =
    let uses = section_uses tables section (run_at tables n) in
    let entry = entry_of tables section (run_at tables n) in
    let outer = and_parts (nat_lt 0 (length uses) && int_le (pos section.from_s) entry) (int_lt entry (pos section.to_s)) member in
    let inner = and_parts (nat_lt 0 (length uses)) (int_le (pos section.from_s) entry) outer.0 in
    record {
      some = ltb-true 0 (length uses) inner.0;
      from = le_from_test (pos section.from_s) entry inner.1;
      to = lt_from_test entry (pos section.to_s) outer.1;
    }

module _ (tables : Tables) (sound : IsSound tables) (section : Section) (n : ℕ) (l : n < length tables.runs) where
  timely_stairway : All (IsTimely (last_arrival tables (run_at tables n))) (stairway (path_in tables (run_at tables n)))
  timely_stairway =
      let path = path_in tables (run_at tables n) in
      let fits = path_at_fits tables sound n l in
      let last = last_arrival tables (run_at tables n) in
      All-from_one (IsTimely last) (use_of path) (hop_count path)
      (λ k low high.
      let inside = bounded path fits k low high in
      record {
        some_time = not_empty path fits k low high;
        starts = inside.start;
        ends = inside.«end»;
        early = early (approach_moment path k) (hop path k).watch_s (hop path k).form_s (departure path (k - 1)) last
            (approach_before_entry path fits k high)
            (omega (arith, entry_before_exit path fits k low high, departures_rise path k (hop_count path) high (omega arith), last_departure tables sound n l));
      })

  -- their moments
  pub timely_uses : All (IsTimely (last_arrival tables (run_at tables n))) (section_uses tables section (run_at tables n))
  timely_uses =
      let last = last_arrival tables (run_at tables n) in
      let uses = stairway (path_in tables (run_at tables n)) in
      All-filter (λ (u : Use). ltb u.block (length section.blocks)) (IsTimely last) (map (use_in_section tables section) uses)
      (All-map (IsTimely last) (use_in_section tables section) uses
      (λ k d below.
      let u = timely_stairway k d below in
      record { some_time = u.some_time; starts = u.starts; ends = u.ends; early = u.early }))

  -- the entry
  pub entry_is : is_member tables section (run_at tables n) ≡ true
      → IsEntry (last_arrival tables (run_at tables n)) (entry_of tables section (run_at tables n))
  entry_is member =
      let last = last_arrival tables (run_at tables n) in
      let uses = section_uses tables section (run_at tables n) in
      least_holds (IsEntry last) (map (λ (u : Use). u.start) uses)
      (omega (arith, (in_window tables section n member).some, length-map uses (λ (u : Use). u.start)))
      (All-map (IsEntry last) (λ (u : Use). u.start) uses
      (λ k d below. let u = timely_uses k d below in record { moment = u.starts; early = u.early }))

  -- their places are blocks of the section, and there are no more than of its path
  pub uses_inside : All (λ (u : Use). ltb u.block (length section.blocks) ≡ true) (section_uses tables section (run_at tables n))
  uses_inside =
      filter_passes (λ (u : Use). ltb u.block (length section.blocks))
      (map (use_in_section tables section) (stairway (path_in tables (run_at tables n))))

  pub uses_most : length (section_uses tables section (run_at tables n)) ≤ PATH_HOPS
  uses_most =
      let path = path_in tables (run_at tables n) in
      let moved = map (use_in_section tables section) (stairway path) in
      omega (arith, few_pass (λ (u : Use). ltb u.block (length section.blocks)) moved, length-map (stairway path) (use_in_section tables section), length-map-range_with_len (use_of path) 1 (hop_count path), (path_at_fits tables sound n l).most)

  -- two blocks have two positions
  positions_apart : (i j : ℕ) → i < length tables.blocks → j < length tables.blocks
      → position_in_section tables section i < length section.blocks
      → position_in_section tables section i ≡ position_in_section tables section j → i ≡ j
  positions_apart i j li lj inside same =
      let first = passes_at_first (λ (m : List ℕ). is_same m (block_name tables i)) section.blocks [] inside in
      let second = passes_at_first (λ (m : List ℕ). is_same m (block_name tables j)) section.blocks [] (omega (arith, inside, same)) in
      let names : block_name tables i ≡ block_name tables j =
      sym (same_name (get_or section.blocks (position_in_section tables section i) []) (block_name tables i) first)
      ∙ ap (λ k. get_or section.blocks k []) same
      ∙ same_name (get_or section.blocks (position_in_section tables section j) []) (block_name tables j) second in
      elim (cases_eq i j) [
        | inl e ↦ e
        | inr differ ↦ absurd (both_ways (is_same (block_name tables i) (block_name tables j))
            (names_apart (λ (b : Block). b.name) tables.blocks no_block sound.blocks.names i j li lj differ)
            (is_same-from (block_name tables i) (block_name tables j) names))
      ]

  moved_apart : AllPairs (λ (u : Use) (v : Use). u.block < length section.blocks → u.block ≢ v.block)
      (map (use_in_section tables section) (stairway (path_in tables (run_at tables n))))
  moved_apart =
      let path = path_in tables (run_at tables n) in
      let uses = stairway path in
      let block = λ (u : Use). u.block in
      let there = used_there tables sound n l in
      AllPairs-map (use_in_section tables section) (λ (u : Use) (v : Use). u.block < length section.blocks → u.block ≢ v.block) uses
      (λ i j d before below.
      let first : i < length uses = omega (arith, before, below) in
      let differ = blocks_differ path (path_at_fits tables sound n l) i j d.block before (omega (arith, below, length-map uses block)) in
      λ inside same.
      differ (get_or-map block uses i d d.block first
      ∙ positions_apart (get_or uses i d).block (get_or uses j d).block (there i d first) (there j d below) inside same
      ∙ sym (get_or-map block uses j d d.block below)))

  -- no block is used twice
  pub uses_apart : AllPairs (λ (u : Use) (v : Use). u.block ≢ v.block) (section_uses tables section (run_at tables n))
  uses_apart i j d before below =
      let uses = section_uses tables section (run_at tables n) in
      AllPairs-filter (λ (u : Use) (v : Use). u.block < length section.blocks → u.block ≢ v.block)
      (λ (u : Use). ltb u.block (length section.blocks))
      (map (use_in_section tables section) (stairway (path_in tables (run_at tables n)))) moved_apart i j d before below
      (ltb-true (get_or uses i d).block (length section.blocks) (uses_inside i d (omega (arith, before, below))))

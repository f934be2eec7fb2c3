-- No rule refuses an edit of the base, and they leave its tables.
use Rattle.std.proofs.Common.{◌≡◌, ℕ, ◌+◌, ◌*◌, ◌/◌, ◌<◌, ◌≤◌, true, false, None, List, [], ◌∷◌, ◌++◌, length, map, ◌-◌, refl, ap, slice_index_or, subst, ◌∙◌, mod-lt, arith}
use Rattle.std.specs.Prelude.{not, ◌&&◌, nat_le, nat_lt}
use Rattle.std.specs.List.{list_all, range_with_len}
use Rattle.std.specs.Cmp.Derive.{both_true}
use Rattle.std.proofs.lemmas.Bool.{lt-ltb, le-leb, not-true}
use Rattle.std.proofs.lemmas.Bool.Decides.{nat_tests}
use Rattle.std.proofs.lemmas.List.FromFn.{length-map-range_with_len, get_or-map-range_with_len}
use Rattle.std.proofs.lemmas.List.Sums.{list_all-from_AllPass}
use Rattle.rail_model.specs.declared.items.Block.{Block}
use Rattle.rail_model.specs.declared.items.Signal.{Signal}
use Rattle.rail_model.specs.declared.items.Run.{Run}
use Rattle.rail_model.specs.declared.items.Section.{Section}
use Rattle.rail_model.specs.declared.items.Item.{Item}
use Rattle.rail_model.specs.declared.items.Item.TheVariants as item
use Rattle.rail_model.specs.declared.tables.Tables.{Tables}
use Rattle.rail_model.specs.Name.{has_repeat}
use Rattle.rail_model.specs.Within.{no_leg, is_block_within, is_leg_within, is_run_within, last_dwell, is_section_within, is_within}
use Rattle.rail_model.specs.Rules.{no_tables, rule_of, rule_of_put, is_taken, is_full, refers_to_known, repeats, miscounts_legs, repeats_block, is_named}
use Rattle.made_line.specs.Base.{next_number, draw, after_draws, block_name, signal_name, made_block, block_of, first_blocks, made_signal, first_signals, signal_names, made_route, made_leg, first_legs, made_run, run_from, first_runs, made_runs, block_names, made_section, first_sections, put_block, put_signal, put_route, put_run, put_section, base_edits, base_tables}
use Rattle.made_line.proofs.Lists.{joined_base}
use Rattle.made_line.proofs.Images.{All-images, All-images_from}
use Rattle.made_line.proofs.Rising.{tested, blocks_rise, signals_rise, runs_rise, sections_rise}
use Rattle.made_line.specs.Laws.{Make}
use Rattle.made_line.proofs.Puts.{make_none, make_first, make_then, make_first_items, named_image}

-- ---- tests of numbers

small_draw : (x below : ℕ) → 0 < below → draw x below < below
small_draw x below some = mod-lt (next_number x / 65536) some

from_one : (n most : ℕ) → 0 < n → n ≤ most → (nat_lt 0 n && nat_le n most) ≡ true
from_one n most some within = both_true (lt-ltb 0 n some) (le-leb n most within)

room : (most count k : ℕ) → count ≡ k → k < most → nat_le most count ≡ false
room most count k is below = grind (arith, nat_tests, is, below)

-- the put of an item that passes all tests
accepted_put : (tables : Tables) (x : Item) → is_within x ≡ true → is_taken tables x ≡ false → is_full tables x ≡ false
    → refers_to_known tables x ≡ true → repeats tables x ≡ false → miscounts_legs tables x ≡ false
    → rule_of_put tables x ≡ None
accepted_put tables x within new fits known once counted = rw (within, new, fits, known, once, counted) refl

-- ---- blocks

block_within : (x i : ℕ) → is_block_within (made_block x i) ≡ true
block_within x i = from_one (1000 + draw x 1000) 1000000 (omega arith) (omega (arith, small_draw x 1000 (omega arith)))

abbrev with_blocks : List Block → Tables
with_blocks blocks = record no_tables { blocks = blocks }

blocks_put : (n count : ℕ) → count ≤ 64 → Make no_tables (map put_block (first_blocks n count)) (with_blocks (first_blocks n count))
unfolding first_blocks
blocks_put n count most =
    make_first_items (λ (b : Block). b.name) (block_of n) 64 blocks_rise put_block with_blocks (λ items x. refl)
    (λ k below new. accepted_put (with_blocks (map (block_of n) (range_with_len 0 k))) (item.Block (block_of n k))
    (block_within (after_draws n k) k) (rw new refl)
    (room 4096 _ k (length-map-range_with_len (block_of n) 0 k) (omega (arith, below))) refl refl refl)
    count most

known_block : (n count i : ℕ) → i < count → is_named (λ b. b.name) (first_blocks n count) (block_name i) ≡ true
unfolding first_blocks
known_block n count i below = named_image (λ (b : Block). b.name) (block_of n) count i (block_name i) below refl

-- ---- signals

abbrev with_signals : ℕ → List Signal → Tables
with_signals n signals = record no_tables { blocks = first_blocks n 64; signals = signals }

signals_put : (n count : ℕ) → count ≤ 64
    → Make (with_blocks (first_blocks n 64)) (map put_signal (first_signals count)) (with_signals n (first_signals count))
unfolding first_signals
signals_put n count most =
    make_first_items (λ (s : Signal). s.name) made_signal 64 signals_rise put_signal (with_signals n) (λ items x. refl)
    (λ k below new. accepted_put (with_signals n (map made_signal (range_with_len 0 k))) (item.Signal (made_signal k)) refl new
    (room 8192 _ k (length-map-range_with_len made_signal 0 k) (omega (arith, below))) (known_block n 64 k below) refl refl)
    count most

known_signals : (count most : ℕ) → count ≤ most
    → list_all (is_named (λ s. s.name) (first_signals most)) (signal_names count) ≡ true
unfolding first_signals signal_names
known_signals count most within =
    list_all-from_AllPass (is_named (λ (s : Signal). s.name) (map made_signal (range_with_len 0 most)))
    (map signal_name (range_with_len 0 count))
    (All-images (λ m. is_named (λ (s : Signal). s.name) (map made_signal (range_with_len 0 most)) m ≡ true) signal_name count
    (λ i below. named_image (λ (s : Signal). s.name) made_signal most i (signal_name i) (omega (arith, within, below)) refl))

length_signal_names : (count : ℕ) → length (signal_names count) ≡ count
unfolding signal_names
length_signal_names count = length-map-range_with_len signal_name 0 count

-- ---- the route

route_once : (n : ℕ) → repeats_block (with_signals n (first_signals 64)) made_route ≡ false
unfolding first_signals signal_names
route_once n = refl

route_put : (n : ℕ) → rule_of (with_signals n (first_signals 64)) (put_route made_route) ≡ None
route_put n =
    accepted_put (with_signals n (first_signals 64)) (item.Route made_route) (rw (length_signal_names 64) refl) refl refl
    (known_signals 64 64 (omega arith)) (route_once n) refl

-- ---- runs

length_legs : (x count : ℕ) → length (first_legs x count) ≡ count
unfolding first_legs
length_legs x count = length-map-range_with_len (λ j. made_leg (after_draws x j)) 0 count

leg_within : (x : ℕ) → is_leg_within (made_leg x) ≡ true
leg_within x = both_true (from_one (40 + draw x 11) 86400 (omega arith) (omega (arith, small_draw x 11 (omega arith)))) refl

legs_within : (x count : ℕ) → list_all is_leg_within (first_legs x count) ≡ true
unfolding first_legs
legs_within x count =
    list_all-from_AllPass is_leg_within (map (λ j. made_leg (after_draws x j)) (range_with_len 0 count))
    (All-images (λ leg. is_leg_within leg ≡ true) (λ j. made_leg (after_draws x j)) count
    (λ j below. leg_within (after_draws x j)))

no_last_dwell : (x count last : ℕ) → last + 1 ≡ count → last_dwell (first_legs x count) ≡ 0
unfolding first_legs
no_last_dwell x count last is =
    let legs = map (λ j. made_leg (after_draws x j)) (range_with_len 0 count) in
    let at_last : length legs - 1 ≡ last = omega (arith, length_legs x count, is) in
    ap (λ i. (slice_index_or legs i no_leg).dwell_s) at_last
    ∙ ap (λ leg. leg.dwell_s)
    (get_or-map-range_with_len (λ j. made_leg (after_draws x j)) 0 count last last no_leg (omega (arith, is)) (omega arith))

pub run_from_within : (x i start : ℕ) → start ≤ 604800 → is_run_within (record (made_run x i) { start_s = start }) ≡ true
run_from_within x i start early =
    let legs = next_number x in
    both_true
    (both_true
    (both_true
    (both_true
    (both_true (rw (length_legs legs 64) refl) (from_one (100 + draw x 300) 1000000 (omega arith) (omega (arith, small_draw x 300 (omega arith)))))
    refl)
    (le-leb start 604800 early))
    (legs_within legs 64))
    (rw (no_last_dwell legs 64 63 refl) refl)

run_within : (x i : ℕ) → i < 300 → is_run_within (made_run x i) ≡ true
run_within x i below = run_from_within x i (1000 + 300 * i) (omega (arith, below))

abbrev with_runs : ℕ → List Run → Tables
with_runs n runs = record no_tables { blocks = first_blocks n 64; signals = first_signals 64; routes = made_route ∷ []; runs = runs }

pub run_counted : (n x i : ℕ) (runs : List Run) → miscounts_legs (with_runs n runs) (item.Run (made_run x i)) ≡ false
run_counted n x i runs = rw (length_legs (next_number x) 64, length_signal_names 64) refl

runs_put : (n x count : ℕ) → count ≤ 300
    → Make (with_runs n []) (map put_run (first_runs x count)) (with_runs n (first_runs x count))
unfolding first_runs
runs_put n x count most =
    make_first_items (λ (r : Run). r.name) (run_from x) 300 runs_rise put_run (with_runs n) (λ items r. refl)
    (λ k below new. accepted_put (with_runs n (map (run_from x) (range_with_len 0 k))) (item.Run (run_from x k))
    (run_within (after_draws x (65 * k)) k below) new
    (room 2048 _ k (length-map-range_with_len (run_from x) 0 k) (omega (arith, below))) refl refl
    (run_counted n (after_draws x (65 * k)) k (map (run_from x) (range_with_len 0 k))))
    count most

-- ---- sections

length_block_names : (first count : ℕ) → length (block_names first count) ≡ count
unfolding block_names
length_block_names first count = length-map-range_with_len block_name first count

known_blocks : (n first count : ℕ) → first + count ≤ 64
    → list_all (is_named (λ b. b.name) (first_blocks n 64)) (block_names first count) ≡ true
unfolding block_names
known_blocks n first count within =
    list_all-from_AllPass (is_named (λ (b : Block). b.name) (first_blocks n 64)) (map block_name (range_with_len first count))
    (All-images_from (λ m. is_named (λ (b : Block). b.name) (first_blocks n 64) m ≡ true) block_name first count
    (λ k below. known_block n 64 (first + k) (omega (arith, within, below))))

names_once : (j : ℕ) → j < 8 → has_repeat (block_names (8 * j) 8) ≡ false
unfolding block_names
names_once j below = not-true _ (tested (λ k. not (has_repeat (block_names (8 * k) 8))) 8 refl j below)

section_within : (j : ℕ) → is_section_within (made_section j) ≡ true
section_within j = rw (length_block_names (8 * j) 8) refl

abbrev with_sections : ℕ → List Section → Tables
with_sections n sections = record (base_tables n) { sections = sections }

sections_put : (n count : ℕ) → count ≤ 8
    → Make (with_sections n []) (map put_section (first_sections count)) (with_sections n (first_sections count))
unfolding first_sections
sections_put n count most =
    make_first_items (λ (s : Section). s.name) made_section 8 sections_rise put_section (with_sections n) (λ items s. refl)
    (λ k below new. accepted_put (with_sections n (map made_section (range_with_len 0 k))) (item.Section (made_section k))
    (section_within k) new
    (room 64 _ k (length-map-range_with_len made_section 0 k) (omega (arith, below)))
    (known_blocks n (8 * k) 8 (omega (arith, below))) (names_once k below) refl)
    count most

-- ---- the base

pub base_made : (n : ℕ) → Make no_tables (base_edits n) (base_tables n)
base_made n =
    let blocks = map put_block (first_blocks n 64) in
    let signals = map put_signal (first_signals 64) in
    let route = put_route made_route ∷ [] in
    let runs = map put_run (made_runs n) in
    subst (λ edits. Make no_tables edits (base_tables n)) (joined_base n)
    (make_then no_tables (((blocks ++ signals) ++ route) ++ runs) (map put_section (first_sections 8)) (with_sections n []) (base_tables n)
    (make_then no_tables ((blocks ++ signals) ++ route) runs (with_runs n []) (with_sections n [])
    (make_then no_tables (blocks ++ signals) route (with_signals n (first_signals 64)) (with_runs n [])
    (make_then no_tables blocks signals (with_blocks (first_blocks n 64)) (with_signals n (first_signals 64)) (blocks_put n 64 (omega arith))
    (signals_put n 64 (omega arith)))
    (make_first (with_signals n (first_signals 64)) (put_route made_route) [] (with_runs n []) (route_put n) (make_none (with_runs n []))))
    (runs_put n (after_draws n 64) 300 (omega arith)))
    (sections_put n 8 (omega arith)))

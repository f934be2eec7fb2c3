-- Each row of the made line's text spells its line, and is short.
use Rattle.std.proofs.Common.{◌≡◌, ℕ, zero, suc, ◌+◌, ◌*◌, ◌/◌, ◌%◌, ◌<◌, ◌≤◌, true, List, [], ◌∷◌, ◌++◌, length, map, Ok, decimal, refl, ◌∙◌, subst, sym, mod-lt, arith}
use Rattle.std.specs.Prelude.{codes, slice_index_or}
use Rattle.std.specs.List.{flat_map, enumerate_from, list_all, range_with_len}
use Rattle.std.specs.Cmp.Derive.{both_true}
use Rattle.std.proofs.lemmas.List.{length-map}
use Rattle.std.proofs.lemmas.List.FromFn.{get_or-map-range_with_len}
use Rattle.std.proofs.lemmas.Fmt.{length-decimal-le}
use Rattle.rail_model.specs.Tables.{no_run}
use Rattle.rail_model.specs.Name.{is_name}
use Rattle.rail_model.specs.declared.edit.Kind.TheVariants as kind
use Rattle.rail_model.specs.declared.edit.Edit.{Edit}
use Rattle.rail_model.specs.declared.edit.Edit.TheVariants as edit
use Rattle.rail_model.specs.declared.items.Block.{Block}
use Rattle.rail_model.specs.declared.items.Signal.{Signal}
use Rattle.rail_model.specs.declared.items.Leg.{Leg}
use Rattle.rail_model.specs.declared.items.Route.{Route}
use Rattle.rail_model.specs.declared.items.Run.{Run}
use Rattle.rail_model.specs.declared.items.Section.{Section}
use Rattle.rail_model.specs.declared.items.Item.TheVariants as item
use Rattle.row_text.specs.declared.line.Line.{Line}
use Rattle.row_text.specs.declared.line.Line.TheVariants as line
use Rattle.row_text.specs.SheetRows.{Row}
use Rattle.row_text.specs.Words.{name_in, time_in, kind_shape, word_of, allows}
use Rattle.row_text.specs.Lines.{read_each, legs_of, item_in, read_in, leg_times, time_text, item_fields, row_in}
use Rattle.row_text.proofs.Numbers.{number_in-decimal, rate_in-decimal}
use Rattle.row_text.proofs.Says.{Name, Says, Each}
use Rattle.plan_model.specs.declared.scripts.Task.{Task}
use Rattle.made_line.specs.Base.{next_number, draw, after_draws, is_printed, digit, block_name, signal_name, run_name, section_name, block_of, first_blocks, made_signal, first_signals, signal_names, made_route, made_leg, first_legs, made_run, run_from, first_runs, made_runs, block_names, made_section, first_sections, put_block, put_signal, put_route, put_run, put_section, base_edits, change_run, change_task, ask_task, first_tasks, first_scripts, scripts_of_made}
use Rattle.made_line.specs.Text.{line_of, script_lines, lines_of_scripts, made_lines}
use Rattle.made_line.proofs.NameTests.{digit_is_printed, named}
use Rattle.made_line.proofs.Lists.{joined_base}
use Rattle.made_line.proofs.HowMany.{length_scripts}

-- ---- what holds of each of a list

each_append : {X : Type 0} (P : X → Type 0) (xs ys : List X) → Each P xs → Each P ys → Each P (xs ++ ys)
each_append P [] ys first rest = rest
each_append P (x ∷ xs) ys first rest = (first.0, each_append P xs ys first.1 rest)

each_map : {X Y : Type 0} (P : Y → Type 0) (f : X → Y) (xs : List X) → Each (λ x. P (f x)) xs → Each P (map f xs)
each_map P f [] each = tt
each_map P f (x ∷ xs) each = (each.0, each_map P f xs each.1)

each_flat_map : {X Y : Type 0} (P : Y → Type 0) (f : X → List Y) (xs : List X) → Each (λ x. Each P (f x)) xs → Each P (flat_map f xs)
each_flat_map P f [] each = tt
each_flat_map P f (x ∷ xs) each = each_append P (f x) (flat_map f xs) each.0 (each_flat_map P f xs each.1)

each_number : (P : ℕ → Type 0) (first count : ℕ) → ((k : ℕ) → first ≤ k → k < first + count → P k) → Each P (range_with_len first count)
each_number P first zero h = tt
each_number P first (suc count) h =
    (h first (omega arith) (omega arith), each_number P (first + 1) count (λ k above below. h k (omega (arith, above)) (omega (arith, below))))

each_image : {X : Type 0} (P : X → Type 0) (f : ℕ → X) (first count : ℕ)
    → ((k : ℕ) → first ≤ k → k < first + count → P (f k)) → Each P (map f (range_with_len first count))
each_image P f first count h =
    each_map P f (range_with_len first count) (each_number (λ k. P (f k)) first count h)

-- ---- a line whose row is read back, and is short

abbrev Fits : List ℕ → Type 0
Fits field = length field ≤ 64

pub record IsPlain (l : Line) : Type 0 where
  pub reads : read_in 1 (row_in 1 l) ≡ Ok l
  pub few : length (row_in 1 l) ≤ 134
  pub short : Each Fits (row_in 1 l)

abbrev IsPlainEdit : Edit → Type 0
IsPlainEdit e = IsPlain (line.Edit e)

-- numbers, and names
abbrev Small : ℕ → Type 0
Small n = n < 1000000000

decimal_fits : (n : ℕ) → Small n → Fits (decimal n)
decimal_fits n small = omega (arith, length-decimal-le 9 n (omega arith) (omega (arith, small)) (omega (arith, small)))

small_draw : (x base below : ℕ) → 0 < below → base + below ≤ 1000000000 → Small (base + draw x below)
small_draw x base below some few = omega (arith, few, mod-lt (next_number x / 65536) {m = below} some)

abbrev Named : List ℕ → Type 0
Named n = Says Name n × Fits n

read_names : (names : List (List ℕ)) → Each Named names → (read_each name_in names ≡ Ok names) × Each Fits names
read_names [] each = (refl, tt)
read_names (n ∷ names) each =
    let rest = read_names names each.1 in (rw (each.0.0, rest.0) refl, (each.0.1, rest.1))

read_times : (times : List ℕ) → Each Small times
    → (read_each (time_in 1) (map (time_text 1) times) ≡ Ok times) × Each Fits (map (time_text 1) times)
read_times [] each = (refl, tt)
read_times (t ∷ times) each =
    let rest = read_times times each.1 in (rw (number_in-decimal t each.0, rest.0) refl, (decimal_fits t each.0, rest.1))

-- ---- the names of the made line

printed_name : (bytes : List ℕ) → 0 < length bytes → length bytes ≤ 64 → list_all is_printed bytes ≡ true → Named bytes
printed_name bytes some short is =
    let name : is_name bytes ≡ true = named bytes some short is in (rw name refl, short)

printed : (digits : List ℕ) → Each (λ d. d < 10) digits → list_all is_printed (map digit digits) ≡ true
printed [] each = refl
printed (d ∷ digits) each = both_true (digit_is_printed d each.0) (printed digits each.1)

digits_name : (letter : ℕ) (digits : List ℕ) → is_printed letter ≡ true → length digits ≤ 3 → Each (λ d. d < 10) digits
    → Named (letter ∷ map digit digits)
digits_name letter digits is few each =
    printed_name (letter ∷ map digit digits) (omega arith) (omega (arith, few, length-map digits digit))
    (both_true is (printed digits each))

two_digits : (letter i : ℕ) → is_printed letter ≡ true → i < 100 → Named (letter ∷ digit (i / 10) ∷ digit (i % 10) ∷ [])
two_digits letter i is below =
    digits_name letter (i / 10 ∷ i % 10 ∷ []) is (omega arith) (omega (arith, below), (mod-lt i (omega arith), tt))

block_named : (i : ℕ) → i < 64 → Named (block_name i)
block_named i below = two_digits 98 i refl (omega (arith, below))

signal_named : (i : ℕ) → i < 64 → Named (signal_name i)
signal_named i below = two_digits 115 i refl (omega (arith, below))

run_named : (i : ℕ) → i < 300 → Named (run_name i)
run_named i below =
    digits_name 114 (i / 100 ∷ i / 10 % 10 ∷ i % 10 ∷ []) refl (omega arith)
    (omega (arith, below), (mod-lt (i / 10) (omega arith), (mod-lt i (omega arith), tt)))

section_named : (j : ℕ) → j < 8 → Named (section_name j)
section_named j below = digits_name 113 (j ∷ []) refl (omega arith) (omega (arith, below), tt)

-- ---- blocks, signals, routes and sections

block_plain : (b : Block) → Named b.name → Small b.length_m → IsPlainEdit (put_block b)
unfolding word_of
block_plain b name small = record {
  reads = rw (name.0, number_in-decimal b.length_m small) refl;
  few = omega arith;
  short = (omega arith, (name.1, (decimal_fits b.length_m small, tt)));
}

signal_plain : (s : Signal) → Named s.name → Named s.block → Small s.approach_m → Small s.watch_s → Small s.form_s
    → Small s.overlap_m → Small s.release_s → IsPlainEdit (put_signal s)
unfolding word_of
signal_plain s name block a w f o r = record {
  reads = rw (name.0, block.0, number_in-decimal s.approach_m a, number_in-decimal s.watch_s w, number_in-decimal s.form_s f, number_in-decimal s.overlap_m o, number_in-decimal s.release_s r) refl;
  few = omega arith;
  short = (
    omega arith,
    (
      name.1,
      (
        block.1,
        (
          decimal_fits s.approach_m a,
          (
            decimal_fits s.watch_s w,
            (decimal_fits s.form_s f, (decimal_fits s.overlap_m o, (decimal_fits s.release_s r, tt))),
          ),
        ),
      ),
    ),
  );
}

route_plain : (r : Route) → Named r.name → Each Named r.signals → length r.signals ≡ 64 → IsPlainEdit (put_route r)
unfolding word_of
route_plain r name signals count =
    let row : Row = codes "route" ∷ item_fields 1 (item.Route r) in
    let names = read_names r.signals signals in
    let read : item_in 1 kind.Route row ≡ Ok (item.Route r) = rw (name.0, names.0) refl in
    let allowed : allows (kind_shape kind.Route) (length row) ≡ true = rw count refl in
    record { reads = rw (allowed, read) refl; few = omega (arith, count); short = (omega arith, (name.1, names.1)) }

made_route_plain : IsPlainEdit (put_route made_route)
unfolding signal_names
made_route_plain =
    route_plain made_route (printed_name (codes "line") (omega arith) (omega arith) refl)
    (each_image Named signal_name 0 64 (λ i above below. signal_named i below)) refl

section_plain : (s : Section) → Named s.name → Small s.from_s → Small s.to_s → Small s.add_percent → Each Named s.blocks
    → length s.blocks ≡ 8 → IsPlainEdit (put_section s)
unfolding word_of
section_plain s name from to add blocks count =
    let row : Row = codes "section" ∷ item_fields 1 (item.Section s) in
    let names = read_names s.blocks blocks in
    let read : item_in 1 kind.Section row ≡ Ok (item.Section s) =
    rw (name.0, number_in-decimal s.from_s from, number_in-decimal s.to_s to, rate_in-decimal s.add_percent add, names.0) refl
    in
    let allowed : allows (kind_shape kind.Section) (length row) ≡ true = rw count refl in
    record {
      reads = rw (allowed, read) refl;
      few = omega (arith, count);
      short = (omega arith, (name.1, (decimal_fits s.from_s from, (decimal_fits s.to_s to, (decimal_fits s.add_percent add, names.1)))));
    }

section_blocks : (j : ℕ) → j < 8 → Each Named (block_names (8 * j) 8) × (length (block_names (8 * j) 8) ≡ 8)
unfolding block_names
section_blocks j below = (each_image Named block_name (8 * j) 8 (λ k above under. block_named k (omega (arith, below, under))), refl)

-- ---- runs

record HasTimes (legs : List Leg) : Type 0 where
  again : legs_of (leg_times legs) ≡ legs
  small : Each Small (leg_times legs)
  count : length (leg_times legs) ≡ 127

times_small : (x : ℕ → ℕ) (ks : List ℕ) → Each Small (leg_times (map (λ k. made_leg (x k)) ks))
times_small x [] = tt
times_small x (k ∷ []) = (small_draw (x k) 40 11 (omega arith) (omega arith), tt)
times_small x (k ∷ l ∷ ks) = (small_draw (x k) 40 11 (omega arith) (omega arith), (omega arith, times_small x (l ∷ ks)))

made_times : (x : ℕ) → HasTimes (first_legs x 64)
unfolding first_legs
made_times x = record { again = refl; small = times_small (after_draws x) (range_with_len 0 64); count = refl }

-- a run that is put, and one that is changed
run_plain : (r : Run) → Named r.name → Named r.route → Small r.length_m → Small r.tail_s → Small r.start_s → HasTimes r.legs
    → IsPlainEdit (put_run r) × IsPlainEdit (edit.Change (item.Run r))
unfolding word_of
run_plain r name route long tail start legs =
    let fields = item_fields 1 (item.Run r) in
    let times = read_times (leg_times r.legs) legs.small in
    let read : (w : List ℕ) → item_in 1 kind.Run (w ∷ fields) ≡ Ok (item.Run r) = λ w.
    rw (name.0, route.0, number_in-decimal r.length_m long, number_in-decimal r.tail_s tail, number_in-decimal r.start_s start, times.0, legs.again) refl
    in
    let count : length (map (time_text 1) (leg_times r.legs)) ≡ 127 = length-map (leg_times r.legs) (time_text 1) ∙ legs.count in
    let allowed : (w : List ℕ) → allows (kind_shape kind.Run) (length (w ∷ fields)) ≡ true = λ w. rw count refl in
    let short : Each Fits fields =
    (name.1, (route.1, (decimal_fits r.length_m long, (decimal_fits r.tail_s tail, (decimal_fits r.start_s start, times.1))))) in
    let put : List ℕ = codes "run" in
    let change : List ℕ = codes "change-run" in (
      record { reads = rw (allowed put, read put) refl; few = omega (arith, count); short = (omega arith, short) },
      record { reads = rw (allowed change, read change) refl; few = omega (arith, count); short = (omega arith, short) },
    )

-- a made run, whenever it starts
abbrev starting : ℕ → ℕ → ℕ → Run
starting x i start = record (made_run x i) { start_s = start }

made_run_plain : (x i start : ℕ) → i < 300 → Small start
    → IsPlainEdit (put_run (starting x i start)) × IsPlainEdit (edit.Change (item.Run (starting x i start)))
made_run_plain x i start below small =
    run_plain (starting x i start) (run_named i below) (printed_name (codes "line") (omega arith) (omega arith) refl)
    (small_draw x 100 300 (omega arith) (omega arith)) (omega arith) small (made_times (next_number x))

-- ---- rows of scripts

change_plain : (n p k : ℕ) → p ≤ 4 → k < 16 → IsPlain (line_of (change_task (made_runs n) p k))
unfolding first_runs
change_plain n p k last below =
    let x = after_draws n 64 in
    let i = 60 * p + k in
    let run : slice_index_or (made_runs n) i no_run ≡ run_from x i =
    get_or-map-range_with_len (run_from x) 0 300 i i no_run (omega (arith, last, below)) (omega arith)
    in
    subst (λ r. IsPlainEdit (change_run r)) (sym run)
    (made_run_plain (after_draws x (65 * i)) i (1000 + 300 * i + 30) (omega (arith, last, below)) (omega (arith, last, below))).1

ask_plain : (name : List ℕ) → Named name → IsPlain (line.Ask name)
unfolding word_of
ask_plain name is = record { reads = rw is.0 refl; few = omega arith; short = (omega arith, (is.1, tt)) }

planner_plain : (planner : ℕ) → Small planner → IsPlain (line.Planner planner)
unfolding word_of
planner_plain planner small = record {
  reads = rw (number_in-decimal planner small) refl;
  few = omega arith;
  short = (omega arith, (decimal_fits planner small, tt));
}

abbrev AreTasks : List Task → Type 0
AreTasks tasks = Each (λ t. IsPlain (line_of t)) tasks

tasks_plain : (n p : ℕ) → p ≤ 4 → AreTasks (first_tasks (made_runs n) p 16)
unfolding first_tasks
tasks_plain n p last =
    each_flat_map (λ t. IsPlain (line_of t)) (λ k. change_task (made_runs n) p k ∷ ask_task k ∷ []) (range_with_len 0 16)
    (each_number (λ k. AreTasks (change_task (made_runs n) p k ∷ ask_task k ∷ [])) 0 16
    (λ k above below. (change_plain n p k last below, (ask_plain (section_name (k % 8)) (section_named (k % 8) (mod-lt k (omega arith))), tt))))

scripts_plain : (first : ℕ) (scripts : List (List Task)) → first + length scripts ≤ 1000 → Each AreTasks scripts
    → Each IsPlain (flat_map (λ s. script_lines s.0 s.1) (enumerate_from first scripts))
scripts_plain first [] few each = tt
scripts_plain first (s ∷ scripts) few each =
    each_append IsPlain (script_lines first s) (flat_map (λ t. script_lines t.0 t.1) (enumerate_from (first + 1) scripts))
    (planner_plain first (omega (arith, few)), each_map IsPlain line_of s each.0)
    (scripts_plain (first + 1) scripts (omega (arith, few)) each.1)

made_scripts_plain : (n : ℕ) → Each AreTasks (scripts_of_made n)
unfolding first_scripts
made_scripts_plain n = each_image AreTasks (λ p. first_tasks (made_runs n) p 16) 1 4 (λ p above below. tasks_plain n p (omega (arith, below)))

-- ---- all rows

puts_plain : {X : Type 0} (put : X → Edit) (f : ℕ → X) (count : ℕ) → ((k : ℕ) → k < count → IsPlainEdit (put (f k)))
    → Each IsPlainEdit (map put (map f (range_with_len 0 count)))
puts_plain put f count each =
    each_map IsPlainEdit put (map f (range_with_len 0 count))
    (each_image (λ x. IsPlainEdit (put x)) f 0 count (λ k above below. each k (omega (arith, below))))

base_plain : (n : ℕ) → Each IsPlainEdit (base_edits n)
unfolding first_blocks first_signals first_runs first_sections
base_plain n =
    let x = after_draws n 64 in
    let blocks = map put_block (first_blocks n 64) in
    let signals = map put_signal (first_signals 64) in
    let route = put_route made_route ∷ [] in
    let runs = map put_run (made_runs n) in
    subst (Each IsPlainEdit) (joined_base n)
    (each_append IsPlainEdit (((blocks ++ signals) ++ route) ++ runs) (map put_section (first_sections 8))
    (each_append IsPlainEdit ((blocks ++ signals) ++ route) runs
    (each_append IsPlainEdit (blocks ++ signals) route
    (each_append IsPlainEdit blocks signals
    (puts_plain put_block (block_of n) 64 (λ i below. block_plain (block_of n i) (block_named i below) (small_draw (after_draws n i) 1000 1000 (omega arith) (omega arith))))
    (puts_plain put_signal made_signal 64 (λ i below. signal_plain (made_signal i) (signal_named i below) (block_named i below) (omega arith) (omega arith) (omega arith) (omega arith) (omega arith))))
    (made_route_plain, tt))
    (puts_plain put_run (run_from x) 300 (λ i below. (made_run_plain (after_draws x (65 * i)) i (1000 + 300 * i) below (omega (arith, below))).0)))
    (puts_plain put_section made_section 8 (λ j below. let blocks = section_blocks j below in section_plain (made_section j) (section_named j below) (omega arith) (omega arith) (omega arith) blocks.0 blocks.1)))

pub made_plain : (n : ℕ) → Each IsPlain (made_lines n)
unfolding made_lines
made_plain n =
    each_append IsPlain (map line.Edit (base_edits n)) (lines_of_scripts (scripts_of_made n))
    (each_map IsPlain line.Edit (base_edits n) (base_plain n))
    (scripts_plain 1 (scripts_of_made n) (omega (arith, length_scripts n)) (made_scripts_plain n))

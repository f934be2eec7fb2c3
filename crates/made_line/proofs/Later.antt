-- Where some runs are later, the change of a run is accepted, and leaves that run later, too.
use Rattle.std.proofs.Common.{◌≡◌, ℕ, ◌+◌, ◌*◌, ◌<◌, ◌≤◌, Bool, true, false, ◌||◌, ◌==◌, if◌then◌else◌, cond, None, List, [], ◌∷◌, get_or, inl, inr, refl, sym, ap, subst, ◌∙◌, arith}
use Rattle.std.specs.Prelude.{All, nat_lt, fold}
use Rattle.std.specs.List.{range_with_len}
use Rattle.std.proofs.lemmas.Bool.{cases_Bool, cases_order, eqb-true, eq-eqb}
use Rattle.std.proofs.lemmas.Bool.Decides.{nat_tests}
use Rattle.std.proofs.lemmas.List.Elements.{All-head, All-tail}
use Rattle.std.proofs.lemmas.List.FromFn.{get_or-range_with_len, length-range_with_len}
use Rattle.std.proofs.lemmas.Simd.{map-map}
use Rattle.rail_model.specs.declared.items.Run.{Run}
use Rattle.rail_model.specs.declared.items.Item.{Item}
use Rattle.rail_model.specs.declared.items.Item.TheVariants as item
use Rattle.rail_model.specs.declared.edit.Edit.{Edit}
use Rattle.rail_model.specs.declared.edit.Edit.TheVariants as edit
use Rattle.rail_model.specs.declared.tables.Tables.{Tables}
use Rattle.rail_model.specs.Name.{is_same}
use Rattle.rail_model.specs.Within.{is_within}
use Rattle.rail_model.specs.Rules.{with_changed, after, rule_of, rule_of_change, has, kind_of_item, name_of_item, is_named, refers_to_known, repeats, makes_repeat, miscounts_legs, makes_miscount}
use Rattle.rail_model.proofs.Lists.{map_same}
use Rattle.rail_model.proofs.NameOrder.{is_same-from, is_same-before, is_same-after}
use Rattle.made_line.specs.Base.{after_draws, run_name, run_of, first_runs, later_run, change_run, base_tables}
use Rattle.made_line.specs.Later.{runs_where_later, tables_where_later}
use Rattle.made_line.specs.Laws.{Make}
use Rattle.made_line.proofs.Rising.{runs_rise}
use Rattle.made_line.proofs.Puts.{make_none, make_first, named_image}
use Rattle.made_line.proofs.Accepted.{run_from_within, run_counted}

-- ---- runs of which some are later

abbrev run_where_later : ℕ → (ℕ → Bool) → ℕ → Run
run_where_later n is_later i = if is_later i then later_run (run_of n i) else run_of n i

named : (n : ℕ) (is_later : ℕ → Bool) (i : ℕ) → (run_where_later n is_later i).name ≡ run_name i
named n is_later i = elim (cases_Bool (is_later i)) [ inl e ↦ rw e refl | inr e ↦ rw e refl ]

-- what holds of all numbers below a limit
below_limit : (P : ℕ → Type 0) (count : ℕ) → ((i : ℕ) → i < count → P i) → All P (range_with_len 0 count)
below_limit P count each k d below =
    let within : k < count = omega (arith, below, length-range_with_len 0 count) in
    let same : get_or (range_with_len 0 count) k d ≡ k = omega (arith, get_or-range_with_len 0 count k d within) in
    subst P (sym same) (each k within)

same_runs : (n count : ℕ) (was now : ℕ → Bool) → ((i : ℕ) → i < count → was i ≡ now i)
    → runs_where_later n was count ≡ runs_where_later n now count
unfolding runs_where_later
same_runs n count was now same =
    map_same (run_where_later n was) (run_where_later n now) (range_with_len 0 count)
    (below_limit (λ i. run_where_later n was i ≡ run_where_later n now i) count
    (λ i below. ap (λ b. if b then later_run (run_of n i) else run_of n i) (same i below)))

pub same_tables : (n : ℕ) (was now : ℕ → Bool) → ((i : ℕ) → i < 300 → was i ≡ now i)
    → tables_where_later n was ≡ tables_where_later n now
same_tables n was now same = ap (λ runs. record (base_tables n) { runs = runs }) (same_runs n 300 was now same)

base_runs : (n count : ℕ) → runs_where_later n (λ i. false) count ≡ first_runs (after_draws n 64) count
unfolding runs_where_later first_runs
base_runs n count = refl

pub none_is_later : (n : ℕ) → tables_where_later n (λ i. false) ≡ base_tables n
none_is_later n = ap (λ runs. record (base_tables n) { runs = runs }) (base_runs n 300)

-- ---- the change of a run

pub names_tell : (i j : ℕ) → i < 300 → j < 300 → is_same (run_name i) (run_name j) ≡ (i == j)
names_tell i j i_below j_below =
    elim (cases_order i j) [
      | inl e ↦ is_same-from (run_name i) (run_name j) (ap run_name e) ∙ sym (eq-eqb i j e)
      | inr o ↦ elim o [
        | inl lt ↦
            let apart : (i == j) ≡ false = grind (arith, nat_tests) in
            is_same-before (run_name i) (run_name j) (runs_rise i j lt j_below) ∙ sym apart
        | inr gt ↦
            let apart : (i == j) ≡ false = grind (arith, nat_tests) in
            is_same-after (run_name j) (run_name i) (runs_rise j i gt i_below) ∙ sym apart
      ]
    ]

either : {X : Type 0} (a b : Bool) (x y z : X) → (b ≡ true → y ≡ x)
    → (if b then y else if a then x else z) ≡ (if a || b then x else z)
either true true x y z same = same refl
either true false x y z same = refl
either false true x y z same = same refl
either false false x y z same = refl

one_more_at : (n j : ℕ) (is_later : ℕ → Bool) (i : ℕ) → i < 300 → j < 300
    → (if is_same (run_where_later n is_later i).name (run_name j) then later_run (run_of n j) else run_where_later n is_later i)
    ≡ run_where_later n (λ k. is_later k || (k == j)) i
one_more_at n j is_later i i_below j_below =
    rw (named n is_later i, names_tell i j i_below j_below)
    (either (is_later i) (i == j) (later_run (run_of n i)) (later_run (run_of n j)) (run_of n i)
    (λ same. ap (λ k. later_run (run_of n k)) (sym (eqb-true i j same))))

one_more : (n j count : ℕ) (is_later : ℕ → Bool) → count ≤ 300 → j < 300
    → with_changed (λ r. r.name) (runs_where_later n is_later count) (later_run (run_of n j))
    ≡ runs_where_later n (λ i. is_later i || (i == j)) count
unfolding runs_where_later
one_more n j count is_later most below =
    map-map (λ (r : Run). if is_same r.name (run_name j) then later_run (run_of n j) else r) (run_where_later n is_later) (range_with_len 0 count)
    ∙ map_same _ (run_where_later n (λ i. is_later i || (i == j))) (range_with_len 0 count)
    (below_limit _ count (λ i lt. one_more_at n j is_later i (omega (arith, lt, most)) below))

is_known : (n count j : ℕ) (is_later : ℕ → Bool) → j < count
    → is_named (λ r. r.name) (runs_where_later n is_later count) (run_name j) ≡ true
unfolding runs_where_later
is_known n count j is_later below =
    named_image (λ (r : Run). r.name) (run_where_later n is_later) count j (run_name j) below (named n is_later j)

accepted_change : (tables : Tables) (x : Item) → is_within x ≡ true
    → has tables (kind_of_item x) (name_of_item x) ≡ true → refers_to_known tables x ≡ true
    → repeats tables x ≡ false → makes_repeat tables x ≡ false → miscounts_legs tables x ≡ false → makes_miscount tables x ≡ false
    → rule_of_change tables x ≡ None
accepted_change tables x within there known once still_once counted still_counted =
    rw (within, there, known, once, still_once, counted, still_counted) refl

change_accepted : (n j : ℕ) (is_later : ℕ → Bool) → j < 300 → rule_of (tables_where_later n is_later) (change_run (run_of n j)) ≡ None
change_accepted n j is_later below =
    accepted_change (tables_where_later n is_later) (item.Run (later_run (run_of n j)))
    (run_from_within (after_draws (after_draws n 64) (65 * j)) j (1000 + 300 * j + 30) (omega (arith, below)))
    (is_known n 300 j is_later below) refl refl refl
    (run_counted n (after_draws (after_draws n 64) (65 * j)) j (runs_where_later n is_later 300)) refl

-- ---- edits that make runs later

-- an edit makes a run of the made line later
pub record MakesLater (n : ℕ) (e : Edit) : Type 0 where
  pub number : ℕ
  pub below : number < 300
  pub is : e ≡ change_run (run_of n number)

-- an edit changes the run of a name
abbrev pub changes : List ℕ → Edit → Bool
changes name (edit.Change (item.Run r)) = is_same name r.name
changes name e = false

-- how many edits change a run, with one more
abbrev pub and_times : ℕ → ℕ → Edit → ℕ
and_times i count e = count + cond (changes (run_name i) e) 1 0

-- the runs are later that are counted once at least
abbrev pub where_counted : ℕ → (ℕ → ℕ) → Tables
where_counted n count = tables_where_later n (λ i. nat_lt 0 (count i))

still_some : (count : ℕ) (b : Bool) → (nat_lt 0 count || b) ≡ nat_lt 0 (count + cond b 1 0)
still_some count true = grind (arith, nat_tests)
still_some count false = grind (arith, nat_tests)

after_change : (n j : ℕ) (count : ℕ → ℕ) → j < 300
    → after (where_counted n count) (change_run (run_of n j)) ≡ where_counted n (λ i. and_times i (count i) (change_run (run_of n j)))
after_change n j count below =
    ap (λ runs. record (base_tables n) { runs = runs }) (one_more n j 300 (λ i. nat_lt 0 (count i)) (omega arith) below)
    ∙ same_tables n (λ i. nat_lt 0 (count i) || (i == j)) (λ i. nat_lt 0 (and_times i (count i) (change_run (run_of n j))))
    (λ i lt. rw (names_tell i j lt below) (still_some (count i) (i == j)))

pub makes_one_later : (n : ℕ) (count : ℕ → ℕ) (e : Edit) → MakesLater n e
    → (rule_of (where_counted n count) e ≡ None)
    × (after (where_counted n count) e ≡ where_counted n (λ i. and_times i (count i) e))
makes_one_later n count e h =
    subst (λ e. (rule_of (where_counted n count) e ≡ None)
    × (after (where_counted n count) e ≡ where_counted n (λ i. and_times i (count i) e))) (sym h.is)
    (change_accepted n h.number (λ i. nat_lt 0 (count i)) h.below, after_change n h.number count h.below)

pub make_later : (n : ℕ) (count : ℕ → ℕ) (edits : List Edit) → All (MakesLater n) edits
    → Make (where_counted n count) edits (where_counted n (λ i. fold (and_times i) (count i) edits))
make_later n count [] all = make_none (where_counted n count)
make_later n count (e ∷ edits) all =
    let one = makes_one_later n count e (All-head (MakesLater n) e edits all) in
    make_first (where_counted n count) e edits _ one.0
    (subst (λ t. Make t edits (where_counted n (λ i. fold (and_times i) (and_times i (count i) e) edits))) (sym one.1)
    (make_later n (λ i. and_times i (count i) e) edits (All-tail (MakesLater n) e edits all)))

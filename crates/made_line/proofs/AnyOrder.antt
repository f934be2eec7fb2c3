-- The edits of the scripts, in whatever order, leave the same tables.
use Rattle.std.proofs.Common.{◌≡◌, ℕ, ◌+◌, ◌*◌, ◌<◌, Bool, true, false, ◌==◌, not, if◌then◌else◌, cond, List, [], ◌∷◌, length, map, slice_index_or, refl, sym, ap, subst, ◌∙◌, arith}
use Rattle.std.specs.Prelude.{All, nat_lt, fold, count_by}
use Rattle.std.specs.List.{flat_map, range_with_len}
use Rattle.std.specs.List.Sorted.{IsPermutation}
use Rattle.std.proofs.lemmas.Bool.{ltb-true}
use Rattle.std.proofs.lemmas.List.{length-map}
use Rattle.std.proofs.lemmas.List.Elements.{All-head, All-tail, All-map, All-weaker}
use Rattle.std.proofs.lemmas.List.FromFn.{get_or-map-range_with_len}
use Rattle.std.proofs.lemmas.List.Sorted.{All-permutation, sum_by-IsPermutation, length_permutation}
use Rattle.std.proofs.lemmas.List.Sums.{AllPass-from_list_all}
use Rattle.rail_model.specs.declared.items.Run.{Run}
use Rattle.rail_model.specs.declared.edit.Edit.{Edit}
use Rattle.rail_model.specs.Tables.{no_run}
use Rattle.rail_model.proofs.Lists.{map_same}
use Rattle.made_line.specs.Base.{after_draws, run_name, run_of, run_from, first_runs, made_runs, change_run, first_tasks, first_scripts, scripts_of_made}
use Rattle.made_line.specs.Later.{edits_in, is_changed, later_tables}
use Rattle.made_line.specs.Laws.{Make, AnyOrderMakesOne}
use Rattle.made_line.proofs.Rising.{tested}
use Rattle.made_line.proofs.Later.{MakesLater, changes, and_times, where_counted, names_tell, same_tables, none_is_later, make_later}

-- the numbers of the runs that the scripts change
abbrev changed : List ℕ
changed = flat_map (λ p. map (λ k. 60 * p + k) (range_with_len 0 16)) (range_with_len 1 4)

all_below : All (λ j. j < 300) changed
all_below =
    All-weaker (λ j. nat_lt j 300 ≡ true) (λ j. j < 300) (λ j. ltb-true j 300) changed
    (AllPass-from_list_all (λ j. nat_lt j 300) changed refl)

-- ---- the edits of the scripts

edits_over : (runs : List Run) → edits_in (first_scripts runs 4) ≡ map (λ j. change_run (slice_index_or runs j no_run)) changed
unfolding first_scripts first_tasks
edits_over runs = refl

run_at_number : (x count j : ℕ) → j < count → slice_index_or (first_runs x count) j no_run ≡ run_from x j
unfolding first_runs
run_at_number x count j below = get_or-map-range_with_len (run_from x) 0 count j j no_run below (omega arith)

abbrev change_of : ℕ → ℕ → Edit
change_of n j = change_run (run_of n j)

edits_are : (n : ℕ) → edits_in (scripts_of_made n) ≡ map (change_of n) changed
edits_are n =
    edits_over (made_runs n)
    ∙ map_same (λ j. change_run (slice_index_or (made_runs n) j no_run)) (change_of n) changed
    (All-weaker (λ j. j < 300) (λ j. change_run (slice_index_or (made_runs n) j no_run) ≡ change_of n j)
    (λ j below. ap change_run (run_at_number (after_draws n 64) 300 j below)) changed all_below)

pub each_makes_later : (n : ℕ) → All (MakesLater n) (edits_in (scripts_of_made n))
each_makes_later n =
    subst (All (MakesLater n)) (sym (edits_are n))
    (All-map (MakesLater n) (change_of n) changed
    (All-weaker (λ j. j < 300) (λ j. MakesLater n (change_of n j)) (λ j below. record { number = j; below = below; is = refl }) changed all_below))

pub how_many : (n : ℕ) (edits : List Edit) → IsPermutation (edits_in (scripts_of_made n)) edits → length edits ≡ 64
how_many n edits same =
    length_permutation (edits_in (scripts_of_made n)) edits same ∙ ap length (edits_are n)
    ∙ length-map changed (change_of n)

-- ---- how many of them change a run

times : (n i : ℕ) (numbers : List ℕ) (count : ℕ) → i < 300 → All (λ j. j < 300) numbers
    → fold (and_times i) count (map (change_of n) numbers) ≡ fold (λ c j. c + cond (i == j) 1 0) count numbers
times n i [] count below all = refl
times n i (j ∷ numbers) count below all =
    ap (λ b. fold (and_times i) (count + cond b 1 0) (map (change_of n) numbers))
    (names_tell i j below (All-head (λ j. j < 300) j numbers all))
    ∙ times n i numbers (count + cond (i == j) 1 0) below (All-tail (λ j. j < 300) j numbers all)

abbrev agrees : ℕ → Bool
agrees i = let some = nat_lt 0 (count_by (λ j. i == j) changed) in if is_changed i then some else not some

same_if : (a b : Bool) → (if a then b else not b) ≡ true → b ≡ a
same_if true true h = refl
same_if true false h = absurd (cc)
same_if false true h = absurd (cc)
same_if false false h = refl

some_change : (i : ℕ) → i < 300 → nat_lt 0 (count_by (λ j. i == j) changed) ≡ is_changed i
some_change i below = same_if (is_changed i) (nat_lt 0 (count_by (λ j. i == j) changed)) (tested agrees 300 refl i below)

times_in_order : (n i : ℕ) (edits : List Edit) → IsPermutation (edits_in (scripts_of_made n)) edits → i < 300
    → fold (and_times i) 0 edits ≡ count_by (λ j. i == j) changed
times_in_order n i edits same below =
    sum_by-IsPermutation (λ e. cond (changes (run_name i) e) 1 0) (edits_in (scripts_of_made n)) edits same
    ∙ ap (fold (and_times i) 0) (edits_are n) ∙ times n i changed 0 below all_below

pub any_order_makes_one : AnyOrderMakesOne
any_order_makes_one n edits same =
    let all = All-permutation (MakesLater n) (edits_in (scripts_of_made n)) edits same (each_makes_later n) in
    let later : where_counted n (λ i. fold (and_times i) 0 edits) ≡ later_tables n =
    same_tables n (λ i. nat_lt 0 (fold (and_times i) 0 edits)) is_changed
    (λ i below. ap (nat_lt 0) (times_in_order n i edits same below) ∙ some_change i below) in
    subst (λ t. Make t edits (later_tables n)) (none_is_later n)
    (subst (Make (where_counted n (λ i. 0)) edits) later (make_later n (λ i. 0) edits all))

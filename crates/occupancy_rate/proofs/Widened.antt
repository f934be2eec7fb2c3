-- The blocks' spans, use after use.
use Rattle.std.proofs.Common.{◌≡◌, ℕ, suc, ◌<◌, Bool, true, false, List, [], ◌∷◌, length, map, ◌+◌, inl, inr, ◌∙◌, refl, sym, ap, arith}
use Rattle.std.specs.Prelude.{◌==◌, ℤ, ◌+ℤ◌, ◌-ℤ◌, Option, None, Some, slice_index_or, slice_set, if◌then◌else◌, fold, find, filter, unwrap_or}
use Rattle.std.specs.Int.{int_min, int_max}
use Rattle.std.specs.List.{list_any, range_with_len}
use Rattle.std.proofs.lemmas.Bool.{cases_Bool, cases_eq, eq-eqb, eqb-true, ne_eqb, or_parts, or_left, or_right}
use Rattle.std.proofs.lemmas.Grind.{get_or-set_at}
use Rattle.std.proofs.lemmas.List.{get_or-set_other}
use Rattle.std.proofs.lemmas.List.Sums.{fold-append}
use Rattle.rail_model.proofs.Lists.{range_more}
use Rattle.rail_model.specs.declared.stair.Use.{Use}
use Rattle.plan_model.specs.declared.cut.CutRow.{CutRow}
use Rattle.plan_model.specs.declared.cut.Cut.{Cut}
use Rattle.plan_model.specs.Cut.{IsSoundCut, AreOfOtherPlaces, least}
use Rattle.plan_model.specs.Members.{member, member_count, members, uses_place, no_use}
use Rattle.plan_model.specs.Schedule.{entry_at, start_at, end_at, start_by, end_by}
use Rattle.plan_model.specs.Answer.{greatest}
use Rattle.plan_model.proofs.MemberTests.{has, in_range}
use Rattle.plan_model.proofs.Sound.{differ}
use Rattle.plan_model.proofs.UseFound.{no_other}
use Rattle.occupancy_rate.specs.declared.spans.Span.{Span}
use Rattle.occupancy_rate.specs.Spans.{widened, with_use, with_row, span_upto, span_of}

-- ---- one use

pub set_with_use : (span : List (Option Span)) (u : Use) (planned entry : ℤ) (x : Span) (b : ℕ) → u.block < length span
    → x ≡ widened (slice_index_or span u.block None) (u.start -ℤ planned +ℤ entry) (u.«end» -ℤ planned +ℤ entry)
    → slice_index_or (slice_set span u.block (Some x)) b None
    ≡ with_use planned entry b (slice_index_or span b None) u
set_with_use span u planned entry x b l h =
    let with : ℕ → Option Span = λ p.
    Some (widened (slice_index_or span p None) (u.start -ℤ planned +ℤ entry) (u.«end» -ℤ planned +ℤ entry)) in
    elim (cases_eq u.block b) [
      | inl e ↦ rw (eq-eqb u.block b e) (get_or-set_at span u.block b (Some x) None (sym e) l ∙ ap Some h ∙ ap with e)
      | inr ne ↦ rw (ne_eqb u.block b ne) (get_or-set_other span u.block b (Some x) None (λ e. ne (sym e)))
    ]

-- ---- one row

untouched : (planned entry : ℤ) (b : ℕ) (span : Option Span) (uses : List Use)
    → list_any (λ u. u.block == b) uses ≡ false → fold (with_use planned entry b) span uses ≡ span
untouched planned entry b span [] h = refl
untouched planned entry b span (u ∷ uses) h =
    let parts = or_parts (u.block == b) (list_any (λ (v : Use). v.block == b) uses) h in
    rw parts.0 (untouched planned entry b span uses parts.1)

uses_step : (planned entry : ℤ) (b : ℕ) (span : Option Span) (uses : List Use) → AreOfOtherPlaces uses
    → fold (with_use planned entry b) span uses
    ≡ (if list_any (λ u. u.block == b) uses
    then Some (widened span ((unwrap_or (find (λ u. u.block == b) uses) no_use).start -ℤ planned +ℤ entry)
    ((unwrap_or (find (λ u. u.block == b) uses) no_use).«end» -ℤ planned +ℤ entry))
    else span)
uses_step planned entry b span [] differ = refl
uses_step planned entry b span (u ∷ uses) differ =
    elim (cases_Bool (u.block == b)) [
      | inl e ↦ rw e (untouched planned entry b _ uses (no_other u uses b differ (eqb-true u.block b e)))
      | inr e ↦
          rw e (uses_step planned entry b span uses
          (λ i j d lt l. differ (suc i) (suc j) d (omega (arith, lt)) (omega (arith, l))))
    ]

row_step : (row : CutRow) (entry : ℤ) (b : ℕ) (span : Option Span) → AreOfOtherPlaces row.uses
    → with_row row entry b span
    ≡ (if uses_place row b then Some (widened span (start_at row entry b) (end_at row entry b)) else span)
row_step row entry b span apart = uses_step row.entry entry b span row.uses apart

-- ---- all rows

pub upto_more : (cut : Cut) (entries : List ℤ) (n b : ℕ)
    → with_row (member cut n) (entry_at entries n) b (span_upto cut entries n b) ≡ span_upto cut entries (n + 1) b
upto_more cut entries n b =
    let step : Option Span → ℕ → Option Span = λ span i. with_row (member cut i) (entry_at entries i) b span in
    sym (ap (fold step None) (range_more 0 n n (omega arith)) ∙ fold-append step None (range_with_len 0 n) (n ∷ []))

-- the times of the members that use a block, one after the other
rows_step : (cut : Cut) (entries : List ℤ) (b : ℕ) (some : List ℕ) (span : Option Span) → IsSoundCut cut
    → ((i : ℕ) → has some i ≡ true → i < member_count cut)
    → fold (λ k i. with_row (member cut i) (entry_at entries i) b k) span some
    ≡ fold (λ k i. Some (widened k (start_by cut entries i b) (end_by cut entries i b))) span
    (filter (λ i. uses_place (member cut i) b) some)
rows_step cut entries b [] span sound there = refl
rows_step cut entries b (j ∷ some) span sound there =
    let lj : j < member_count cut = there j (or_left (j == j) (has some j) (eq-eqb j j refl)) in
    let others : (i : ℕ) → has some i ≡ true → i < member_count cut = λ i h.
    there i (or_right (j == i) (has some i) h) in
    let first = row_step (member cut j) (entry_at entries j) b span (differ cut sound j lj) in
    elim (cases_Bool (uses_place (member cut j) b)) [
      | inl e ↦ rw (first, e) (rows_step cut entries b some (Some (widened span (start_by cut entries j b) (end_by cut entries j b))) sound others)
      | inr e ↦ rw (first, e) (rows_step cut entries b some span sound others)
    ]

spanned : (starts ends : ℕ → ℤ) (from : ℤ) (to : ℤ) (some : List ℕ)
    → fold (λ k i. Some (widened k (starts i) (ends i))) (Some (record { start = from; «end» = to })) some
    ≡ Some (record { start = fold int_min from (map starts some); «end» = fold int_max to (map ends some) })
spanned starts ends from to [] = refl
spanned starts ends from to (i ∷ some) = spanned starts ends (int_min from (starts i)) (int_max to (ends i)) some

-- from the first start to the last end of those that pass a test, if there are any
all_spanned : (starts ends : ℕ → ℤ) (test : ℕ → Bool) (some : List ℕ)
    → fold (λ k i. Some (widened k (starts i) (ends i))) None (filter test some)
    ≡ (if list_any test some then Some (record {
      start = least (map starts (filter test some));
      «end» = greatest (map ends (filter test some));
    }) else None)
all_spanned starts ends test [] = refl
all_spanned starts ends test (i ∷ some) =
    elim (cases_Bool (test i)) [
      | inl e ↦ rw e (spanned starts ends (starts i) (ends i) (filter test some))
      | inr e ↦ rw e (all_spanned starts ends test some)
    ]

pub span_is : (cut : Cut) (entries : List ℤ) (b : ℕ) → IsSoundCut cut
    → span_upto cut entries (member_count cut) b ≡ span_of cut entries b
span_is cut entries b sound =
    rows_step cut entries b (members cut) None sound
    (λ i h. (let l = in_range 0 (member_count cut) i h in omega (arith, l)))
    ∙ all_spanned (λ i. start_by cut entries i b) (λ i. end_by cut entries i b) (λ i. uses_place (member cut i) b) (members cut)

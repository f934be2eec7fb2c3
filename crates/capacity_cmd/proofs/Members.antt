-- The position of a name among the members of a cut, and the delays that are set for them.
use Rattle.std.proofs.Common.{◌≡◌, ◌≢◌, ℕ, ◌+◌, ◌<◌, eqb, Bool, true, false, List, [], length, take, get_or, set, Option, None, Some, Result, Ok, Err, refl, sym, ap, ◌∙◌, inl, inr, arith, nat_lt}
use Rattle.std.specs.Prelude.{replicate, position, is_some, fold, if◌then◌else◌}
use Rattle.std.specs.List.{position_or_len}
use Rattle.std.specs.List.Sorted.{IsBinarySearchResult, IsSearchInRange}
use Rattle.std.specs.Cmp.Lexicographic.{slice_cmp}
use Rattle.std.specs.Ordering.{nat_cmp}
use Rattle.std.proofs.lemmas.Bool.{cases_Bool, lt-ltb}
use Rattle.std.proofs.lemmas.Bool.Decides.{nat_tests}
use Rattle.std.proofs.lemmas.List.{ext_get_or, get_or-map, get_or-set_same, get_or-set_other, length-map, length-set}
use Rattle.std.proofs.lemmas.List.Sums.{fold_more, passes_at_first}
use Rattle.std.proofs.lemmas.Simd.{splat_is_map}
use Rattle.rail_model.specs.Name.{is_same, NamesRise}
use Rattle.rail_model.proofs.NameOrder.{same_name, is_same-from, names_apart}
use Rattle.rail_model.proofs.Places.{searched, number_of-missing}
use Rattle.plan_model.specs.declared.cut.CutRow.{CutRow}
use Rattle.plan_model.specs.declared.cut.Cut.{Cut}
use Rattle.plan_model.specs.Cut.{IsSoundCut}
use Rattle.plan_model.specs.Members.{no_member, member_count}
use Rattle.capacity_cmd.specs.declared.given_delay.GivenDelay.{GivenDelay}
use Rattle.capacity_cmd.specs.declared.status.Cause.TheVariants as cause
use Rattle.capacity_cmd.specs.Ends.{row_named, are_members, delays_in, with_delays, SetsDelay, with_member}

abbrev label : CutRow → List ℕ
label r = r.name

abbrev is_of : List ℕ → CutRow → Bool
is_of name r = is_same r.name name

-- ---- the position

position_is : {X : Type 0} (p : X → Bool) (xs : List X) (i : ℕ) → i ≡ position_or_len p xs → i < length xs → position p xs ≡ Some i
position_is p xs i is there =
    let test : nat_lt (position_or_len p xs) (length xs) ≡ true = lt-ltb _ _ (omega (arith, is, there)) in
    rw test (ap Some (sym is))

no_position : {X : Type 0} (p : X → Bool) (xs : List X) → position_or_len p xs ≡ length xs → position p xs ≡ None
no_position p xs is =
    let test : nat_lt (position_or_len p xs) (length xs) ≡ false = grind (arith, nat_tests) in
    rw test refl

-- what a binary search for a name tells
pub row_found : (rows : List CutRow) (name : List ℕ) (r : Result ℕ ℕ) (i : ℕ) → NamesRise label rows → IsSearchInRange r (length rows)
    → IsBinarySearchResult (λ y. slice_cmp nat_cmp (label y) name) rows r → r ≡ Ok i
    → position (is_of name) rows ≡ Some i
row_found rows name (Ok k) i rise range found is =
    let h = searched label rows name (Ok k) rise range found in
    let same : k ≡ i = cc in
    position_is (is_of name) rows k h.number h.in_range ∙ ap Some same
row_found rows name (Err k) i rise range found is = absurd (cc)

pub no_row_found : (rows : List CutRow) (name : List ℕ) (r : Result ℕ ℕ) (i : ℕ) → NamesRise label rows → IsSearchInRange r (length rows)
    → IsBinarySearchResult (λ y. slice_cmp nat_cmp (label y) name) rows r → r ≡ Err i
    → position (is_of name) rows ≡ None
no_row_found rows name (Ok k) i rise range found is = absurd (cc)
no_row_found rows name (Err k) i rise range found is =
    let h = searched label rows name (Err k) rise range found in
    no_position (is_of name) rows (number_of-missing label rows name h.missing)

-- what stands at the position
position_at : {X : Type 0} (p : X → Bool) (xs : List X) (i : ℕ) → position p xs ≡ Some i → (i ≡ position_or_len p xs) × (i < length xs)
position_at p xs i is = elim (cases_Bool (nat_lt (position_or_len p xs) (length xs))) [
  | inl test ↦ let at : Some (position_or_len p xs) ≡ Some i = sym (rw test refl) ∙ is in
      let same : position_or_len p xs ≡ i = cc in
      let there : position_or_len p xs < length xs = grind (arith, nat_tests) in (sym same, omega (arith, same, there))
  | inr test ↦ let none : None ≡ Some i = sym (rw test refl) ∙ is in absurd (cc)
]

named_at : (rows : List CutRow) (name : List ℕ) (i : ℕ) → position (is_of name) rows ≡ Some i
    → (i < length rows) × ((get_or rows i no_member).name ≡ name)
named_at rows name i is =
    let at = position_at (is_of name) rows i is in
    let passes = passes_at_first (is_of name) rows no_member (omega (arith, at.0, at.1)) in
    (at.1, same_name _ name (ap (λ k. is_same (get_or rows k no_member).name name) at.0 ∙ passes))

-- ---- the delays

-- the delay that is given to the train of a name
abbrev delay_of : List GivenDelay → List ℕ → ℕ
delay_of given name = fold (λ so_far d. if is_same name d.run then d.delay else so_far) 0 given

-- no delay is given to any member
pub none_given : (cut : Cut) → replicate (member_count cut) 0 ≡ delays_in cut []
none_given cut = splat_is_map cut.rows (member_count cut) 0 refl

-- each row's delay once one more is set: at the row that is named, and at others
one_more : (cut : Cut) (given : List GivenDelay) (i j row : ℕ) (d : GivenDelay) → IsSoundCut cut → i < length given
    → get_or given i d ≡ d → row_named cut (Some d.run) ≡ Some row → j < length cut.rows
    → get_or (set (delays_in cut (take i given)) row d.delay) j 0 ≡ get_or (delays_in cut (take (i + 1) given)) j 0
one_more cut given i j row d sound there is named inside =
    let r = get_or cut.rows j no_member in
    let so_far = delay_of (take i given) r.name in
    let at = named_at cut.rows d.run row named in
    let before : get_or (delays_in cut (take i given)) j 0 ≡ so_far =
    get_or-map (λ (r : CutRow). delay_of (take i given) r.name) cut.rows j no_member 0 inside in
    let after : get_or (delays_in cut (take (i + 1) given)) j 0 ≡ (if is_same r.name d.run then d.delay else so_far) =
    get_or-map (λ (r : CutRow). delay_of (take (i + 1) given) r.name) cut.rows j no_member 0 inside
    ∙ fold_more (λ x (d : GivenDelay). if is_same r.name d.run then d.delay else x) 0 given i d there
    ∙ ap (λ (e : GivenDelay). if is_same r.name e.run then e.delay else so_far) is in
    let count : length (delays_in cut (take i given)) ≡ length cut.rows = length-map cut.rows _ in
    elim (cases_Bool (eqb j row)) [
      | inl test ↦ let same : j ≡ row = grind (arith, nat_tests) in
          let hit = is_same-from r.name d.run (ap (λ k. (get_or cut.rows k no_member).name) same ∙ at.1) in
          ap (λ k. get_or (set (delays_in cut (take i given)) row d.delay) k 0) same
          ∙ get_or-set_same (delays_in cut (take i given)) row d.delay 0 (omega (arith, count, at.0))
          ∙ sym (after ∙ ap (λ test. if test then d.delay else so_far) hit)
      | inr test ↦ let differ : j ≢ row = λ same. absurd (grind (arith, nat_tests)) in
          let miss : is_same r.name d.run ≡ false =
          ap (is_same r.name) (sym at.1) ∙ names_apart label cut.rows no_member sound.names_rise j row inside at.0 differ in
          get_or-set_other (delays_in cut (take i given)) row j d.delay 0 differ ∙ before
          ∙ sym (after ∙ ap (λ test. if test then d.delay else so_far) miss)
    ]

named_more : (cut : Cut) (given : List GivenDelay) (i row : ℕ) (d : GivenDelay) → IsSoundCut cut
    → i < length given → get_or given i d ≡ d → row_named cut (Some d.run) ≡ Some row
    → set (delays_in cut (take i given)) row d.delay ≡ delays_in cut (take (i + 1) given)
named_more cut given i row d sound there is named =
    ext_get_or 0 (set (delays_in cut (take i given)) row d.delay) (delays_in cut (take (i + 1) given))
    (length-set (delays_in cut (take i given)) row d.delay ∙ length-map cut.rows _ ∙ sym (length-map cut.rows _))
    (λ j l. one_more cut given i j row d sound there is named
    (omega (arith, l, length-set (delays_in cut (take i given)) row d.delay, length-map cut.rows (λ (r : CutRow). delay_of (take i given) r.name))))

-- one more delay is set, where it is given to a member
pub set_more : (cut : Cut) (given : List GivenDelay) (i : ℕ) (d : GivenDelay) (delays more : List ℕ) → IsSoundCut cut
    → i < length given → get_or given i d ≡ d → delays ≡ delays_in cut (take i given)
    → SetsDelay cut d true delays more → more ≡ delays_in cut (take (i + 1) given)
set_more cut given i d delays more sound there is so_far sets =
    by_row (row_named cut (Some d.run)) refl
  where
    by_row : (found : Option ℕ) → row_named cut (Some d.run) ≡ found → more ≡ delays_in cut (take (i + 1) given)
    by_row None none = let it : true ≡ false = sets.member ∙ ap is_some none in absurd (cc)
    by_row (Some row) named =
        sets.set row named ∙ ap (λ xs. set xs row d.delay) so_far ∙ named_more cut given i row d sound there is named

-- ---- what is named

pub given_to_members : (cut : Cut) (given : List GivenDelay) (delays : List ℕ) → are_members cut given ≡ true
    → delays ≡ delays_in cut given → with_delays (Some given) cut ≡ Ok (cut, delays)
given_to_members cut given delays members set = rw members (ap (λ (d : List ℕ). Ok (cut, d)) (sym set))

pub given_to_others : (cut : Cut) (given : List GivenDelay) → are_members cut given ≡ false
    → with_delays (Some given) cut ≡ Err cause.NoMember
given_to_others cut given members = rw members refl

pub member_found : (cut : Cut) (run : Option (List ℕ)) (row : ℕ) → row_named cut run ≡ Some row → with_member run cut ≡ Ok (cut, row)
member_found cut run row is = rw is refl

pub no_member_found : (cut : Cut) (run : Option (List ℕ)) → row_named cut run ≡ None → with_member run cut ≡ Err cause.NoMember
no_member_found cut run is = rw is refl

-- Parts of the lists: each is swept on its own, and what is found is joined.
use Rattle.std.proofs.Common.{◌≡◌, ℕ, zero, suc, ◌+◌, ◌-◌, ◌*◌, ◌/◌, ◌<◌, ◌≤◌, List, [], ◌∷◌, ◌++◌, length, get_or, take, drop, refl, sym, ap, ◌∙◌, subst, inl, inr, arith, length-append}
use Rattle.std.specs.Prelude.{Vec}
use Rattle.std.specs.declared.alloc.Global.{Global}
use Rattle.std.specs.List.{All, AllZip, filter, flat_map, range_with_len, sum_by}
use Rattle.std.specs.List.Sorted.{IsPermutation, IsSortedByKey}
use Rattle.std.proofs.Math.Nat.{zero-mul, add-mul, mul-add, mul_comm, lt-div-mul-add}
use Rattle.std.proofs.lemmas.Bool.{cases_lt}
use Rattle.std.proofs.lemmas.List.{length-map, length-take, take-take, take_all, take-append-drop, get_or_append_left, get_or-append_right}
use Rattle.std.proofs.lemmas.List.Concat.{flat_map-append}
use Rattle.std.proofs.lemmas.List.Elements.{All-nil, All-append}
use Rattle.std.proofs.lemmas.List.Sums.{sum_by-cons}
use Rattle.rail_model.specs.declared.limits.TheConstants.{RUNS, PATH_HOPS}
use Rattle.rail_model.proofs.Lists.{flat_map-range_more}
use Rattle.conflict_finder.specs.declared.run_uses.RunUse.{RunUse}
use Rattle.conflict_finder.specs.declared.found.Met.{Met}
use Rattle.conflict_finder.specs.declared.found.MetInPart.{MetInPart}
use Rattle.conflict_finder.specs.declared.found.TheConstants.{LISTED}
use Rattle.conflict_finder.specs.Runs.{key_of, key_cmp}
use Rattle.conflict_finder.specs.ByBlock.{one_after_another, goes_to, AreByBlock, AreUsesFrom}
use Rattle.conflict_finder.specs.Sweep.{meets, no_run_use}
use Rattle.conflict_finder.specs.ByNumber.{met_of, met_at, met_upto, all_met, met_in_turn, IsListed, count_of, first_of, IsFoundInPart, AreFoundBetween, AreFoundInParts}
use Rattle.conflict_finder.proofs.Laid.{next_block, whole_laid, laid_by_block}
use Rattle.conflict_finder.proofs.Lists.{all_left, all_right}
use Rattle.conflict_finder.proofs.Room.{take_both, met_within}
use Rattle.conflict_finder.proofs.BlockByBlock.{found_more, all_in_order}

-- lists with the places from one on, and those with the places that follow
uses_join : (last first : ℕ) (run_uses : List RunUse) (xs ys : List (Vec RunUse Global)) → AreUsesFrom last first run_uses xs → AreUsesFrom last (first + length xs) run_uses ys → AreUsesFrom last first run_uses (xs ++ ys)
uses_join last first run_uses xs ys a b i d l =
    let Hold : ℕ → Vec RunUse Global → Type 0 = λ place v. IsPermutation (filter (goes_to last place) run_uses) v.items in
    elim (cases_lt i (length xs)) [
      | inl lt ↦ rw (get_or_append_left xs ys d i lt) (a i d lt)
      | inr le ↦
          let k = i - length xs in
          let past : (first + length xs) + k ≡ first + i = omega (arith, le) in
          rw (get_or-append_right xs ys (length xs) i d refl le) (subst (λ place. Hold place (get_or ys k d)) past (b k d (omega (arith, l, le, length-append xs ys))))
    ]

-- what is found in all lists is what is found in one part after the other
found_by_parts : (parts : List (List (Vec RunUse Global))) → met_in_turn (flat_map (λ p. p) parts) ≡ flat_map (met_in_turn) parts
found_by_parts [] = refl
found_by_parts (p ∷ ps) =
    flat_map-append (λ s. all_met s.items) p (flat_map (λ q. q) ps) ∙ ap (λ v. met_in_turn p ++ v) (found_by_parts ps)

found_upto : (xs : List (Vec RunUse Global)) (d : Vec RunUse Global) → AreByBlock xs → (i : ℕ) → i ≤ length xs → all_met (one_after_another (take i xs)) ≡ met_in_turn (take i xs)
found_upto xs d by zero l = refl
found_upto xs d by (suc i) l =
    let here : i < length xs = omega (arith, l) in
    let e : i + 1 ≡ suc i = omega arith in
    subst (λ m. all_met (one_after_another (take m xs)) ≡ met_in_turn (take m xs)) e
    (found_more xs d by i here ∙ ap (λ v. v ++ all_met (get_or xs i d).items) (found_upto xs d by i (omega (arith, l)))
    ∙ sym (next_block (λ s. all_met s.items) xs i d here))

-- the sweep over all lists finds what the sweeps over one list after the other find
found_one_by_one : (xs : List (Vec RunUse Global)) → AreByBlock xs → all_met (one_after_another xs) ≡ met_in_turn xs
found_one_by_one [] by = refl
found_one_by_one (x ∷ xs) by =
    subst (λ v. all_met (one_after_another v) ≡ met_in_turn v) (take_all (length (x ∷ xs)) (x ∷ xs) (omega arith))
    (found_upto (x ∷ xs) x by (length (x ∷ xs)) (omega arith))

upto_most : (run_uses : List RunUse) → length run_uses ≤ RUNS * PATH_HOPS → (n : ℕ) → length (met_upto run_uses n) ≤ n * (RUNS * PATH_HOPS)
upto_most run_uses few zero = omega arith
upto_most run_uses few (suc n) =
    let one = get_or run_uses n no_run_use in
    let met = met_at run_uses n in
    let e : n + 1 ≡ suc n = omega arith in
    let more = ap length (flat_map-range_more (met_at run_uses) n) ∙ length-append (met_upto run_uses n) met in
    let some : length met ≤ length run_uses = subst (λ k. k ≤ length run_uses) (sym (length-map _ (met_of one))) (met_within (meets one) run_uses n) in
    let all : length (met_upto run_uses (n + 1)) ≤ suc n * (RUNS * PATH_HOPS) = omega (arith, more, some, few, upto_most run_uses few n) in
    subst (λ m. length (met_upto run_uses m) ≤ suc n * (RUNS * PATH_HOPS)) e all

-- so many conflicts there may be
pub found_most : (run_uses : List RunUse) → length run_uses ≤ RUNS * PATH_HOPS → length (all_met run_uses) ≤ length run_uses * (RUNS * PATH_HOPS)
found_most run_uses few = upto_most run_uses few (length run_uses)

-- what is found of each part is listed and counted
module _ {P : Type 0} (g : P → List Met) where
  listed_first : (r : ℕ) → r ≤ LISTED → (parts : List P) (found : List MetInPart) → AllZip (λ p. IsListed (g p)) parts found → take r (flat_map (λ f. f.list.items) found) ≡ take r (flat_map g parts)
  listed_first r l [] [] h = refl
  listed_first r l [] (f ∷ fs) h = absurd h
  listed_first r l (p ∷ ps) [] h = absurd h
  listed_first r l (p ∷ ps) (f ∷ fs) h =
      let rest = flat_map (λ (k : MetInPart). k.list.items) fs in
      let left : r - length f.list.items ≡ r - length (g p) = omega (arith, ap length h.0.0, length-take LISTED (g p), l) in
      take_both r f.list.items rest
      ∙ ap (λ v. v ++ take (r - length f.list.items) rest) (ap (take r) h.0.0 ∙ take-take r LISTED (g p) l)
      ∙ ap (λ n. take r (g p) ++ take n rest) left
      ∙ ap (λ v. take r (g p) ++ v) (listed_first (r - length (g p)) (omega (arith, l)) ps fs h.1)
      ∙ sym (take_both r (g p) (flat_map g ps))

  listed_count : (parts : List P) (found : List MetInPart) → AllZip (λ p. IsListed (g p)) parts found → sum_by count_of found ≡ length (flat_map g parts)
  listed_count [] [] h = refl
  listed_count [] (f ∷ fs) h = absurd h
  listed_count (p ∷ ps) [] h = absurd h
  listed_count (p ∷ ps) (f ∷ fs) h =
      omega (arith, sum_by-cons count_of f fs, listed_count ps fs h.1, ap length h.0.0, length-take LISTED (g p), h.0.1, length-append (g p) (flat_map g ps))

-- what was found in parts from one on
pub gathered : (lists size : ℕ) (run_uses : List RunUse) (n p : ℕ) (found : List MetInPart) → AllZip (IsFoundInPart lists size run_uses) (range_with_len p n) found
    → AreFoundBetween (lists - 1) (first_of lists size p) (first_of lists size (p + n)) run_uses found
gathered lists size run_uses zero p [] h = record {
  parts = [];
  count = let none : p + 0 ≡ p = omega arith in rw none (omega arith);
  uses = λ i d l. absurd (omega (arith, l));
  sorted = All-nil (λ (s : Vec RunUse Global). IsSortedByKey key_of key_cmp s.items);
  listed = tt;
}
gathered lists size run_uses zero p (f ∷ fs) h = absurd h
gathered lists size run_uses (suc n) p [] h = absurd h
gathered lists size run_uses (suc n) p (f ∷ fs) h =
    let one = h.0 in
    let more = gathered lists size run_uses n (p + 1) fs h.1 in
    let rest = flat_map (λ q. q) more.parts in
    let next : (p + 1) + n ≡ p + suc n = omega arith in
    record {
      parts = one.by_block ∷ more.parts;
      count = omega (arith, length-append one.by_block rest, one.count, more.count ∙ ap (first_of lists size) next);
      uses = uses_join (lists - 1) (first_of lists size p) run_uses one.by_block rest one.uses (subst (λ first. AreUsesFrom (lists - 1) first run_uses rest) (sym one.count) more.uses);
      sorted = All-append (λ (s : Vec RunUse Global). IsSortedByKey key_of key_cmp s.items) one.by_block rest one.sorted more.sorted;
      listed = (one.listed, more.listed);
    }

-- so many parts have all lists
pub in_all_parts : (lists parts : ℕ) (run_uses : List RunUse) (found : List MetInPart) → 0 < lists → 0 < parts → AllZip (IsFoundInPart lists (lists / parts + 1) run_uses) (range_with_len 0 parts) found → AreFoundInParts run_uses found
in_all_parts lists parts run_uses found some split h =
    let size = lists / parts + 1 in
    let none : first_of lists size 0 ≡ 0 = omega (arith, zero-mul size) in
    let more = lt-div-mul-add {a = lists} {b = parts} split in
    let all : first_of lists size (0 + parts) ≡ (lists - 1) + 1 = omega (arith, some, more, add-mul 0 parts size, mul-add parts (lists / parts) 1, mul_comm parts (lists / parts)) in
    (lists - 1, subst (λ a. AreFoundBetween (lists - 1) a ((lists - 1) + 1) run_uses found) none (subst (λ e. AreFoundBetween (lists - 1) (first_of lists size 0) e run_uses found) all (gathered lists size run_uses parts 0 found h)))

-- what is found in parts is what the sweep over all uses finds
module _ (run_uses : List RunUse) (found : List MetInPart) (h : AreFoundInParts run_uses found) where
  pub by_block : List (Vec RunUse Global)
  by_block = flat_map (λ p. p) h.1.parts

  pub swept_uses : List RunUse
  swept_uses = one_after_another by_block

  some : 0 < length by_block
  unfolding by_block
  some = omega (arith, h.1.count)

  are_uses : AreUsesFrom (length by_block - 1) 0 run_uses by_block
  unfolding by_block
  are_uses = subst (λ last. AreUsesFrom last 0 run_uses by_block) (let e : h.0 ≡ length by_block - 1 = omega (arith, h.1.count) in e) h.1.uses

  pub same_uses : IsPermutation run_uses swept_uses
  unfolding swept_uses
  same_uses = whole_laid run_uses by_block some are_uses

  pub uses_in_order : IsSortedByKey key_of key_cmp swept_uses
  unfolding swept_uses by_block
  uses_in_order = all_in_order by_block (laid_by_block run_uses by_block some are_uses) h.1.sorted

  in_all : flat_map met_in_turn h.1.parts ≡ all_met swept_uses
  unfolding swept_uses by_block
  in_all = sym (found_by_parts h.1.parts) ∙ sym (found_one_by_one by_block (laid_by_block run_uses by_block some are_uses))

  pub counted_in_all : sum_by count_of found ≡ length (all_met swept_uses)
  counted_in_all = listed_count met_in_turn h.1.parts found h.1.listed ∙ ap length in_all

  pub listed_in_all : take LISTED (flat_map (λ f. f.list.items) found) ≡ take LISTED (all_met swept_uses)
  listed_in_all = listed_first met_in_turn LISTED (omega arith) h.1.parts found h.1.listed ∙ ap (take LISTED) in_all

-- what is listed of a part is among the first of all
pub part_among_first : {V X : Type 0} (P : X → Type 0) (f : V → List X) (n : ℕ) (xs : List V) (i : ℕ) (d : V) → i < length xs → All P (take n (flat_map f xs)) → All P (take (n - length (flat_map f (take i xs))) (f (get_or xs i d)))
part_among_first P f n xs i d l h =
    let so_far = flat_map f (take i xs) in
    let part = f (get_or xs i d) in
    let rest = flat_map f (drop (i + 1) xs) in
    let whole : flat_map f xs ≡ (so_far ++ part) ++ rest =
    ap (flat_map f) (sym (take-append-drop (i + 1) xs)) ∙ flat_map-append f (take (i + 1) xs) (drop (i + 1) xs) ∙ ap (λ v. v ++ rest) (next_block f xs i d l) in
    let first = all_left P (take n (so_far ++ part)) (take (n - length (so_far ++ part)) rest) (subst (All P) (ap (take n) whole ∙ take_both n (so_far ++ part) rest) h) in
    all_right P (take n so_far) (take (n - length so_far) part) (subst (All P) (take_both n so_far part) first)

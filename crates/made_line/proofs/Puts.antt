-- Edits that are accepted one after the other, and puts of items whose names rise.
use Rattle.std.proofs.Common.{◌≡◌, ℕ, zero, suc, ◌+◌, ◌<◌, ◌≤◌, true, false, None, List, [], ◌∷◌, ◌++◌, length, map, All, get_or, take, refl, sym, ap, subst, ◌∙◌, add-one, arith}
use Rattle.std.specs.List.{range_with_len}
use Rattle.std.proofs.lemmas.List.{map-append}
use Rattle.std.proofs.lemmas.List.FromFn.{map-range_with_len_more, length-map-range_with_len, get_or-map-range_with_len}
use Rattle.std.proofs.lemmas.List.Folds.{list_any_at, list_any_none}
use Rattle.rail_model.specs.declared.edit.Edit.{Edit}
use Rattle.rail_model.specs.declared.tables.Tables.{Tables}
use Rattle.rail_model.specs.Name.{IsBefore, is_before, is_same}
use Rattle.rail_model.specs.Rules.{with_item, after, rule_of, is_named, after_edits, AreAccepted}
use Rattle.rail_model.proofs.NameOrder.{is_before-from, is_before-back, is_same-before, is_same-from}
use Rattle.rail_model.proofs.Places.{filter_all, filter_none}
use Rattle.rail_model.proofs.Edited.{accepted_first, accepted_from}
use Rattle.made_line.specs.Laws.{Make}
use Rattle.made_line.proofs.Images.{All-images}

pub make_none : (tables : Tables) → Make tables [] tables
make_none tables = record { accepted = refl; after = refl }

pub make_first : (tables : Tables) (e : Edit) (edits : List Edit) (later : Tables) → rule_of tables e ≡ None
    → Make (after tables e) edits later → Make tables (e ∷ edits) later
make_first tables e edits later none rest = record {
  accepted = accepted_from tables e edits none rest.accepted;
  after = rest.after;
}

pub make_then : (tables : Tables) (first rest : List Edit) (between later : Tables) → Make tables first between
    → Make between rest later → Make tables (first ++ rest) later
make_then tables [] rest between later made more = subst (λ t. Make t rest later) (sym made.after) more
make_then tables (e ∷ first) rest between later made more =
    let both = accepted_first tables e first made.accepted in
    make_first tables e (first ++ rest) later both.0
    (make_then (after tables e) first rest between later (record { accepted = both.1; after = made.after }) more)

-- an edit among some that are accepted
pub accepted_at : (tables : Tables) (edits : List Edit) (i : ℕ) (d : Edit) → AreAccepted tables edits
    → i < length edits → rule_of (after_edits tables (take i edits)) (get_or edits i d) ≡ None
accepted_at tables [] i d accepted below = absurd (omega (arith, below))
accepted_at tables (e ∷ edits) zero d accepted below = (accepted_first tables e edits accepted).0
accepted_at tables (e ∷ edits) (suc i) d accepted below =
    accepted_at (after tables e) edits i d (accepted_first tables e edits accepted).1 (omega (arith, below))

-- ---- items by their numbers, with names that rise

module _ {X : Type 0} (name : X → List ℕ) (f : ℕ → X) (count : ℕ) (rise : (i k : ℕ) → i < k → k < count → IsBefore (name (f i)) (name (f k))) where
  before : (k : ℕ) → k < count → All (λ x. IsBefore (name x) (name (f k))) (map f (range_with_len 0 k))
  before k below = All-images (λ x. IsBefore (name x) (name (f k))) f k (λ i lt. rise i k lt below)

  pub new_name : (k : ℕ) → k < count → is_named name (map f (range_with_len 0 k)) (name (f k)) ≡ false
  new_name k below =
      list_any_none (λ x. is_same (name x) (name (f k))) (map f (range_with_len 0 k))
      (λ i d lt. is_same-before (name (get_or (map f (range_with_len 0 k)) i d)) (name (f k)) (before k below i d lt))

  pub at_the_end : (k : ℕ) → k < count → with_item name (map f (range_with_len 0 k)) (f k) ≡ map f (range_with_len 0 (k + 1))
  at_the_end k below =
      let items = map f (range_with_len 0 k) in
      rw (filter_all (λ y. is_before (name y) (name (f k))) items (λ i d lt. is_before-from (name (get_or items i d)) (name (f k)) (before k below i d lt)), filter_none (λ y. is_before (name (f k)) (name y)) items (λ i d lt. is_before-back (name (get_or items i d)) (name (f k)) (before k below i d lt)))
      (sym (map-range_with_len_more f 0 k k (omega arith)))

  module _ (put : X → Edit) (holding : List X → Tables) (grows : (items : List X) (x : X) → after (holding items) (put x) ≡ holding (with_item name items x)) (fine : (k : ℕ) → k < count → is_named name (map f (range_with_len 0 k)) (name (f k)) ≡ false → rule_of (holding (map f (range_with_len 0 k))) (put (f k)) ≡ None) where
    make_next : (k : ℕ) → k < count → Make (holding (map f (range_with_len 0 k))) (put (f k) ∷ []) (holding (map f (range_with_len 0 (k + 1))))
    make_next k below = record {
      accepted = accepted_from _ (put (f k)) [] (fine k below (new_name k below)) refl;
      after = grows (map f (range_with_len 0 k)) (f k) ∙ ap holding (at_the_end k below);
    }

    pub make_first_items : (k : ℕ) → k ≤ count → Make (holding []) (map put (map f (range_with_len 0 k))) (holding (map f (range_with_len 0 k)))
    make_first_items zero most = make_none (holding [])
    make_first_items (suc k) most =
        let same : k + 1 ≡ suc k = add-one k in
        let grown = map-range_with_len_more f 0 k k (omega arith) in
        subst (λ m. Make (holding []) (map put (map f (range_with_len 0 m))) (holding (map f (range_with_len 0 m)))) same
        (subst (λ edits. Make (holding []) edits (holding (map f (range_with_len 0 (k + 1)))))
        (sym (ap (map put) grown ∙ map-append put (map f (range_with_len 0 k)) (f k ∷ [])))
        (make_then (holding []) (map put (map f (range_with_len 0 k))) (put (f k) ∷ []) (holding (map f (range_with_len 0 k)))
        (holding (map f (range_with_len 0 (k + 1)))) (make_first_items k (omega (arith, most))) (make_next k (omega (arith, most)))))

-- an image has its name among all
pub named_image : {X : Type 0} (name : X → List ℕ) (f : ℕ → X) (count i : ℕ) (n : List ℕ) → i < count
    → name (f i) ≡ n → is_named name (map f (range_with_len 0 count)) n ≡ true
named_image name f count i n below same =
    let long = length-map-range_with_len f 0 count in
    list_any_at (λ x. is_same (name x) n) (map f (range_with_len 0 count)) i (f i) (omega (arith, below, long))
    (rw (get_or-map-range_with_len f 0 count i i (f i) below (omega arith)) (is_same-from (name (f i)) n same))

-- the tables after one edit more
pub one_edit_more : (tables : Tables) (edits : List Edit) (i : ℕ) (d : Edit) → i < length edits
    → after_edits tables (take (i + 1) edits) ≡ after (after_edits tables (take i edits)) (get_or edits i d)
one_edit_more tables [] i d below = absurd (omega (arith, below))
one_edit_more tables (e ∷ edits) zero d below = refl
one_edit_more tables (e ∷ edits) (suc i) d below =
    let same : suc i + 1 ≡ suc (i + 1) = omega arith in
    rw same (one_edit_more (after tables e) edits i d (omega (arith, below)))

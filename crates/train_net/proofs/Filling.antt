-- The table of who stands nearest, use after use and row after row.
use Rattle.std.proofs.Common.{◌≡◌, ℕ, ◌+◌, ◌<◌, true, false, ◌==◌, List, [], ◌∷◌, length, take, get_or, inl, inr, refl, sym, ap, ◌∙◌, arith}
use Rattle.std.specs.Prelude.{Option, None, Some, slice_index, slice_index_or, slice_set, find, unwrap_or}
use Rattle.std.specs.Option.{option_or, IsSome}
use Rattle.std.specs.List.{list_any}
use Rattle.std.proofs.lemmas.Bool.{cases_Bool, cases_eq, eq-eqb, ne_eqb, or_left, or_right, false_from_ne_true}
use Rattle.std.proofs.lemmas.Grind.{get_or-set_at}
use Rattle.std.proofs.lemmas.List.{get_or-set_other, take_more}
use Rattle.std.proofs.lemmas.List.Folds.{find-append}
use Rattle.rail_model.specs.declared.stair.Use.{Use}
use Rattle.plan_model.specs.declared.cut.Cut.{Cut}
use Rattle.plan_model.specs.declared.cut.CutRow.{CutRow}
use Rattle.plan_model.specs.Members.{uses_place, use_of, use_at, no_use}
use Rattle.plan_model.proofs.Uses.{used}
use Rattle.train_net.specs.declared.near.Near.{Near}
use Rattle.train_net.specs.Net.{standing}
use Rattle.train_net.specs.Near.{near_by, filled, IsNear, IsNearFrom}

-- ---- use after use

filled_twice : (before : Option Near) (train : ℕ) (o p : Option Use)
    → filled (filled before (near_by train o None)) (near_by train p None) ≡ filled before (near_by train (option_or o p) None)
filled_twice (Some near) train o p = refl
filled_twice None train None p = refl
filled_twice None train (Some u) p = refl

-- nobody more leaves who was found
pub filled_none : (near : Option Near) → near ≡ filled near None
filled_none None = refl
filled_none (Some near) = refl

filled_at : (near : List (Option Near)) (train : ℕ) (u : Use) (p : ℕ) → u.block < length near
    → slice_index_or (slice_set near u.block (filled (slice_index_or near u.block None) (Some (record { train = train; one = u })))) p None
    ≡ filled (slice_index_or near p None) (near_by train (find (λ v. v.block == p) (u ∷ [])) None)
filled_at near train u p l =
    let x = filled (slice_index_or near u.block None) (Some (record { train = train; one = u })) in
    elim (cases_eq u.block p) [
      | inl e ↦
          rw (eq-eqb u.block p e) (get_or-set_at near u.block p x None (sym e) l
          ∙ ap (λ q. filled (slice_index_or near q None) (Some (record { train = train; one = u }))) e)
      | inr ne ↦
          rw (ne_eqb u.block p ne) (get_or-set_other near u.block p x None (λ e. ne (sym e)) ∙ filled_none (slice_index_or near p None))
    ]

pub filled_more : (first near : List (Option Near)) (train : ℕ) (uses : List Use) (k p : ℕ) → k < length uses
    → (get_or uses k no_use).block < length near
    → slice_index_or near p None ≡ filled (slice_index_or first p None) (near_by train (find (λ v. v.block == p) (take k uses)) None)
    → (x : Option Near) → x ≡ filled (slice_index_or near (get_or uses k no_use).block None) (Some (record { train = train; one = get_or uses k no_use }))
    → slice_index_or (slice_set near (get_or uses k no_use).block x) p None
    ≡ filled (slice_index_or first p None) (near_by train (find (λ v. v.block == p) (take (k + 1) uses)) None)
filled_more first near train uses k p l there before x is =
    let u = get_or uses k no_use in
    let test = λ (v : Use). v.block == p in
    ap (λ y. slice_index_or (slice_set near u.block y) p None) is
    ∙ filled_at near train u p there
    ∙ ap (λ o. filled o (near_by train (find test (u ∷ [])) None)) before
    ∙ filled_twice (slice_index_or first p None) train (find test (take k uses)) (find test (u ∷ []))
    ∙ ap (λ o. filled (slice_index_or first p None) (near_by train o None)) (sym (find-append test (take k uses) (u ∷ [])))
    ∙ ap (λ us. filled (slice_index_or first p None) (near_by train (find test us) None)) (sym (take_more uses k no_use l))

-- who is found at a place stays
pub stays_found : (near other : Option Near) → IsSome near → IsSome (filled near other)
stays_found None other h = absurd (cc)
stays_found (Some near) other h = h

-- ---- row after row

-- a use that is found shows that the place is used
pub found_used : (uses : List Use) (p : ℕ) (u : Use) → find (λ v. v.block == p) uses ≡ Some u → list_any (λ v. v.block == p) uses ≡ true
found_used [] p u e = absurd (cc)
found_used (v ∷ uses) p u e =
    elim (cases_Bool (v.block == p)) [
      | inl t ↦ or_left (v.block == p) _ t
      | inr f ↦ or_right (v.block == p) _ (found_used uses p u (rw f at e))
    ]

pub not_used : (row : CutRow) (place : ℕ) → use_of row place ≡ None → uses_place row place ≡ false
not_used row place none =
    false_from_ne_true (uses_place row place) (λ h. let e : None ≡ Some (use_at row place) = sym none ∙ used row place h in cc)

module _ (cut : Cut) (order : List ℕ) (at place : ℕ) where
  pub with_row : (from : ℕ) → from < at → (near : Option Near) → IsNearFrom cut order (from + 1) at place near
      → (o : Option Use) → use_of (standing cut order from) place ≡ o
      → IsNearFrom cut order from at place (filled near (near_by (slice_index order from) o None))
  with_row from lt (Some near) is o e = is
  with_row from lt None none None e =
      λ k after before.
      elim (cases_eq k from) [
        | inl same ↦ rw same (not_used (standing cut order from) place e)
        | inr differ ↦ none k (omega (arith, after, differ)) before
      ]
  with_row from lt None none (Some u) e = record {
    position = from;
    nearest = record {
      before = lt;
      uses = found_used (standing cut order from).uses place u e;
      none = λ k after before. none k (omega (arith, after)) before;
    };
    train = refl;
    one = sym (ap (λ o. unwrap_or o no_use) e);
  }

  -- who stands nearest stays when a row further back is put in
  pub near_stays : (from : ℕ) → from < at → (near : Option Near) → IsNear cut order at place near → (o : Option Use)
      → use_of (standing cut order from) place ≡ o → IsNear cut order at place (filled near (near_by (slice_index order from) o None))
  near_stays from lt (Some near) is o e = is
  near_stays from lt None none None e = none
  near_stays from lt None none (Some u) e = with_row from lt None (λ k after before. none k (omega arith) before) (Some u) e

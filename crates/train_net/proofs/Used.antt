-- What holds at the places of a train's uses.
use Rattle.std.proofs.Common.{◌≡◌, ℕ, ◌<◌, ◌≤◌, true, ◌==◌, List, length, map, get_or, refl, sym, subst, arith}
use Rattle.std.specs.Prelude.{Option, None, Some, All, IfSome, slice_index_or}
use Rattle.std.specs.List.{list_any}
use Rattle.std.proofs.lemmas.Bool.{eq-eqb, eqb-true}
use Rattle.std.proofs.lemmas.List.{get_or-map, length-map}
use Rattle.std.proofs.lemmas.List.Elements.{All-from_get_or}
use Rattle.std.proofs.lemmas.List.Folds.{list_any_at, Any-from_list_any}
use Rattle.rail_model.specs.declared.stair.Use.{Use}
use Rattle.plan_model.specs.declared.cut.Cut.{Cut}
use Rattle.plan_model.specs.Members.{member_count, no_use}
use Rattle.train_net.specs.declared.near.Near.{Near}
use Rattle.train_net.specs.Net.{standing}
use Rattle.train_net.specs.Near.{IsNear, AreNear, AreNearAt}

-- what holds at the place of each use holds at each place that is used
pub at_used : (P : ℕ → Type 0) (uses : List Use) → All (λ u. P u.block) uses → (place : ℕ)
    → list_any (λ u. u.block == place) uses ≡ true → P place
at_used P uses all place used =
    let at = Any-from_list_any (λ (u : Use). u.block == place) uses used in
    subst P (eqb-true at.1.block place at.4) (subst (λ (u : Use). P u.block) at.3 (all at.0 at.1 at.2))

-- the places of some uses are below what their blocks are
pub places_below : (uses : List Use) (n : ℕ) → All (λ u. u.block < n) uses → All (λ p. p < n) (map (λ u. u.block) uses)
places_below uses n all =
    All-from_get_or (λ p. p < n) (map (λ (u : Use). u.block) uses) 0 (λ k l.
    let lk : k < length uses = omega (arith, l, length-map uses (λ (u : Use). u.block)) in
    omega (arith, all k no_use lk, get_or-map (λ (u : Use). u.block) uses k no_use 0 lk))

-- a table for the places of who stands at a position
pub near_at : (cut : Cut) (order : List ℕ) (at : ℕ) (near : List (Option Near)) (places : List ℕ)
    → places ≡ map (λ u. u.block) (standing cut order at).uses → AreNear cut order at places near → AreNearAt cut order at near
near_at cut order at near places e are =
    let uses = (standing cut order at).uses in
    at_used (λ p. IsNear cut order at p (slice_index_or near p None)) uses (λ k d l.
    let is : get_or (map (λ (u : Use). u.block) uses) k 0 ≡ (get_or uses k d).block = get_or-map (λ (u : Use). u.block) uses k d 0 l in
    subst (λ p. IsNear cut order at p (slice_index_or near p None)) is
    (subst (λ ps. AreNear cut order at ps near) e are k 0 (omega (arith, l, length-map uses (λ (u : Use). u.block)))))

-- whoever is found is a member
found_there : (cut : Cut) (order : List ℕ) (at place : ℕ) → at ≤ length order → All (λ i. i < member_count cut) order
    → (o : Option Near) → IsNear cut order at place o → IfSome o (λ x. x.train < member_count cut)
found_there cut order at place within there None none = tt
found_there cut order at place within there (Some one) is =
    subst (λ n. n < member_count cut) (sym is.train) (there is.position 0 (omega (arith, is.nearest.before, within)))

pub all_there : (cut : Cut) (order : List ℕ) (at : ℕ) (near : List (Option Near)) → at ≤ length order
    → All (λ i. i < member_count cut) order → AreNearAt cut order at near
    → All (λ u. IfSome (slice_index_or near u.block None) (λ x. x.train < member_count cut)) (standing cut order at).uses
all_there cut order at near within there table k d l =
    let uses = (standing cut order at).uses in
    let p = (get_or uses k d).block in
    found_there cut order at p within there (slice_index_or near p None)
    (table p (list_any_at (λ u. u.block == p) uses k d l (eq-eqb p p refl)))

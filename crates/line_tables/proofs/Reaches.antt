-- Sets of routes by what the routes' signals stand for: how they follow the routes, the signals and their blocks.
use Rattle.std.proofs.Common.{◌≡◌, ℕ, ◌==◌, Bool, true, false, not, ◌&&◌, ◌||◌, List, [], ◌∷◌, get_or, map, Option, Some, None, refl, sym, ap, ◌∙◌, subst, inl, inr}
use Rattle.std.specs.Prelude.{All}
use Rattle.std.specs.List.{list_any, find}
use Rattle.std.specs.Option.{option_map_or}
use Rattle.std.proofs.lemmas.Bool.{cases_Bool, both_ways, eqb-true, eq-eqb, or_parts, and_parts, false_from_ne_true}
use Rattle.std.proofs.lemmas.List.Folds.{list_any_none}
use Rattle.std.proofs.Math.Bool.{or-false, or-true, and-false, and-true, not-and_self}
use Rattle.rail_model.specs.declared.items.Route.{Route}
use Rattle.rail_model.specs.declared.items.Signal.{Signal}
use Rattle.line_tables.specs.declared.linked.Linked.{Linked}
use Rattle.line_tables.specs.Table.{under, IsTable}
use Rattle.line_tables.specs.KeySet.{Meets, KeepsApart}
use Rattle.line_tables.specs.Links.{lists_key, repeats_key, block_of, meets}
use Rattle.line_tables.specs.RouteSets.{has, SameSets, lead_to, IsPutAt, IsTakenAt, IsChangedAt, reaches, AreSetsOf}
use Rattle.line_tables.proofs.Filed.{some_from_map}
use Rattle.line_tables.proofs.Found.{list_any-map}
use Rattle.line_tables.proofs.References.{list_any_same}
use Rattle.line_tables.proofs.Meets.{under_passes}
use Rattle.line_tables.proofs.Repeats.{moved, key_once}
use Rattle.line_tables.proofs.Under.{IsSwapped}

-- ---- another route, or none, under a key

abbrev pub refs_of : Option (Linked Route) → List ℕ
refs_of o = option_map_or (λ e. e.refs) o []

led_by : (f : ℕ → ℕ) (o : Option (Linked Route)) (x : ℕ) → option_map_or (λ e. lead_to f e.refs x) o false ≡ lead_to f (refs_of o) x
led_by f None x = refl
led_by f (Some e) x = refl

module _ (f : ℕ → ℕ) where
  -- sets that say what they said
  pub sets_same : (routes : List (ℕ × Linked Route)) (old new : List (List ℕ)) → SameSets old new → AreSetsOf f routes old → AreSetsOf f routes new
  sets_same routes old new same sets x r = same x r ∙ sets x r

  -- the route under a key is taken out of the sets of its signals, and the new one put into those of its own
  sets_swapped : (routes later : List (ℕ × Linked Route)) (k : ℕ) (now : Option (Linked Route)) (old new : List (List ℕ)) → AreSetsOf f routes old → IsSwapped routes later k now → IsChangedAt f (refs_of (under routes k)) f (refs_of now) k old new → AreSetsOf f later new
  sets_swapped routes later k now old new sets swapped changed x r =
      let before = lead_to f (refs_of (under routes k)) x in
      let after = lead_to f (refs_of now) x in
      elim (cases_Bool (r == k)) [
        | inl e ↦
            let key = eqb-true r k e in
            let was : has old x r ≡ before = sets x r ∙ ap (reaches f routes x) key ∙ led_by f (under routes k) x in
            let left : has new x r ≡ after = changed x r ∙ rw (e, was, and-true after, and-true before, not-and_self before) (or-false after) in
            let stands : under later r ≡ now = swapped r ∙ rw e refl in
            left ∙ sym (rw stands (led_by f now x))
        | inr e ↦
            let stays : has new x r ≡ has old x r = changed x r ∙ rw (e, and-false after, and-false before) refl in
            let stands : under later r ≡ under routes r = swapped r ∙ rw e refl in
            stays ∙ sets x r ∙ rw stands refl
      ]

  pub sets_by_add : (routes later : List (ℕ × Linked Route)) (k : ℕ) (x : Linked Route) (old new : List (List ℕ)) → AreSetsOf f routes old → IsSwapped routes later k (Some x) → under routes k ≡ None → IsPutAt f x.refs k old new → AreSetsOf f later new
  sets_by_add routes later k x old new sets swapped vacant put =
      sets_swapped routes later k (Some x) old new sets swapped (λ y r. rw vacant (put y r))

  pub sets_by_swap : (routes later : List (ℕ × Linked Route)) (k : ℕ) (before x : Linked Route) (old new : List (List ℕ)) → AreSetsOf f routes old → IsSwapped routes later k (Some x) → under routes k ≡ Some before → IsChangedAt f before.refs f x.refs k old new → AreSetsOf f later new
  sets_by_swap routes later k before x old new sets swapped here changed =
      sets_swapped routes later k (Some x) old new sets swapped (λ y r. rw here (changed y r))

  pub sets_by_remove : (routes later : List (ℕ × Linked Route)) (k : ℕ) (before : Linked Route) (old new : List (List ℕ)) → AreSetsOf f routes old → IsSwapped routes later k None → under routes k ≡ Some before → IsTakenAt f before.refs k old new → AreSetsOf f later new
  sets_by_remove routes later k before old new sets swapped here taken =
      sets_swapped routes later k None old new sets swapped (λ y r. rw here (taken y r))

  -- signals that stand for what they stood for
  pub sets_same_images : (g : ℕ → ℕ) (routes : List (ℕ × Linked Route)) (sets : List (List ℕ)) → All (λ u. All (λ q. g q ≡ f q) u.1.refs) routes → AreSetsOf f routes sets → AreSetsOf g routes sets
  sets_same_images g routes sets same are x r = are x r ∙ images (under routes r) refl
    where
      images : (o : Option (Linked Route)) → under routes r ≡ o → reaches f routes x r ≡ reaches g routes x r
      images None e = rw e refl
      images (Some route) e =
          let passes = under_passes (λ u. All (λ q. g q ≡ f q) u.1.refs) routes r route e same in
          let all : All (λ q. g q ≡ f q) route.refs = subst (λ (e : Linked Route). All (λ q. g q ≡ f q) e.refs) passes.1 passes.2 in
          rw e (list_any_same (λ q. f q == x) (λ q. g q == x) route.refs (λ i d l. ap (λ y. y == x) (sym (all i d l))))

-- ---- one signal moves to another block

module _ (f : ℕ → ℕ) (s from to : ℕ) (is : f s ≡ from) where
  -- the signals of one route
  moved_leads : (refs : List ℕ) (x : ℕ) → repeats_key (map f refs) ≡ false → lead_to (moved f s to) refs x ≡ ((to == x && lists_key refs s) || (not (from == x && lists_key refs s) && lead_to f refs x))
  moved_leads [] x h = rw (and-false (to == x), and-false (not (from == x && false))) refl
  moved_leads (q ∷ refs) x h =
      let apart = or_parts (lists_key (map f refs) (f q)) (repeats_key (map f refs)) h in
      let rest = moved_leads refs x apart.1 in
      elim (cases_Bool (q == s)) [
        | inl t ↦
            let key = eqb-true q s t in
            let once = key_once f s to refs q t apart.0 in
            let image : f q ≡ from = ap f key ∙ is in
            let past : lead_to (moved f s to) refs x ≡ lead_to f refs x = rest ∙ rw (once, and-false (to == x), and-false (from == x)) refl in
            elim (cases_Bool (from == x)) [
              | inl e ↦
                  let none : lead_to f refs x ≡ false = ap (lead_to f refs) (sym (eqb-true from x e) ∙ sym image) ∙ sym (list_any-map f (λ y. y == f q) refs) ∙ apart.0 in
                  rw (t, past, none, image, e, and-true (to == x)) refl
              | inr e ↦ rw (t, past, image, e, and-true (to == x)) refl
            ]
        | inr t ↦ elim (cases_Bool (f q == x)) [
          | inl e ↦
              let stays : (from == x && lists_key refs s) ≡ false =
              false_from_ne_true (from == x && lists_key refs s)
              (λ both.
              let parts = and_parts (from == x) (lists_key refs s) both in
              let image : f s ≡ f q = is ∙ eqb-true from x parts.0 ∙ sym (eqb-true (f q) x e) in
              both_ways (lists_key (map f refs) (f q)) apart.0 (listed_image f s refs (f q) parts.1 image)) in
              rw (t, e, stays) (sym (or-true (to == x && lists_key refs s)))
          | inr e ↦ rw (t, e) rest
        ]
      ]
    where
      listed_image : (f : ℕ → ℕ) (s : ℕ) (refs : List ℕ) (y : ℕ) → lists_key refs s ≡ true → f s ≡ y → lists_key (map f refs) y ≡ true
      listed_image f s [] y listed e = absurd (cc)
      listed_image f s (q ∷ refs) y listed e =
          elim (cases_Bool (q == s)) [
            | inl t ↦ rw (eq-eqb (f q) y (ap f (eqb-true q s t) ∙ e)) refl
            | inr t ↦ elim (cases_Bool (f q == y)) [ inl u ↦ rw u refl | inr u ↦ rw u (listed_image f s refs y (rw t at listed) e) ]
          ]

  pub sets_moved : (routes : List (ℕ × Linked Route)) (by_signal old new : List (List ℕ)) → AreSetsOf (λ q. q) routes by_signal → AreSetsOf f routes old → All (λ u. repeats_key (map f u.1.refs) ≡ false) routes → ((x r : ℕ) → has new x r ≡ ((to == x && has by_signal s r) || (not (from == x && has by_signal s r) && has old x r))) → AreSetsOf (moved f s to) routes new
  sets_moved routes by_signal old new listed sets apart moves x r =
      moves x r ∙ rw (listed s r, sets x r) (images (under routes r) refl)
    where
      images : (o : Option (Linked Route)) → under routes r ≡ o → ((to == x && reaches (λ q. q) routes s r) || (not (from == x && reaches (λ q. q) routes s r) && reaches f routes x r)) ≡ reaches (moved f s to) routes x r
      images None e = rw e (rw (and-false (to == x), and-false (not (from == x && false))) refl)
      images (Some route) e =
          let passes = under_passes (λ u. repeats_key (map f u.1.refs) ≡ false) routes r route e apart in
          let once : repeats_key (map f route.refs) ≡ false = subst (λ (e : Linked Route). repeats_key (map f e.refs) ≡ false) passes.1 passes.2 in
          rw e (sym (moved_leads route.refs x once))

-- ---- what two sets say together

list_any_found : {X : Type 0} (p q : X → Bool) (xs : List X) (y : X) → find p xs ≡ Some y → q y ≡ true → list_any q xs ≡ true
list_any_found p q [] y e t = absurd (cc)
list_any_found p q (x ∷ xs) y e t =
    elim (cases_Bool (p x)) [
      | inl u ↦
          let s : Some x ≡ Some y = rw u at e in
          let same : x ≡ y = cc in
          rw (ap q same ∙ t) refl
      | inr u ↦ elim (cases_Bool (q x)) [ inl v ↦ rw v refl | inr v ↦ rw v (list_any_found p q xs y (rw u at e) t) ]
    ]

module _ (signals : List (ℕ × Linked Signal)) (routes : List (ℕ × Linked Route)) (of_signals of_blocks : List (List ℕ)) (s b : ℕ) (listed : AreSetsOf (λ q. q) routes of_signals) (sets : AreSetsOf (block_of signals) routes of_blocks) where
  pub some_meets : (r : ℕ) → (has of_signals s r && has of_blocks b r) ≡ true → list_any (meets signals s b) routes ≡ true
  some_meets r both =
      let parts = and_parts (has of_signals s r) (has of_blocks b r) both in
      found (under routes r) refl (sym (listed s r) ∙ parts.0) (sym (sets b r) ∙ parts.1)
    where
      found : (o : Option (Linked Route)) → under routes r ≡ o → reaches (λ q. q) routes s r ≡ true → reaches (block_of signals) routes b r ≡ true → list_any (meets signals s b) routes ≡ true
      found None e first second = absurd (let no : false ≡ true = rw e at first in cc)
      found (Some route) e first second =
          let u = some_from_map (λ (u : ℕ × Linked Route). u.1) (find (λ u. u.0 == r) routes) route e in
          let a : lists_key route.refs s ≡ true = rw e at first in
          let c : lead_to (block_of signals) route.refs b ≡ true = rw e at second in
          list_any_found (λ (u : ℕ × Linked Route). u.0 == r) (meets signals s b) routes u.0 u.1 (rw u.2 (rw (a, c) refl))

  pub none_meets : IsTable (λ (e : Linked Route). e.item.name) routes → ((r : ℕ) → (has of_signals s r && has of_blocks b r) ≡ false) → list_any (meets signals s b) routes ≡ false
  none_meets table apart =
      list_any_none (meets signals s b) routes
      (λ i d l.
      let u = get_or routes i d in
      let here = table.keys i d l in
      let first : has of_signals s u.0 ≡ lists_key u.1.refs s = listed s u.0 ∙ rw here refl in
      let second : has of_blocks b u.0 ≡ lead_to (block_of signals) u.1.refs b = sets b u.0 ∙ rw here refl in
      rw (← first, ← second) (apart u.0))

  pub meet_tells : (met : Bool) → IsTable (λ (e : Linked Route). e.item.name) routes → (met ≡ true → Meets (get_or of_signals s []) (get_or of_blocks b [])) → (met ≡ false → KeepsApart (get_or of_signals s []) (get_or of_blocks b [])) → met ≡ list_any (meets signals s b) routes
  meet_tells true table some none =
      let both = some refl in
      sym (some_meets both.0 both.1)
  meet_tells false table some none = sym (none_meets table (none refl))

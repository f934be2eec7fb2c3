-- The sets of routes after an edit of a signal.
use Rattle.std.proofs.Common.{◌≡◌, ◌≢◌, ℕ, ◌==◌, false, not, ◌&&◌, ◌||◌, List, [], ◌∷◌, length, get_or, map, Option, Some, None, refl, sym, ap, ◌∙◌, subst, inl, inr, arith}
use Rattle.std.specs.Prelude.{All, IsSome}
use Rattle.std.proofs.lemmas.Bool.{cases_Bool, both_ways, eqb-true, eq-eqb, false_from_ne_true}
use Rattle.std.proofs.lemmas.List.{get_or_default}
use Rattle.std.proofs.lemmas.List.Elements.{All-nil, All-cons}
use Rattle.std.proofs.lemmas.List.Sums.{sum_by-cons}
use Rattle.rail_model.specs.declared.items.Block.{Block}
use Rattle.rail_model.specs.declared.items.Signal.{Signal}
use Rattle.rail_model.specs.declared.items.Route.{Route}
use Rattle.line_tables.specs.declared.linked.Linked.{Linked}
use Rattle.line_tables.specs.Table.{under, IsTable}
use Rattle.line_tables.specs.KeyCounts.{times}
use Rattle.line_tables.specs.Links.{references, block_of, IsKey}
use Rattle.line_tables.specs.RouteSets.{has, SameSets, IsMoved, AreSetsOf}
use Rattle.line_tables.specs.Inside.{WholeTables, IsJoined}
use Rattle.line_tables.proofs.Counts.{times_at}
use Rattle.line_tables.proofs.References.{entry}
use Rattle.line_tables.proofs.Meets.{all_keys, none_repeats, under_passes}
use Rattle.line_tables.proofs.Repeats.{moved}
use Rattle.line_tables.proofs.Reaches.{sets_same, sets_same_images, sets_moved}
use Rattle.line_tables.proofs.Under.{IsSwapped}

-- ---- the signals of routes, and their blocks

one_ref : (o : Option ℕ) (refs : List ℕ) → o ∷ [] ≡ map Some refs → length refs ≡ 1
one_ref o [] e = absurd (cc)
one_ref o (k ∷ []) e = refl
one_ref o (k ∷ q ∷ refs) e = absurd (cc)

-- a signal refers to one block
pub one_block : (t : WholeTables) → IsJoined t → All (λ e. length e.1.refs ≡ 1) t.signals
one_block t j i d l = one_ref _ (get_or t.signals i d).1.refs (j.signals i d l)

-- what a route refers to are signals
pub listed_keys : (t : WholeTables) → IsJoined t → IsTable (λ (e : Linked Signal). e.item.name) t.signals → (k : ℕ) (route : Linked Route) → under t.routes k ≡ Some route → All (IsKey t.signals) route.refs
listed_keys t j table k route here =
    let all : All (λ u. All (IsKey t.signals) u.1.refs) t.routes =
    λ i d l. let u = get_or t.routes i d in all_keys (λ (e : Linked Signal). e.item.name) t.signals table u.1.item.signals u.1.refs (j.routes i d l) in
    let one = under_passes (λ u. All (IsKey t.signals) u.1.refs) t.routes k route here all in
    subst (λ (e : Linked Route). All (IsKey t.signals) e.refs) one.1 one.2

-- ---- a signal under another key keeps its block

block_kept : (signals later : List (ℕ × Linked Signal)) (k q : ℕ) (now : Option (Linked Signal)) → IsSwapped signals later k now → (q == k) ≡ false → block_of later q ≡ block_of signals q
block_kept signals later k q now swapped apart = rw (swapped q, apart) refl

-- an unlisted key is none of the keys
unlisted : (k : ℕ) (keys : List ℕ) → times k keys ≡ 0 → All (λ q. (q == k) ≡ false) keys
unlisted k keys none i d l =
    false_from_ne_true (get_or keys i d == k)
    (λ e.
    let at : get_or keys i 0 ≡ k = get_or_default keys i 0 d l ∙ eqb-true (get_or keys i d) k e in
    absurd (omega (arith, times_at keys i k l at, none)))

pub unreferred : {A : Type 0} (k : ℕ) (users : List (ℕ × Linked A)) → references users k ≡ 0 → All (λ u. All (λ q. (q == k) ≡ false) u.1.refs) users
unreferred k [] none = All-nil (λ u. All (λ q. (q == k) ≡ false) u.1.refs)
unreferred k (u ∷ users) none =
    let count = sum_by-cons (λ (u : ℕ × Linked _). times k u.1.refs) u users in
    All-cons (λ u. All (λ q. (q == k) ≡ false) u.1.refs) u users (unlisted k u.1.refs (omega arith)) (unreferred k users (omega arith))

module _ (t : WholeTables) (j : IsJoined t) (later : List (ℕ × Linked Signal)) (k : ℕ) (now : Option (Linked Signal)) (swapped : IsSwapped t.signals later k now) where
  -- no route lists a signal of a new key
  pub sets_by_put : IsTable (λ (e : Linked Signal). e.item.name) t.signals → under t.signals k ≡ None → AreSetsOf (block_of later) t.routes t.route_sets.of_blocks
  sets_by_put table vacant =
      sets_same_images (block_of t.signals) (block_of later) t.routes t.route_sets.of_blocks
      (λ i d l.
      let u = get_or t.routes i d in
      let keys = all_keys (λ (e : Linked Signal). e.item.name) t.signals table u.1.item.signals u.1.refs (j.routes i d l) in
      λ n c m.
      let q = get_or u.1.refs n c in
      let there : IsKey t.signals q = keys n c m in
      block_kept t.signals later k q now swapped
      (false_from_ne_true (q == k)
      (λ e. absurd (let no : IsSome {T = Linked Signal} None = subst IsSome (ap (under t.signals) (eqb-true q k e) ∙ vacant) there in cc))))
      j.block_routes

  pub sets_by_drop : references t.routes k ≡ 0 → AreSetsOf (block_of later) t.routes t.route_sets.of_blocks
  sets_by_drop none =
      sets_same_images (block_of t.signals) (block_of later) t.routes t.route_sets.of_blocks
      (λ i d l n c m. block_kept t.signals later k (get_or (get_or t.routes i d).1.refs n c) now swapped (unreferred k t.routes none i d l n c m))
      j.block_routes

-- the sets of blocks follow a signal from one block to another
pub record HasFollowed (by_signal : List ℕ) (from to : ℕ) (old new : List (List ℕ)) : Type 0 where
  pub stayed : from ≡ to → SameSets old new
  pub moved : from ≢ to → IsMoved by_signal from to old new

pub follows_after : (by_signal made_by : List (List ℕ)) (s from to : ℕ) (old made new : List (List ℕ)) → made_by ≡ by_signal → SameSets old made → (from ≡ to → SameSets made new) → (from ≢ to → IsMoved (get_or made_by s []) from to made new) → HasFollowed (get_or by_signal s []) from to old new
follows_after by_signal made_by s from to old made new listed same stays moves = record {
  stayed = λ e x r. stays e x r ∙ same x r;
  moved = λ e x r.
      let here : IsMoved (get_or by_signal s []) from to made new = subst (λ b. IsMoved (get_or b s []) from to made new) listed (moves e) in
      here x r ∙ ap (λ h. (to == x && has by_signal s r) || (not (from == x && has by_signal s r) && h)) (same x r);
}

module _ (t : WholeTables) (j : IsJoined t) (signals : IsTable (λ (e : Linked Signal). e.item.name) t.signals) (blocks : IsTable (λ (b : Block). b.name) t.blocks) where
  pub sets_by_change : (later : List (ℕ × Linked Signal)) (k from to : ℕ) (x : Signal) (refs : List ℕ) (new : List (List ℕ)) → IsSwapped t.signals later k (Some (entry x refs)) → block_of t.signals k ≡ from → get_or refs 0 0 ≡ to → HasFollowed (get_or t.route_sets.of_signals k []) from to t.route_sets.of_blocks new → AreSetsOf (block_of later) t.routes new
  sets_by_change later k from to x refs new swapped is goes follows =
      let f = block_of t.signals in
      let image : (q : ℕ) → block_of later q ≡ moved f k to q =
      λ q. elim (cases_Bool (q == k)) [ inl e ↦ rw (swapped q, e, goes) refl | inr e ↦ rw (swapped q, e) refl ] in
      elim (cases_Bool (from == to)) [
        | inl e ↦
            let same = eqb-true from to e in
            sets_same_images f (block_of later) t.routes new
            (λ i d l n c m.
            let q = get_or (get_or t.routes i d).1.refs n c in
            image q ∙ elim (cases_Bool (q == k)) [ inl a ↦ rw a (sym same ∙ sym is ∙ ap f (sym (eqb-true q k a))) | inr a ↦ rw a refl ])
            (sets_same f t.routes t.route_sets.of_blocks new (follows.stayed same) j.block_routes)
        | inr e ↦
            let apart : from ≢ to = λ s. both_ways (from == to) e (eq-eqb from to s) in
            sets_same_images (moved f k to) (block_of later) t.routes new
            (λ i d l n c m. image (get_or (get_or t.routes i d).1.refs n c))
            (sets_moved f k from to is t.routes t.route_sets.of_signals t.route_sets.of_blocks new j.signal_routes j.block_routes (none_repeats t j signals blocks) (follows.moved apart))
      ]

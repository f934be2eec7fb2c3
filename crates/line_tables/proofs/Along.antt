-- Sets of routes along the signals of one route.
use Rattle.std.proofs.Common.{◌≡◌, ℕ, ◌+◌, ◌/◌, ◌<◌, ◌==◌, Bool, true, false, not, ◌&&◌, ◌||◌, List, length, get_or, take, map, refl, ap, ◌∙◌, arith}
use Rattle.std.specs.List.{list_any}
use Rattle.std.proofs.lemmas.List.Elements.{All-more, All-weaker}
use Rattle.std.proofs.lemmas.List.Folds.{list_any_more}
use Rattle.line_tables.specs.RouteSets.{has, SameSets, words_of, NoneShorter, lead_to, HasRoomAt, IsPutAt, IsTakenAt, IsChangedAt}
use Rattle.line_tables.proofs.Found.{list_any-map}

put_both : (p l s h : Bool) → ((p && s) || ((l && s) || h)) ≡ (((l || p) && s) || h)
put_both true true true h = refl
put_both true true false h = refl
put_both true false true h = refl
put_both true false false h = refl
put_both false true s h = refl
put_both false false s h = refl

take_both : (p l s h : Bool) → (not (p && s) && (not (l && s) && h)) ≡ (not ((l || p) && s) && h)
take_both true true true h = refl
take_both true true false h = refl
take_both true false true h = refl
take_both true false false h = refl
take_both false true s h = refl
take_both false false s h = refl

module _ (f : ℕ → ℕ) (signals : List ℕ) (route i : ℕ) (l : i < length signals) (old now new : List (List ℕ)) where
  abbrev here : ℕ → Bool
  here x = f (get_or signals i 0) == x

  pub put_more : IsPutAt f (take i signals) route old now → ((x r : ℕ) → has new x r ≡ ((here x && r == route) || has now x r)) → IsPutAt f (take (i + 1) signals) route old new
  put_more so_far step x r =
      step x r ∙ rw (so_far x r, list_any_more (λ q. f q == x) signals i 0 l)
      (put_both (here x) (lead_to f (take i signals) x) (r == route) (has old x r))

  pub take_more : IsTakenAt f (take i signals) route old now → ((x r : ℕ) → has new x r ≡ (not (here x && r == route) && has now x r)) → IsTakenAt f (take (i + 1) signals) route old new
  take_more so_far step x r =
      step x r ∙ rw (so_far x r, list_any_more (λ q. f q == x) signals i 0 l)
      (take_both (here x) (lead_to f (take i signals) x) (r == route) (has old x r))

-- the route is put in at the blocks of its signals
lead_to_images : (f : ℕ → ℕ) (signals images : List ℕ) (x : ℕ) → images ≡ map f signals → lead_to (λ q. q) images x ≡ lead_to f signals x
lead_to_images f signals images x are = ap (list_any (λ q. q == x)) are ∙ list_any-map f (λ q. q == x) signals

pub put_at_images : (f : ℕ → ℕ) (signals images : List ℕ) (route : ℕ) (old new : List (List ℕ)) → images ≡ map f signals → IsPutAt (λ q. q) images route old new → IsPutAt f signals route old new
put_at_images f signals images route old new are put x r =
    put x r ∙ ap (λ l. (l && r == route) || has old x r) (lead_to_images f signals images x are)

pub change_at_images : (f : ℕ → ℕ) (before signals images : List ℕ) (route : ℕ) (old new : List (List ℕ)) → images ≡ map f signals → IsChangedAt f before (λ q. q) images route old new → IsChangedAt f before f signals route old new
change_at_images f before signals images route old new are changed x r =
    changed x r ∙ ap (λ l. (l && r == route) || (not (lead_to f before x && r == route) && has old x r)) (lead_to_images f signals images x are)

-- the route is taken out and put in, in sets that first stayed what they were
pub change_in_turn : (f g : ℕ → ℕ) (before after : List ℕ) (route : ℕ) (old made between new : List (List ℕ)) → SameSets old made → IsTakenAt f before route made between → IsPutAt g after route between new → IsChangedAt f before g after route old new
change_in_turn f g before after route old made between new same taken put x r = put x r ∙ rw (taken x r, same x r) refl

-- ---- room for the route

pub room_stays : (f : ℕ → ℕ) (signals : List ℕ) (route : ℕ) (old new : List (List ℕ)) → NoneShorter old new → HasRoomAt f signals route old → HasRoomAt f signals route new
room_stays f signals route old new longer room =
    All-weaker (λ q. route / 64 < words_of old (f q)) (λ q. route / 64 < words_of new (f q)) (λ q h. omega (arith, h, longer (f q))) signals room

pub room_more : (f : ℕ → ℕ) (signals : List ℕ) (route i : ℕ) → i < length signals → (old new : List (List ℕ)) → NoneShorter old new → HasRoomAt f (take i signals) route old → route / 64 < words_of new (f (get_or signals i 0)) → HasRoomAt f (take (i + 1) signals) route new
room_more f signals route i l old new longer room here =
    All-more (λ q. route / 64 < words_of new (f q)) signals i 0 l (room_stays f (take i signals) route old new longer room) here

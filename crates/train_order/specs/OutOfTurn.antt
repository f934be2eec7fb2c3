-- Members that are out of turn: they start somewhere before one that stands before them in an order.
use Rattle.std.specs.Prelude.{◌≡◌, ℕ, ◌<◌, ◌||◌, ◌==◌, ℤ, ◌≤ℤ◌, Bool, true, false, List, length, All, IfSome, Option, Some, None, slice_index, slice_index_or}
use Rattle.rail_model.specs.declared.stair.Use.{Use}
use Rattle.plan_model.specs.declared.cut.Cut.{Cut}
use Rattle.plan_model.specs.Members.{member, member_count, place_count, precedes}
use Rattle.plan_model.specs.Disorder.{are_opposite}
use Rattle.train_order.specs.Types.{Moment}
use Rattle.train_order.specs.EntryOrder.{pair_of, last_at}
use Rattle.train_order.specs.Sets.{holds}
use Rattle.train_order.specs.Starts.{start_of, starts_first}
use Rattle.train_order.specs.Visits.{is_earlier}

-- of some members in an order, those that aren't in a set: none of them precedes one that stands before it
abbrev pub KeepTurn : Cut → List ℕ → List ℕ → Type 0
KeepTurn cut positions words =
    (k l place : ℕ) → k < l → l < length positions
    → holds words (slice_index positions k) ≡ false → holds words (slice_index positions l) ≡ false
    → precedes (member cut (slice_index positions l)) (member cut (slice_index positions k)) place ≡ false

-- of two members that aren't in a set, neither is opposite to the other
abbrev pub AreApart : Cut → List ℕ → Type 0
AreApart cut words =
    (i j : ℕ) → i < member_count cut → j < member_count cut → holds words i ≡ false → holds words j ≡ false
    → are_opposite cut i j ≡ false

-- the last starts of places rise: none is earlier than it was
abbrev pub Rise : List Moment → List Moment → Type 0
Rise before after = (place : ℕ) → is_earlier (pair_of (last_at after place)) (pair_of (last_at before place)) ≡ false

-- a member comes last by some uses: its starts come after the last ones of their places, none of which is earlier than
-- they from then on
pub record ComesLast (before after : List Moment) (i : ℕ) (uses : List Use) : Type 0 where
  pub later : All (λ u. is_earlier (pair_of (last_at before u.block)) (u.start, i) ≡ true) uses
  pub last : All (λ u. is_earlier (pair_of (last_at after u.block)) (u.start, i) ≡ false) uses

-- a member is in turn: it comes last at its places
pub record IsInTurn (before after : List Moment) (words more : List ℕ) (i : ℕ) (uses : List Use) : Type 0 where
  pub comes : ComesLast before after i uses
  pub same : more ≡ words

-- a member is out of turn: it is put into a set
abbrev pub IsOutOfTurn : List ℕ → List ℕ → ℕ → Type 0
IsOutOfTurn words more i = (k : ℕ) → holds more k ≡ ((i == k) || holds words k)

-- no start of a table is before a moment
abbrev pub AreFrom : ℤ → List (Option ℤ) → Type 0
AreFrom first starts = (place : ℕ) → IfSome (slice_index_or starts place None) (λ s. first ≤ℤ s)

-- the start of a member at each place, if it uses it, and a moment before which none is
pub record AreStarts (cut : Cut) (i : ℕ) (starts : List (Option ℤ)) (first : ℤ) : Type 0 where
  pub count : length starts ≡ place_count cut
  pub each : (place : ℕ) → slice_index_or starts place None ≡ start_of (member cut i).uses place
  pub from : AreFrom first starts

-- a member with these starts precedes another at its use; at one moment it does where it is named before it
abbrev pub leads_at : Bool → List (Option ℤ) → Use → Bool
leads_at named starts u = starts_first named (slice_index_or starts u.block None) (Some u.start)

-- the other precedes it there
abbrev pub trails_at : Bool → List (Option ℤ) → Use → Bool
trails_at named starts u = starts_first named (Some u.start) (slice_index_or starts u.block None)

-- What the trains of a cut are answered: their order, or their disorder.
use Rattle.std.specs.Prelude.{◌≡◌, ◌≢◌, ℕ, ◌<◌, List, [], ◌++◌, length, map, take, drop, slice_index, Option, None, Some, Result, Ok, Err, IsTrue}
use Rattle.std.specs.List.{zip}
use Rattle.std.specs.List.Sorted.{IsPermutation}
use Rattle.plan_model.specs.declared.cut.Cut.{Cut}
use Rattle.plan_model.specs.Members.{member_count, members, precedes_somewhere}
use Rattle.plan_model.specs.Disorder.{opposite, opposite_pair, remaining, link_of, ring, ring_members}
use Rattle.train_order.specs.Types.{Order, Disordered, MemberSet, WithoutSets}
use Rattle.train_order.specs.declared.ordering.WithoutSets.TheVariants as without_sets
use Rattle.plan_model.specs.declared.answer.Disorder.{Disorder}
use Rattle.plan_model.specs.declared.answer.Disorder.TheVariants as disorder
use Rattle.train_order.specs.declared.found.Disordered.TheVariants as disordered
use Rattle.train_order.specs.Taking.{left_of}
use Rattle.train_order.specs.Opposite.{first_opposed, told_opposite}
use Rattle.train_order.specs.Walk.{IsRing, IsRingBy}

-- one number stands before another in a list
pub record StandsBefore (positions : List ℕ) (i j : ℕ) : Type 0 where
  pub at : ℕ
  pub next : ℕ
  pub before : at < next
  pub within : next < length positions
  pub one : slice_index positions at ≡ i
  pub other : slice_index positions next ≡ j

-- an order of a cut's members: it has each once, and each that precedes another somewhere stands before it
pub record IsOrder (cut : Cut) (positions : List ℕ) : Type 0 where
  pub each_once : IsPermutation (members cut) positions
  pub before : (i j : ℕ) → i < member_count cut → j < member_count cut → IsTrue (precedes_somewhere cut i j)
      → StandsBefore positions i j

-- what a cut is answered: an order, where no members are opposite and none remain; else its opposite trains; else
-- its ring, where members remain
abbrev pub IsOrdering : Cut → Result Order Disorder → Type 0
IsOrdering cut (Ok order) =
    (opposite cut ≡ None) × (remaining cut ≡ []) × IsOrder cut order.positions
IsOrdering cut (Err (disorder.Opposite first second block1 block2)) =
    opposite cut ≡ Some (record { first = first; second = second; block1 = block1; block2 = block2 })
IsOrdering cut (Err (disorder.Ring links)) =
    (opposite cut ≡ None) × (remaining cut ≢ []) × (links ≡ ring cut)

-- what is told without sets is what the cut is answered
abbrev pub TellsWithoutSets : Cut → WithoutSets → Type 0
TellsWithoutSets cut (without_sets.Order order) = IsOrdering cut (Ok order)
TellsWithoutSets cut (without_sets.Opposite told) = IsOrdering cut (Err told)
TellsWithoutSets cut without_sets.Unknown = Unit {0}

-- why a cut's members have no order: there is no reason where no members are opposite and none remain; else its
-- opposite members; else its ring, where members remain
abbrev pub IsDisorder : Cut → Option Disordered → Type 0
IsDisorder cut None = (opposite_pair cut ≡ None) × (remaining cut ≡ [])
IsDisorder cut (Some (disordered.Opposite i j)) = opposite_pair cut ≡ Some (i, j)
IsDisorder cut (Some (disordered.Ring members)) =
    (opposite_pair cut ≡ None) × (remaining cut ≢ []) × (members ≡ ring_members cut)

-- two members, the lesser first, each of which precedes the other somewhere
pub record AreOpposed (cut : Cut) (i j : ℕ) : Type 0 where
  pub lesser : i < j
  pub there : j < member_count cut
  pub precedes : IsTrue (precedes_somewhere cut i j)
  pub preceded : IsTrue (precedes_somewhere cut j i)

-- each member that is told precedes the next somewhere, and the last the first
abbrev pub PrecedeInTurn : Cut → Disordered → Type 0
PrecedeInTurn cut (disordered.Opposite i j) = AreOpposed cut i j
PrecedeInTurn cut (disordered.Ring members) = IsRing cut members

-- why members have no order, by the sets of those that precede each and by those that are taken up: the first two that
-- precede each other; else a ring of those that are left
abbrev pub IsDisorderBy : List MemberSet → List ℕ → Disordered → Type 0
IsDisorderBy sets taken (disordered.Opposite i j) = first_opposed sets ≡ Some (i, j)
IsDisorderBy sets taken (disordered.Ring members) =
    (first_opposed sets ≡ None) × IsRingBy sets (left_of (length sets) taken) members

-- what is told of them: their names, and the places at which they precede
abbrev pub IsTold : Cut → Disordered → Disorder → Type 0
IsTold cut (disordered.Opposite i j) told = told ≡ told_opposite cut i j
IsTold cut (disordered.Ring members) told =
    told ≡ disorder.Ring (map (link_of cut) (zip members (drop 1 members ++ take 1 members)))

-- Laws of nets.
use Rattle.std.specs.Prelude.{◌≡◌, ℕ, ◌<◌, ℤ, List, [], length, Option, None, Ok, slice_index_or, Bool, false, slice_index}
use Rattle.std.specs.List.Sorted.{IsPermutation}
use Rattle.plan_model.specs.declared.cut.Cut.{Cut}
use Rattle.plan_model.specs.declared.answer.Tie.{Tie}
use Rattle.plan_model.specs.Members.{block_count, member_count, members}
use Rattle.plan_model.specs.Cut.{IsSoundCut}
use Rattle.plan_model.specs.Disorder.{remaining}
use Rattle.plan_model.specs.Schedule.{IsLeastFrom}
use Rattle.train_order.specs.declared.found.Order.{Order}
use Rattle.train_order.specs.Ordering.{IsOrder, IsOrdering}
use Rattle.occupancy_rate.specs.declared.spans.Span.{Span}
use Rattle.occupancy_rate.specs.Spans.{AreSpans}
use Rattle.train_placing.specs.declared.last.Last.{Last}
use Rattle.train_placing.specs.Placing.{ArePlaced}
use Rattle.train_net.specs.declared.edge.Edge.{Edge}
use Rattle.train_net.specs.Net.{AreEdges, IsNet, FollowInTurn}
use Rattle.train_net.specs.Read.{AreSolved, AreRead, IsSpanAlong}
use Rattle.train_net.specs.Mended.{IsOrigin, AgreeInOrder, HasNoneFresh, AreCarried, AreMended, AreCompared, is_marked, AreMarked}

-- entries by which all trains enter so are the least schedule from these floors
abbrev pub SolvedIsLeast : Type 0
SolvedIsLeast =
    (cut : Cut) (floor : ℕ → ℤ) (order : List ℕ) (edges : List (List Edge)) (entries : List ℤ)
    → IsSoundCut cut → remaining cut ≡ [] → IsNet cut order edges → length entries ≡ member_count cut
    → AreSolved cut floor edges entries → IsLeastFrom cut floor entries

-- what is read off a net places all trains, each as early as its floor and its places allow
abbrev pub ReadArePlaced : Type 0
ReadArePlaced =
    (cut : Cut) (floor : ℕ → ℤ) (order : List ℕ) (edges : List (List Edge)) (entries : List ℤ) (ties : List Tie)
    (last : List (Option Last)) → IsSoundCut cut → IsNet cut order edges
    → AreRead cut floor order edges entries ties last → ArePlaced cut floor order entries ties last

-- the spans of blocks, each from the first who uses it to the last, are those that the entries make
abbrev pub AlongAreSpans : Type 0
AlongAreSpans =
    (cut : Cut) (floor : ℕ → ℤ) (order : List ℕ) (edges : List (List Edge)) (entries : List ℤ) (spans : List (Option Span))
    → IsSoundCut cut → IsNet cut order edges → AreSolved cut floor edges entries → length spans ≡ block_count cut
    → ((block : ℕ) → block < block_count cut → IsSpanAlong cut order entries block (slice_index_or spans block None))
    → AreSpans cut entries spans

-- members of which each follows its nearest at each place have this order, and no disorder
abbrev pub FollowingIsOrder : Type 0
FollowingIsOrder =
    (cut : Cut) (order : Order) → IsSoundCut cut → IsPermutation (members cut) order.positions
    → FollowInTurn cut order.positions → IsOrdering cut (Ok order)

-- edges that are carried over from a net are the edges to the member in the later cut
abbrev pub CarriedAreEdges : Type 0
CarriedAreEdges =
    (old new : Cut) (origin : List (Option ℕ)) (old_order order : List ℕ) (old_edges : List (List Edge)) (at : ℕ) (edges : List Edge)
    → IsNet old old_order old_edges → IsOrigin old new origin → IsPermutation (members new) order
    → AgreeInOrder origin old_order order → at < length order
    → AreCarried new origin order old_edges at edges → AreEdges new order at edges

-- a net that is mended is a net of the later cut, whose members have its order and no disorder
abbrev pub MendedIsNet : Type 0
MendedIsNet =
    (old new : Cut) (origin : List (Option ℕ)) (old_order : List ℕ) (order : Order) (old_edges edges : List (List Edge))
    → IsSoundCut new → IsNet old old_order old_edges → IsOrigin old new origin
    → AreMended new origin old_order old_edges order.positions edges
    → IsNet new order.positions edges × IsOrdering new (Ok order)

-- where fresh members are compared with their nearest, each member follows its nearest
abbrev pub ComparedFollow : Type 0
ComparedFollow =
    (old new : Cut) (origin : List (Option ℕ)) (old_order order : List ℕ) → IsSoundCut old → IsOrder old old_order
    → IsOrigin old new origin → AgreeInOrder origin old_order order → AreCompared new origin order → FollowInTurn new order

-- no fresh member stands nearest before one that isn't marked
abbrev pub UnmarkedHasNoneFresh : Type 0
UnmarkedHasNoneFresh =
    (new : Cut) (origin : List (Option ℕ)) (order : List ℕ) (marks : List Bool) (at : ℕ) → AreMarked new origin order marks
    → at < length order → is_marked marks (slice_index order at) ≡ false → HasNoneFresh new origin order at

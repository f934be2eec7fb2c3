-- Reading a net, edge after edge.
use Rattle.std.specs.Prelude.{◌≢◌, ◌<◌, ℤ, pos, ◌+ℤ◌, ◌-ℤ◌, ◌≤ℤ◌, if◌then◌else◌, List, All, Option, None, Some}
use Rattle.std.specs.Ordering.{int_eq}
use Rattle.rail_model.specs.Moment.{IsMoment}
use Rattle.plan_model.specs.declared.cut.Cut.{Cut}
use Rattle.plan_model.specs.Members.{comes_first, member, member_count}
use Rattle.plan_model.specs.Schedule.{entry_at}
use Rattle.train_placing.specs.declared.last.Last.{Last}
use Rattle.occupancy_rate.specs.declared.spans.Span.{Span}
use Rattle.train_net.specs.declared.edge.Edge.{Edge}
use Rattle.train_net.specs.declared.near.Near.{Near}
use Rattle.train_net.specs.Read.{by_edge, IsFirstTight}

-- a headway between moments of a timetable: at most 200,000,000 seconds
pub record IsShort (w : ℤ) : Type 0 where
  pub after : (pos 0 -ℤ pos 200000000) ≤ℤ w
  pub before : w ≤ℤ pos 200000000

-- an edge as which a train enters
abbrev pub tight_of : List ℤ → ℤ → Edge → Option Edge
tight_of entries entry e = if int_eq entry (by_edge entries e) then Some e else None

-- the first of two edges by the names of trains and places, if there are any
abbrev pub first_of_two : Cut → Option Edge → Option Edge → Option Edge
first_of_two cut None other = other
first_of_two cut (Some a) None = Some a
first_of_two cut (Some a) (Some b) = if comes_first cut (b.from, b.place) (a.from, a.place) then Some b else Some a

-- the first of the edges as which a train enters, or it enters as none of them
abbrev pub IsFirstOf : Cut → List Edge → List ℤ → ℤ → Option Edge → Type 0
IsFirstOf cut edges entries entry None = All (λ e. entry ≢ by_edge entries e) edges
IsFirstOf cut edges entries entry (Some best) = IsFirstTight cut edges entries entry best.from best.place

-- who is found is a member of a cut, and uses the place at moments of a timetable
pub record IsReal (cut : Cut) (near : Near) : Type 0 where
  pub there : near.train < member_count cut
  pub start : IsMoment near.one.start
  pub ends : IsMoment near.one.«end»

-- the last use of a place by who stands nearest before the order's end, by a list of entries
abbrev pub last_by : Cut → List ℤ → Near → Last
last_by cut entries near = record {
  until = near.one.«end» -ℤ (member cut near.train).entry +ℤ entry_at entries near.train;
  train = near.train;
}

-- from when until when a block is kept, by the first and the last who use it
abbrev pub span_by : Cut → List ℤ → Option Near → Option Near → Option Span
span_by cut entries None last = None
span_by cut entries (Some first) None = None
span_by cut entries (Some first) (Some last) = Some (record {
  start = first.one.start -ℤ (member cut first.train).entry +ℤ entry_at entries first.train;
  «end» = last.one.«end» -ℤ (member cut last.train).entry +ℤ entry_at entries last.train;
})

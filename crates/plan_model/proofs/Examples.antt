-- The definitions, evaluated on small lines whose cuts and answers were worked out by hand.
use Rattle.std.proofs.Common.{◌≡◌, ℕ, ◌+◌, ◌≤◌, true, false, List, [], ◌∷◌, ◌/◌, ◌%◌, arith, refl, map, lit≤, lit<}
use Rattle.std.specs.Prelude.{ℤ, pos, negsuc, codes, Option, Some, None}
use Rattle.std.specs.List.{list_all, range_with_len}
use Rattle.rail_model.specs.declared.items.Block.{Block}
use Rattle.rail_model.specs.declared.items.Signal.{Signal}
use Rattle.rail_model.specs.declared.items.Run.{Run}
use Rattle.rail_model.specs.declared.items.Section.{Section}
use Rattle.rail_model.specs.declared.items.Connection.{Connection}
use Rattle.rail_model.specs.declared.tables.Tables.{Tables}
use Rattle.rail_model.specs.declared.stair.Use.{Use}
use Rattle.plan_model.specs.declared.limits.TheConstants.{MEMBERS}
use Rattle.plan_model.specs.declared.cut.CutRow.{CutRow}
use Rattle.plan_model.specs.declared.cut.Cut.{Cut}
use Rattle.plan_model.specs.declared.answer.Tie.{Tie}
use Rattle.plan_model.specs.declared.answer.Tie.TheVariants.{Start, After}
use Rattle.plan_model.specs.declared.answer.Placed.{Placed}
use Rattle.plan_model.specs.declared.answer.Link.{Link}
use Rattle.plan_model.specs.declared.answer.Answer.{Answer}
use Rattle.plan_model.specs.declared.answer.Answer.TheVariants as answer
use Rattle.plan_model.specs.Members.{member, member_count, members, precedes, headway}
use Rattle.plan_model.specs.Cut.{cut_of, IsSoundCut}
use Rattle.plan_model.specs.Disorder.{opposite, remaining}
use Rattle.plan_model.specs.Answer.{rate, consumption, is_within, hundredths_up, plan_of, IsAnswer}
use Rattle.plan_model.proofs.SoundTest.{sound}
use Rattle.plan_model.proofs.ScheduleTest.{is_schedule, is_tied, least}

-- ---- items

-- a block of 1000 m
abbrev pub block : List ℕ → Block
block name = record { name = name; length_m = 1000 }

-- a signal before a block, with this approach
abbrev pub signal : List ℕ → List ℕ → ℕ → Signal
signal name beyond approach = record {
  name = name;
  block = beyond;
  approach_m = approach;
  watch_s = 10;
  form_s = 5;
  overlap_m = 0;
  release_s = 5;
}

-- a train of 100 m that starts at a moment, and runs over its blocks in these times without a stop
abbrev pub train : List ℕ → List ℕ → ℕ → List ℕ → Run
train name route start running = record {
  name = name;
  route = route;
  length_m = 100;
  tail_s = 10;
  start_s = start;
  legs = map (λ r. record { running_s = r; dwell_s = 0 }) running;
}

-- the section of an hour over these blocks
abbrev pub section : List (List ℕ) → Section
section blocks = record { name = codes "S"; from_s = 0; to_s = 3600; add_percent = 33; blocks = blocks }

abbrev pub kept : ℕ → ℕ → ℕ → Use
kept place from to = record { block = place; start = pos from; «end» = pos to }

abbrev pub row : List ℕ → ℤ → List Use → CutRow
row name entry uses = record { name = name; stamp = 0; entry = entry; uses = uses }

-- a compressed timetable over these places, with its trains, its occupancy time, its busiest block and its critical
-- train
abbrev pub plan : List (List ℕ) → List Placed → ℕ → Option ℕ → Option ℕ → Answer
plan places trains time busiest critical = answer.Ordered (record {
  from_s = 0;
  to_s = 3600;
  add_percent = 33;
  blocks = places;
  placed = trains;
  occupancy = time;
  busiest = busiest;
  critical = critical;
})

-- a train of it, with its planned entry and its entry
abbrev pub placed : List ℕ → ℕ → ℕ → Tie → Placed
placed name planned entry tie = record { train = name; planned = pos planned; entry = pos entry; tie = tie }

-- the least schedule gives the answer of a cut without disorder
pub compressed : (cut : Cut) (entries : List ℤ) → member_count cut ≤ MEMBERS → opposite cut ≡ None → remaining cut ≡ []
    → is_schedule cut entries ≡ true → list_all (is_tied cut entries) (members cut) ≡ true
    → IsAnswer cut (answer.Ordered (plan_of cut entries))
compressed cut entries few none left schedule tied =
    (few, none, left, (entries, least cut entries left schedule tied, refl))

-- ---- a line of two blocks, with a train at 100 and a train at 400

abbrev pub line : List Run → List Connection → Tables
line runs connections = record {
  blocks = block (codes "A") ∷ block (codes "B") ∷ [];
  signals = signal (codes "SA") (codes "A") 1000 ∷ signal (codes "SB") (codes "B") 1000 ∷ [];
  routes = record { name = codes "R"; signals = codes "SA" ∷ codes "SB" ∷ [] } ∷ [];
  runs = runs;
  sections = section (codes "A" ∷ codes "B" ∷ []) ∷ [];
  connections = connections;
}

abbrev pub t1 : Run
t1 = train (codes "T1") (codes "R") 100 (60 ∷ 60 ∷ [])

abbrev pub t2 : Run
t2 = train (codes "T2") (codes "R") 400 (60 ∷ 60 ∷ [])

abbrev pub two_trains : Cut
two_trains = record {
  section = section (codes "A" ∷ codes "B" ∷ []);
  connections = [];
  rows =
      row (codes "T1") (pos 85) (kept 0 85 171 ∷ kept 1 85 235 ∷ [])
      ∷ row (codes "T2") (pos 385) (kept 0 385 471 ∷ kept 1 385 535 ∷ [])
      ∷ [];
}

two_trains_cut : cut_of (line (t1 ∷ t2 ∷ []) []) (codes "S") ≡ Some two_trains
two_trains_cut = refl

no_such_section : cut_of (line (t1 ∷ t2 ∷ []) []) (codes "X") ≡ None
no_such_section = refl

two_trains_sound : IsSoundCut two_trains
two_trains_sound = sound two_trains refl

first_precedes : precedes (member two_trains 0) (member two_trains 1) 0 ≡ true
first_precedes = refl

second_follows : precedes (member two_trains 1) (member two_trains 0) 0 ≡ false
second_follows = refl

-- compressed, the second enters 150 s after the first
abbrev pub pressed : List ℤ
pressed = pos 0 ∷ pos 150 ∷ []

pub two_trains_answer : IsAnswer two_trains (plan (codes "A" ∷ codes "B" ∷ []) (placed (codes "T1") 85 0 Start
    ∷ placed (codes "T2") 385 150 (After 0 1) ∷ []) 300 (Some 1) (Some 1))
two_trains_answer = compressed two_trains pressed (lit≤ tt) refl refl refl refl

one_second_less : is_schedule two_trains (pos 0 ∷ pos 149 ∷ []) ≡ false
one_second_less = refl

before_the_window : is_schedule two_trains (negsuc 0 ∷ pos 150 ∷ []) ≡ false
before_the_window = refl

two_trains_rate : rate 300 3600 ≡ record { num = 1; den = 12 }
two_trains_rate = refl

two_trains_consumption : consumption 300 33 3600 ≡ record { num = 133; den = 1200 }
two_trains_consumption = refl

two_trains_headway : headway (member two_trains 0) (member two_trains 1) ≡ Some (pos 150)
two_trains_headway = refl

headway_back : headway (member two_trains 1) (member two_trains 0) ≡ Some (pos 150)
headway_back = refl

twelfth : hundredths_up (record { num = 1; den = 12 }) ≡ 834
twelfth = refl

-- of a window of 300 s, 300 s are all, and of one of 299 s they are too much
just_within : is_within (consumption 300 0 300) ≡ true
just_within = refl

all_of_it : hundredths_up (consumption 300 0 300) ≡ 10000
all_of_it = refl

just_over : is_within (consumption 300 0 299) ≡ false
just_over = refl

over_it : hundredths_up (consumption 300 0 299) ≡ 10034
over_it = refl

nothing_occupied : rate 0 3600 ≡ record { num = 0; den = 1 }
nothing_occupied = refl

-- ---- a train that enters before the window is no member

abbrev second_alone : Cut
second_alone = record {
  section = section (codes "A" ∷ codes "B" ∷ []);
  connections = [];
  rows = row (codes "T2") (pos 385) (kept 0 385 471 ∷ kept 1 385 535 ∷ []) ∷ [];
}

early_train : cut_of (line (train (codes "T1") (codes "R") 0 (60 ∷ 60 ∷ []) ∷ t2 ∷ []) []) (codes "S")
    ≡ Some second_alone
early_train = refl

second_alone_sound : IsSoundCut second_alone
second_alone_sound = sound second_alone refl

second_alone_answer : IsAnswer second_alone (plan (codes "A" ∷ codes "B" ∷ []) (placed (codes "T2") 385 0 Start
    ∷ []) 150 (Some 1) (Some 0))
second_alone_answer = compressed second_alone (pos 0 ∷ []) (lit≤ tt) refl refl refl refl

second_alone_rate : rate 150 3600 ≡ record { num = 1; den = 24 }
second_alone_rate = refl

second_alone_consumption : consumption 150 33 3600 ≡ record { num = 133; den = 2400 }
second_alone_consumption = refl

-- ---- a section without members

abbrev no_trains : Cut
no_trains = record { section = section (codes "A" ∷ codes "B" ∷ []); connections = []; rows = [] }

no_trains_cut : cut_of (line [] []) (codes "S") ≡ Some no_trains
no_trains_cut = refl

no_trains_sound : IsSoundCut no_trains
no_trains_sound = sound no_trains refl

no_trains_answer : IsAnswer no_trains (plan (codes "A" ∷ codes "B" ∷ []) ([]) 0 (None) (None))
no_trains_answer = compressed no_trains [] (lit≤ tt) refl refl refl refl

-- ---- four trains, one second apart

abbrev nth : List ℕ → ℕ → Run
nth name start = train name (codes "R") start (60 ∷ 60 ∷ [])

abbrev nth_row : List ℕ → ℕ → CutRow
nth_row name s = row name (pos s) (kept 0 s (s + 86) ∷ kept 1 s (s + 150) ∷ [])

abbrev four_trains : Cut
four_trains = record {
  section = section (codes "A" ∷ codes "B" ∷ []);
  connections = [];
  rows =
      nth_row (codes "t0001") 85 ∷ nth_row (codes "t0002") 86 ∷ nth_row (codes "t0003") 87
      ∷ nth_row (codes "t0004") 88 ∷ [];
}

four_trains_cut : cut_of (line (nth (codes "t0001") 100 ∷ nth (codes "t0002") 101 ∷ nth (codes "t0003") 102
    ∷ nth (codes "t0004") 103 ∷ []) []) (codes "S") ≡ Some four_trains
four_trains_cut = refl

four_trains_sound : IsSoundCut four_trains
four_trains_sound = sound four_trains refl

abbrev four_pressed : List ℤ
four_pressed = pos 0 ∷ pos 150 ∷ pos 300 ∷ pos 450 ∷ []

four_trains_answer : IsAnswer four_trains (plan (codes "A" ∷ codes "B" ∷ []) (placed (codes "t0001") 85 0 Start
    ∷ placed (codes "t0002") 86 150 (After 0 1) ∷ placed (codes "t0003") 87 300 (After 1 1)
    ∷ placed (codes "t0004") 88 450 (After 2 1) ∷ []) 600 (Some 1) (Some 3))
four_trains_answer = compressed four_trains four_pressed (lit≤ tt) refl refl refl refl

four_trains_rate : rate 600 3600 ≡ record { num = 1; den = 6 }
four_trains_rate = refl

-- ---- a connection from the first train to the second, with a minimum of 60 s

abbrev connect : List ℕ → List ℕ → ℕ → Connection
connect first second minimum = record { name = codes "C"; first = first; second = second; minimum_s = minimum }

abbrev connected : Cut
connected = record {
  section = section (codes "A" ∷ codes "B" ∷ []);
  connections = codes "C" ∷ [];
  rows =
      row (codes "T1") (pos 85) (kept 0 85 171 ∷ kept 1 85 235 ∷ kept 2 85 280 ∷ [])
      ∷ row (codes "T2") (pos 385) (kept 0 385 471 ∷ kept 1 385 535 ∷ kept 2 400 401 ∷ [])
      ∷ [];
}

connected_cut : cut_of (line (t1 ∷ t2 ∷ []) (connect (codes "T1") (codes "T2") 60 ∷ [])) (codes "S") ≡ Some connected
connected_cut = refl

connected_sound : IsSoundCut connected
connected_sound = sound connected refl

abbrev connected_pressed : List ℤ
connected_pressed = pos 0 ∷ pos 180 ∷ []

connected_answer : IsAnswer connected (plan (codes "A" ∷ codes "B" ∷ codes "C" ∷ [])
    (placed (codes "T1") 85 0 Start ∷ placed (codes "T2") 385 180 (After 0 2) ∷ []) 330 (Some 1) (Some 1))
connected_answer = compressed connected connected_pressed (lit≤ tt) refl refl refl refl

connection_missed : is_schedule connected (pos 0 ∷ pos 179 ∷ []) ≡ false
connection_missed = refl

connected_rate : rate 330 3600 ≡ record { num = 11; den = 120 }
connected_rate = refl

connected_consumption : consumption 330 33 3600 ≡ record { num = 1463; den = 12000 }
connected_consumption = refl

connected_headway : headway (member connected 0) (member connected 1) ≡ Some (pos 180)
connected_headway = refl

-- one whose second run starts before its first run enters binds nothing
unbound : cut_of (line (t1 ∷ t2 ∷ []) (connect (codes "T2") (codes "T1") 0 ∷ [])) (codes "S") ≡ Some two_trains
unbound = refl

-- ---- two trains of one track, against each other

-- the line without approaches, with a second route
abbrev plain_line : List (List ℕ) → List Run → List Connection → Tables
plain_line signals runs connections = record {
  blocks = block (codes "A") ∷ block (codes "B") ∷ [];
  signals = signal (codes "SA") (codes "A") 0 ∷ signal (codes "SB") (codes "B") 0 ∷ [];
  routes =
      record { name = codes "Q"; signals = signals } ∷ record {
        name = codes "R";
        signals = codes "SA"
            ∷ codes "SB" ∷ [];
      } ∷ [];
  runs = runs;
  sections = section (codes "A" ∷ codes "B" ∷ []) ∷ [];
  connections = connections;
}

abbrev against : Cut
against = record {
  section = section (codes "A" ∷ codes "B" ∷ []);
  connections = [];
  rows =
      row (codes "T1") (pos 85) (kept 0 85 171 ∷ kept 1 145 235 ∷ [])
      ∷ row (codes "T2") (pos 85) (kept 1 85 171 ∷ kept 0 145 235 ∷ [])
      ∷ [];
}

against_cut : cut_of (plain_line (codes "SB" ∷ codes "SA" ∷ []) (t1 ∷ train (codes "T2") (codes "Q") 100 (60 ∷ 60
    ∷ []) ∷ []) []) (codes "S") ≡ Some against
against_cut = refl

against_sound : IsSoundCut against
against_sound = sound against refl

against_answer : IsAnswer against (answer.Opposite (codes "T1") (codes "T2") (codes "A") (codes "B"))
against_answer = (lit≤ tt, refl)

-- ---- a long running time on the first block, and a train that joins at the second

abbrev joining : Cut
joining = record {
  section = section (codes "A" ∷ codes "B" ∷ []);
  connections = [];
  rows =
      row (codes "T1") (pos 85) (kept 0 85 311 ∷ kept 1 285 375 ∷ []) ∷ row (codes "T2") (pos 135) (kept 1 135 225
      ∷ []) ∷ [];
}

abbrev joining_runs : List Run
joining_runs = train (codes "T1") (codes "R") 100 (200 ∷ 60 ∷ []) ∷ train (codes "T2") (codes "Q") 150 (60 ∷ []) ∷ []

joining_cut : cut_of (plain_line (codes "SB" ∷ []) joining_runs []) (codes "S") ≡ Some joining
joining_cut = refl

joining_sound : IsSoundCut joining
joining_sound = sound joining refl

joining_precedes : precedes (member joining 1) (member joining 0) 1 ≡ true
joining_precedes = refl

joining_answer : IsAnswer joining (plan (codes "A" ∷ codes "B" ∷ []) (placed (codes "T1") 85 0 Start
    ∷ placed (codes "T2") 135 0 Start ∷ []) 290 (Some 1) (Some 0))
joining_answer = compressed joining (pos 0 ∷ pos 0 ∷ []) (lit≤ tt) refl refl refl refl

joining_rate : rate 290 3600 ≡ record { num = 29; den = 360 }
joining_rate = refl

joining_consumption : consumption 290 33 3600 ≡ record { num = 3857; den = 36000 }
joining_consumption = refl

joining_headway : headway (member joining 0) (member joining 1) ≡ Some (pos 290)
joining_headway = refl

joining_back : headway (member joining 1) (member joining 0) ≡ Some (negsuc 109)
joining_back = refl

-- a connection against the order on the second block
abbrev crossed : Cut
crossed = record {
  section = section (codes "A" ∷ codes "B" ∷ []);
  connections = codes "C" ∷ [];
  rows =
      row (codes "T1") (pos 85) (kept 0 85 311 ∷ kept 1 285 375 ∷ kept 2 85 360 ∷ [])
      ∷ row (codes "T2") (pos 135) (kept 1 135 225 ∷ kept 2 150 151 ∷ [])
      ∷ [];
}

crossed_cut : cut_of (plain_line (codes "SB" ∷ []) joining_runs (connect (codes "T1") (codes "T2") 0
    ∷ [])) (codes "S") ≡ Some crossed
crossed_cut = refl

no_shared_place : headway (member joining 1) (row (codes "T3") (pos 85) (kept 0 85 171 ∷ [])) ≡ None
no_shared_place = refl

crossed_sound : IsSoundCut crossed
crossed_sound = sound crossed refl

crossed_answer : IsAnswer crossed (answer.Opposite (codes "T1") (codes "T2") (codes "C") (codes "B"))
crossed_answer = (lit≤ tt, refl)

-- ---- three trains in a ring over three blocks

abbrev around : List ℕ → List ℕ → Run
around name route = train name route 100 (60 ∷ 60 ∷ [])

abbrev three_blocks : Tables
three_blocks = record {
  blocks = block (codes "K1") ∷ block (codes "K2") ∷ block (codes "K3") ∷ [];
  signals =
      signal (codes "G1") (codes "K1") 0 ∷ signal (codes "G2") (codes "K2") 0 ∷ signal (codes "G3") (codes "K3") 0
      ∷ [];
  routes =
      record { name = codes "R1"; signals = codes "G1" ∷ codes "G2" ∷ [] }
      ∷ record { name = codes "R2"; signals = codes "G2" ∷ codes "G3" ∷ [] }
      ∷ record { name = codes "R3"; signals = codes "G3" ∷ codes "G1" ∷ [] }
      ∷ [];
  runs = around (codes "T1") (codes "R1") ∷ around (codes "T2") (codes "R2") ∷ around (codes "T3") (codes "R3") ∷ [];
  sections = section (codes "K1" ∷ codes "K2" ∷ codes "K3" ∷ []) ∷ [];
  connections = [];
}

abbrev pub circling : Cut
circling = record {
  section = section (codes "K1" ∷ codes "K2" ∷ codes "K3" ∷ []);
  connections = [];
  rows =
      row (codes "T1") (pos 85) (kept 0 85 171 ∷ kept 1 145 235 ∷ [])
      ∷ row (codes "T2") (pos 85) (kept 1 85 171 ∷ kept 2 145 235 ∷ [])
      ∷ row (codes "T3") (pos 85) (kept 2 85 171 ∷ kept 0 145 235 ∷ [])
      ∷ [];
}

circling_cut : cut_of three_blocks (codes "S") ≡ Some circling
circling_cut = refl

circling_sound : IsSoundCut circling
circling_sound = sound circling refl

circling_remaining : remaining circling ≡ 0 ∷ 1 ∷ 2 ∷ []
circling_remaining = refl

abbrev link : List ℕ → List ℕ → List ℕ → Link
link train block next = record { train = train; block = block; next = next }

circling_answer : IsAnswer circling (answer.Ring (link (codes "T1") (codes "K1") (codes "T3")
    ∷ link (codes "T3") (codes "K3") (codes "T2") ∷ link (codes "T2") (codes "K2") (codes "T1") ∷ []))
circling_answer = (lit≤ tt, refl, λ e. cc, refl)

-- ---- more members than are compressed

-- so many trains on one block, one second apart
abbrev crowd_of : ℕ → Cut
crowd_of n = record {
  section = section (codes "A" ∷ codes "B" ∷ []);
  connections = [];
  rows = map (λ i. row ((48 + i / 100) ∷ (48 + i / 10 % 10) ∷ (48 + i % 10) ∷ []) (pos i) (kept 0 i (i + 86) ∷ []))
      (range_with_len 0 n);
}

crowd_answer : IsAnswer (crowd_of 769) (answer.Crowded 769)
crowd_answer = (lit< tt, refl)

-- 768 members are not too many
full_section : (count : ℕ) → IsAnswer (crowd_of 768) (answer.Crowded count) → ⊥
full_section count h = omega (arith, h.0)

-- The rows, evaluated on small lines whose answers were worked out by hand.
use Rattle.std.proofs.Common.{◌≡◌, ℕ, ◌+◌, ◌/◌, ◌%◌, ◌==◌, if◌then◌else◌, List, [], ◌∷◌, ◌++◌, refl, map}
use Rattle.std.specs.Prelude.{ℤ, pos, codes, Some, None}
use Rattle.std.specs.List.{range_with_len}
use Rattle.std.specs.Fmt.{digits}
use Rattle.rail_model.specs.declared.items.Section.{Section}
use Rattle.rail_model.specs.declared.stair.Use.{Use}
use Rattle.plan_model.specs.declared.cut.CutRow.{CutRow}
use Rattle.plan_model.specs.declared.cut.Cut.{Cut}
use Rattle.plan_model.specs.declared.answer.Plan.{Plan}
use Rattle.plan_model.specs.declared.answer.Answer.{Answer}
use Rattle.plan_model.specs.declared.answer.Answer.TheVariants as answer
use Rattle.plan_model.specs.Answer.{plan_of}
use Rattle.plan_model.specs.Disorder.{Opposite, opposite, ring}
use Rattle.row_text.specs.SheetRows.{Row}
use Rattle.capacity_report.specs.declared.answers.Detail.{Detail}
use Rattle.capacity_report.specs.declared.answers.Detail.TheVariants as detail
use Rattle.capacity_report.specs.Answers.{answer_rows, rate_row, report_rows, total_of, total_row}
use Rattle.capacity_report.specs.Rows.{headways_or_count}

-- ---- rows, sections and trains

-- the fields between the commas of a line, which has no quotes; the first begins with what was read of it
abbrev fields_from : List ℕ → List ℕ → Row
fields_from read [] = read ∷ []
fields_from read (c ∷ line) = if c == 44 then read ∷ fields_from [] line else fields_from (read ++ c ∷ []) line

abbrev lines : List (List ℕ) → List Row
lines some = map (fields_from []) some

three_fields : lines (codes "a,,b" ∷ codes "c," ∷ [])
    ≡ (codes "a" ∷ codes "" ∷ codes "b" ∷ []) ∷ (codes "c" ∷ codes "" ∷ []) ∷ []
three_fields = refl

-- a section over these blocks, with 33 per cent of the time that its trains take to add
abbrev section : List ℕ → ℕ → ℕ → List (List ℕ) → Section
section name from to blocks = record { name = name; from_s = from; to_s = to; add_percent = 33; blocks = blocks }

abbrev hour : List (List ℕ) → Section
hour blocks = section (codes "S") 0 3600 blocks

abbrev two_blocks : Section
two_blocks = hour (codes "A" ∷ codes "B" ∷ [])

abbrev kept : ℕ → ℕ → ℕ → Use
kept place from to = record { block = place; start = pos from; «end» = pos to }

abbrev train : List ℕ → ℕ → List Use → CutRow
train name entry uses = record { name = name; stamp = 0; entry = pos entry; uses = uses }

abbrev cut : Section → List (List ℕ) → List CutRow → Cut
cut s connections trains = record { section = s; connections = connections; rows = trains }

-- the rows of the timetable of a cut by some entries
abbrev ordered : Cut → List ℤ → Answer
ordered c entries = answer.Ordered (plan_of c entries)

abbrev rows : Cut → List ℤ → Detail → List Row
rows c entries how = answer_rows c.section.name (ordered c entries) how

-- ---- two trains that follow each other over two blocks, 300 s apart

-- a train that enters the first of two blocks at a moment
abbrev follower : List ℕ → ℕ → CutRow
follower name s = train name s (kept 0 s (s + 86) ∷ kept 1 s (s + 150) ∷ [])

abbrev two_trains : Cut
two_trains = cut two_blocks [] (follower (codes "T1") 85 ∷ follower (codes "T2") 385 ∷ [])

two_trains_head : rows two_trains (pos 0 ∷ pos 150 ∷ []) detail.Head ≡ lines (
    codes "ordered,S,2,300,B"
    ∷ codes "rate,S,1/12,8.34,133/1200,11.09,within" ∷ [])
unfolding digits
two_trains_head = refl

two_trains_with_trains : rows two_trains (pos 0 ∷ pos 150 ∷ []) detail.Trains ≡ lines (
    codes "ordered,S,2,300,B"
    ∷ codes "rate,S,1/12,8.34,133/1200,11.09,within"
    ∷ codes "train,T1,85,0,-85,start"
    ∷ codes "train,T2,385,150,-235,after,T1,B" ∷ [])
unfolding digits
two_trains_with_trains = refl

two_trains_in_full : rows two_trains (pos 0 ∷ pos 150 ∷ []) detail.Full ≡ lines (
    codes "ordered,S,2,300,B"
    ∷ codes "rate,S,1/12,8.34,133/1200,11.09,within"
    ∷ codes "train,T1,85,0,-85,start"
    ∷ codes "train,T2,385,150,-235,after,T1,B"
    ∷ codes "critical,T2,1"
    ∷ codes "link,T1,B,T2" ∷ [])
unfolding digits
two_trains_in_full = refl

-- both enter at one moment as planned: the second is moved back
abbrev at_once : Cut
at_once = cut two_blocks [] (follower (codes "T1") 85 ∷ follower (codes "T2") 85 ∷ [])

at_once_with_trains : rows at_once (pos 0 ∷ pos 150 ∷ []) detail.Trains ≡ lines (
    codes "ordered,S,2,300,B"
    ∷ codes "rate,S,1/12,8.34,133/1200,11.09,within"
    ∷ codes "train,T1,85,0,-85,start"
    ∷ codes "train,T2,85,150,65,after,T1,B" ∷ [])
unfolding digits
at_once_with_trains = refl

two_trains_headways : headways_or_count two_trains ≡ lines (
    codes "headway,T1,T2,150" ∷ codes "headway,T2,T1,150" ∷ [])
unfolding digits
two_trains_headways = refl

-- ---- no train, and one

abbrev no_trains : Cut
no_trains = cut (section (codes "S") 5000 6000 (codes "A" ∷ codes "B" ∷ [])) [] []

no_trains_in_full : rows no_trains [] detail.Full ≡ lines (
    codes "ordered,S,0,0," ∷ codes "rate,S,0/1,0.00,0/1,0.00,within" ∷ [])
unfolding digits
no_trains_in_full = refl

no_headways : headways_or_count no_trains ≡ []
no_headways = refl

abbrev one_train : Cut
one_train = cut two_blocks [] (follower (codes "T1") 85 ∷ [])

one_train_in_full : rows one_train (pos 0 ∷ []) detail.Full ≡ lines (
    codes "ordered,S,1,150,B"
    ∷ codes "rate,S,1/24,4.17,133/2400,5.55,within"
    ∷ codes "train,T1,85,0,-85,start"
    ∷ codes "critical,T1,0" ∷ [])
unfolding digits
one_train_in_full = refl

-- in a window that starts later, at that start; of two blocks kept equally long, the first by name is named
abbrev later : Cut
later = cut (section (codes "L") 50 3650 (codes "B" ∷ codes "A" ∷ [])) []
    (train (codes "T1") 85 (kept 0 85 171 ∷ kept 1 145 231 ∷ []) ∷ [])

later_in_full : rows later (pos 50 ∷ []) detail.Full ≡ lines (
    codes "ordered,L,1,86,A"
    ∷ codes "rate,L,43/1800,2.39,5719/180000,3.18,within"
    ∷ codes "train,T1,85,50,-35,start"
    ∷ codes "critical,T1,0" ∷ [])
unfolding digits
later_in_full = refl

-- ---- a chain of three links

abbrev four_trains : Cut
four_trains = cut two_blocks [] (follower (codes "t0001") 85 ∷ follower (codes "t0002") 86
    ∷ follower (codes "t0003") 87 ∷ follower (codes "t0004") 88 ∷ [])

four_trains_in_full : rows four_trains (pos 0 ∷ pos 150 ∷ pos 300 ∷ pos 450 ∷ []) detail.Full ≡ lines (
    codes "ordered,S,4,600,B"
    ∷ codes "rate,S,1/6,16.67,133/600,22.17,within"
    ∷ codes "train,t0001,85,0,-85,start"
    ∷ codes "train,t0002,86,150,64,after,t0001,B"
    ∷ codes "train,t0003,87,300,213,after,t0002,B"
    ∷ codes "train,t0004,88,450,362,after,t0003,B"
    ∷ codes "critical,t0004,3"
    ∷ codes "link,t0001,B,t0002"
    ∷ codes "link,t0002,B,t0003"
    ∷ codes "link,t0003,B,t0004" ∷ [])
unfolding digits
four_trains_in_full = refl

-- ---- a connection, which the second train's tie names

abbrev connected : Cut
connected = cut two_blocks (codes "C" ∷ []) (
    train (codes "T1") 85 (kept 0 85 171 ∷ kept 1 85 235 ∷ kept 2 85 280 ∷ [])
    ∷ train (codes "T2") 385 (kept 0 385 471 ∷ kept 1 385 535 ∷ kept 2 400 401 ∷ []) ∷ [])

connected_in_full : rows connected (pos 0 ∷ pos 180 ∷ []) detail.Full ≡ lines (
    codes "ordered,S,2,330,B"
    ∷ codes "rate,S,11/120,9.17,1463/12000,12.20,within"
    ∷ codes "train,T1,85,0,-85,start"
    ∷ codes "train,T2,385,180,-205,after,T1,C"
    ∷ codes "critical,T2,1"
    ∷ codes "link,T1,C,T2" ∷ [])
unfolding digits
connected_in_full = refl

connected_headways : headways_or_count connected ≡ lines (
    codes "headway,T1,T2,180" ∷ codes "headway,T2,T1,150" ∷ [])
unfolding digits
connected_headways = refl

-- ---- a train that joins at the second block, and one that shares no block with it

abbrev joining : Cut
joining = cut two_blocks [] (
    train (codes "T1") 85 (kept 0 85 311 ∷ kept 1 285 375 ∷ [])
    ∷ train (codes "T2") 135 (kept 1 135 225 ∷ []) ∷ [])

joining_in_full : rows joining (pos 0 ∷ pos 0 ∷ []) detail.Full ≡ lines (
    codes "ordered,S,2,290,B"
    ∷ codes "rate,S,29/360,8.06,3857/36000,10.72,within"
    ∷ codes "train,T1,85,0,-85,start"
    ∷ codes "train,T2,135,0,-135,start"
    ∷ codes "critical,T1,0" ∷ [])
unfolding digits
joining_in_full = refl

joining_headways : headways_or_count joining ≡ lines (
    codes "headway,T1,T2,290" ∷ codes "headway,T2,T1,-110" ∷ [])
unfolding digits
joining_headways = refl

abbrev apart : Cut
apart = cut two_blocks [] (
    train (codes "T1") 85 (kept 0 85 311 ∷ kept 1 285 375 ∷ [])
    ∷ train (codes "T2") 135 (kept 1 135 225 ∷ [])
    ∷ train (codes "T3") 400 (kept 0 400 486 ∷ []) ∷ [])

apart_headways : headways_or_count apart ≡ lines (
    codes "headway,T1,T2,290" ∷ codes "headway,T1,T3,226" ∷ codes "headway,T2,T1,-110"
    ∷ codes "headway,T3,T1,86" ∷ [])
unfolding digits
apart_headways = refl

-- ---- disorder

-- the answer that the opposite trains of a cut make
abbrev told : Opposite → Answer
told o = answer.Opposite o.first o.second o.block1 o.block2

abbrev against : Cut
against = cut two_blocks [] (
    train (codes "T1") 85 (kept 0 85 171 ∷ kept 1 145 235 ∷ [])
    ∷ train (codes "T2") 85 (kept 1 85 171 ∷ kept 0 145 235 ∷ []) ∷ [])

abbrev opposed : Opposite
opposed = record { first = codes "T1"; second = codes "T2"; block1 = codes "A"; block2 = codes "B" }

against_opposite : opposite against ≡ Some opposed
against_opposite = refl

against_in_full : answer_rows (codes "S") (told opposed) detail.Full ≡ lines (codes "opposite,S,T1,T2,A,B" ∷ [])
against_in_full = refl

abbrev crossed : Cut
crossed = cut two_blocks (codes "C" ∷ []) (
    train (codes "T1") 85 (kept 0 85 311 ∷ kept 1 285 375 ∷ kept 2 85 360 ∷ [])
    ∷ train (codes "T2") 135 (kept 1 135 225 ∷ kept 2 150 151 ∷ []) ∷ [])

abbrev crossed_opposed : Opposite
crossed_opposed = record { first = codes "T1"; second = codes "T2"; block1 = codes "C"; block2 = codes "B" }

crossed_opposite : opposite crossed ≡ Some crossed_opposed
crossed_opposite = refl

crossed_head : answer_rows (codes "S") (told crossed_opposed) detail.Head ≡ lines (codes "opposite,S,T1,T2,C,B" ∷ [])
crossed_head = refl

-- of a section in disorder the headways are written all the same
against_headways : headways_or_count against ≡ lines (
    codes "headway,T1,T2,150" ∷ codes "headway,T2,T1,150" ∷ [])
unfolding digits
against_headways = refl

abbrev circling : Cut
circling = cut (hour (codes "K1" ∷ codes "K2" ∷ codes "K3" ∷ [])) [] (
    train (codes "T1") 85 (kept 0 85 171 ∷ kept 1 145 235 ∷ [])
    ∷ train (codes "T2") 85 (kept 1 85 171 ∷ kept 2 145 235 ∷ [])
    ∷ train (codes "T3") 85 (kept 2 85 171 ∷ kept 0 145 235 ∷ []) ∷ [])

abbrev circle : Answer
circle = answer.Ring (ring circling)

abbrev circle_lines : List Row
circle_lines = lines (
    codes "ring,S,3" ∷ codes "link,T1,K1,T3" ∷ codes "link,T3,K3,T2" ∷ codes "link,T2,K2,T1" ∷ [])

circling_in_full : answer_rows (codes "S") circle detail.Full ≡ circle_lines
unfolding digits
circling_in_full = refl

circling_head : answer_rows (codes "S") circle detail.Head ≡ circle_lines
unfolding digits
circling_head = refl

-- ---- more members than are compressed

crowded_in_full : answer_rows (codes "S") (answer.Crowded 769) detail.Full ≡ lines (codes "crowded,S,769" ∷ [])
unfolding digits
crowded_in_full = refl

-- so many trains on one block, one second apart
abbrev crowd_of : ℕ → Cut
crowd_of n = cut two_blocks [] (map (λ i. train ((48 + i / 100) ∷ (48 + i / 10 % 10) ∷ (48 + i % 10) ∷ []) i
    (kept 0 i (i + 86) ∷ [])) (range_with_len 0 n))

crowd_headways : headways_or_count (crowd_of 769) ≡ lines (codes "crowded,S,769" ∷ [])
unfolding digits
crowd_headways = refl

-- ---- rates

-- a timetable that keeps its section so long of a window, with so much time to add
abbrev keeps : ℕ → ℕ → ℕ → Plan
keeps time window add = record {
  from_s = 0;
  to_s = window;
  add_percent = add;
  blocks = codes "A" ∷ codes "B" ∷ [];
  placed = [];
  occupancy = time;
  busiest = None;
  critical = None;
}

-- the row of its rates
abbrev rates : ℕ → ℕ → ℕ → List Row
rates time window add = rate_row (codes "S") (keeps time window add) ∷ []

just_all : rates 300 300 0 ≡ lines (codes "rate,S,1/1,100.00,1/1,100.00,within" ∷ [])
unfolding digits
just_all = refl

just_over : rates 300 299 0 ≡ lines (codes "rate,S,300/299,100.34,300/299,100.34,over" ∷ [])
unfolding digits
just_over = refl

-- the verdict is on the consumption and not on the rate, and not on what is written of it: by less than a
-- hundredth of a per cent, too, the section is over its capacity
within_by_rate_alone : rates 300 300 1 ≡ lines (codes "rate,S,1/1,100.00,101/100,101.00,over" ∷ [])
unfolding digits
within_by_rate_alone = refl

over_by_little : rates 604801 604800 0
    ≡ lines (codes "rate,S,604801/604800,100.01,604801/604800,100.01,over" ∷ [])
unfolding digits
over_by_little = refl

written_as_all : rates 604799 604800 0
    ≡ lines (codes "rate,S,604799/604800,100.00,604799/604800,100.00,within" ∷ [])
unfolding digits
written_as_all = refl

one_hundredth : rates 1 604800 0 ≡ lines (codes "rate,S,1/604800,0.01,1/604800,0.01,within" ∷ [])
unfolding digits
one_hundredth = refl

many_trains : rates 76800 3600 33 ≡ lines (codes "rate,S,64/3,2133.34,2128/75,2837.34,over" ∷ [])
unfolding digits
many_trains = refl

one_train_more : rates 76950 3600 33 ≡ lines (codes "rate,S,171/8,2137.50,22743/800,2842.88,over" ∷ [])
unfolding digits
one_train_more = refl

-- ---- reports

one_section : report_rows (two_blocks ∷ []) (ordered two_trains (pos 0 ∷ pos 150 ∷ []) ∷ []) ≡ lines (
    codes "ordered,S,2,300,B"
    ∷ codes "rate,S,1/12,8.34,133/1200,11.09,within"
    ∷ codes "total,1,1,1,0,0,0" ∷ [])
unfolding digits
one_section = refl

one_ring : report_rows (circling.section ∷ []) (circle ∷ []) ≡ circle_lines ++ lines (codes "total,1,0,0,0,1,0" ∷ [])
unfolding digits
one_ring = refl

no_section : report_rows [] [] ≡ lines (codes "total,0,0,0,0,0,0" ∷ [])
unfolding digits
no_section = refl

-- a section of each kind, one of them over its capacity
all_kinds : total_row (total_of (ordered two_trains (pos 0 ∷ pos 150 ∷ []) ∷ answer.Ordered (keeps 300 299 0)
    ∷ told opposed ∷ circle ∷ answer.Crowded 769 ∷ ordered no_trains [] ∷ [])) ∷ []
    ≡ lines (codes "total,6,3,2,1,2,1" ∷ [])
unfolding digits
all_kinds = refl

-- Occupancy time, busiest block and rates of a cut, and its answer.
use Rattle.std.specs.Prelude.{ℕ, max, ◌==◌, ℤ, pos, ◌-ℤ◌, nat_abs, List, [], ◌∷◌, map, filter, find, fold, Option, option_and_then, ◌≢◌, ◌<◌, ◌≤ℤ◌, IsTrue, ◌≡◌, zero, suc, ◌+◌, ◌-◌, ◌*◌, ◌/◌, ◌%◌, Bool, nat_le, ◌≤◌, None, Some}
use Rattle.std.specs.List.{list_any}
use Rattle.std.specs.Int.{int_max, IsGcd, div_ceil}
use Rattle.std.specs.Ordering.{int_eq}
use Rattle.plan_model.specs.Types.{Cut, Placed, Plan, Answer, Disorder}
use Rattle.plan_model.specs.Members.{blocks, first_by_name, member, members, uses_place, block_count, member_count, precedes, place_names}
use Rattle.plan_model.specs.Cut.{least, IsSoundCut}
use Rattle.plan_model.specs.Schedule.{start_by, end_by, start_at, entry_at, IsLeast, tie_of}
use Rattle.rail_model.specs.declared.items.Section.{Section}
use Rattle.plan_model.specs.declared.limits.TheConstants.{MEMBERS}
use Rattle.plan_model.specs.declared.answer.Answer.TheVariants as answer
use Rattle.plan_model.specs.declared.answer.Disorder.TheVariants as disorder
use Rattle.plan_model.specs.Disorder.{opposite, remaining, ring}

-- the greatest of some numbers, and 0 of none
abbrev pub greatest : List ℤ → ℤ
greatest [] = pos 0
greatest (x ∷ xs) = fold int_max x xs

-- the members that use a place
abbrev pub users : Cut → ℕ → List ℕ
users cut place = filter (λ i. uses_place (member cut i) place) (members cut)

-- the blocks that a member uses
abbrev pub used_blocks : Cut → List ℕ
used_blocks cut = filter (λ b. list_any (λ i. uses_place (member cut i) b) (members cut)) (blocks cut)

-- the first start and the last end of the uses of a place, by a list of entries
abbrev pub first_start : Cut → List ℤ → ℕ → ℤ
first_start cut entries place = least (map (λ i. start_by cut entries i place) (users cut place))

abbrev pub last_end : Cut → List ℤ → ℕ → ℤ
last_end cut entries place = greatest (map (λ i. end_by cut entries i place) (users cut place))

-- how long a block is kept: from the first start to the last end, which comes after it
abbrev pub time_kept : Cut → List ℤ → ℕ → ℕ
time_kept cut entries block = nat_abs (last_end cut entries block -ℤ first_start cut entries block)

-- the occupancy time: how long the block that is kept longest is kept, 0 with no member
abbrev pub occupancy : Cut → List ℤ → ℕ
occupancy cut entries = fold max 0 (map (time_kept cut entries) (used_blocks cut))

-- the busiest block: the first by name that is kept so long
abbrev pub busiest : Cut → List ℤ → Option ℕ
busiest cut entries =
    first_by_name cut (filter (λ b. time_kept cut entries b == occupancy cut entries) (used_blocks cut))

-- the first by name of the members that end a block's use last
abbrev pub last_member : Cut → List ℤ → ℕ → Option ℕ
last_member cut entries block =
    find (λ i. int_eq (end_by cut entries i block) (last_end cut entries block)) (users cut block)

-- the critical train: the one that ends its use of the busiest block last
abbrev pub critical : Cut → List ℤ → Option ℕ
critical cut entries = option_and_then (last_member cut entries) (busiest cut entries)

-- member c uses each block that a member uses, and precedes every other member there
pub record PrecedesOnAllBlocks (cut : Cut) (c : ℕ) : Type 0 where
  pub is_there : c < member_count cut
  pub uses : (j block : ℕ) → j < member_count cut → block < block_count cut
      → IsTrue (uses_place (member cut j) block) → IsTrue (uses_place (member cut c) block)
  pub first : (j block : ℕ) → j < member_count cut → j ≢ c → block < block_count cut
      → IsTrue (uses_place (member cut j) block) → IsTrue (precedes (member cut c) (member cut j) block)

-- a copy of member c that enters at a moment comes after all members: on each block that both use, each member, c
-- itself too, ends its use before the copy starts, or as it starts
abbrev pub IsAfterAll : Cut → List ℤ → ℕ → ℤ → Type 0
IsAfterAll cut entries c entry =
    (j block : ℕ) → j < member_count cut → block < block_count cut → IsTrue (uses_place (member cut j) block)
    → IsTrue (uses_place (member cut c) block)
    → end_by cut entries j block ≤ℤ start_at (member cut c) entry block

-- the entry of the closing copy: the least such moment. Blocks that member c doesn't use have no part in it
pub record IsClosingEntry (cut : Cut) (entries : List ℤ) (c : ℕ) (entry : ℤ) : Type 0 where
  pub after_all : IsAfterAll cut entries c entry
  pub least : (other : ℤ) → IsAfterAll cut entries c other → entry ≤ℤ other

-- a fraction
pub record Fraction : Type 0 where
  pub num : ℕ
  pub den : ℕ

-- a fraction is a over b, reduced: no number but 1 divides both its parts; 0 is 0/1. There is one for each a and each
-- b above 0
pub record IsReduced (f : Fraction) (a b : ℕ) : Type 0 where
  pub equal : f.num * b ≡ a * f.den
  pub some : 0 < f.den
  pub lowest : IsGcd f.num f.den 1

-- the greatest common divisor, by at most n divisions
abbrev pub common_divisor : ℕ → ℕ → ℕ → ℕ
common_divisor zero a b = a
common_divisor (suc n) a zero = a
common_divisor (suc n) a (suc b) = common_divisor n (suc b) (a % suc b)

-- that fraction
abbrev pub reduced : ℕ → ℕ → Fraction
reduced a b = let g = common_divisor b a b in record { num = a / g; den = b / g }

-- the length of a section's window: seconds
abbrev pub period : Section → ℕ
period section = section.to_s - section.from_s

-- the occupancy time rate: of the occupancy time and the length of the window
abbrev pub rate : ℕ → ℕ → Fraction
rate occupancy period = reduced occupancy period

-- the capacity consumption: the same with the additional time rate, in per cent
abbrev pub consumption : ℕ → ℕ → ℕ → Fraction
consumption occupancy add_percent period = reduced (occupancy * (100 + add_percent)) (100 * period)

-- a consumption of at most 1 lies within the capacity, a greater one is over it
abbrev pub is_within : Fraction → Bool
is_within f = nat_le f.num f.den

-- a fraction in hundredths of a per cent, rounded up
abbrev pub hundredths_up : Fraction → ℕ
hundredths_up f = div_ceil (f.num * 10000) f.den

-- a member with its planned entry, its entry by a list of entries, and its tie
abbrev pub placed_at : Cut → List ℤ → ℕ → Placed
placed_at cut entries i = record {
  train = (member cut i).name;
  planned = (member cut i).entry;
  entry = entry_at entries i;
  tie = tie_of cut entries i;
}

-- the timetable of a cut by a list of entries
abbrev pub plan_of : Cut → List ℤ → Plan
plan_of cut entries = record {
  from_s = cut.section.from_s;
  to_s = cut.section.to_s;
  add_percent = cut.section.add_percent;
  blocks = place_names cut;
  placed = map (placed_at cut entries) (members cut);
  occupancy = occupancy cut entries;
  busiest = busiest cut entries;
  critical = critical cut entries;
}

-- the compressed timetable: the one of the least schedule
abbrev pub IsCompressed : Cut → Plan → Type 0
IsCompressed cut plan = (entries : List ℤ) × IsLeast cut entries × (plan ≡ plan_of cut entries)

-- a plan is the compressed timetable of a sound cut whose trains have an order, and there is such a cut
abbrev pub IsPlanOf : Cut → Plan → Type 0
IsPlanOf cut plan = IsSoundCut cut × (remaining cut ≡ []) × IsCompressed cut plan

abbrev pub IsPlan : Plan → Type 0
IsPlan plan = (cut : Cut) × IsPlanOf cut plan

-- the entries of a plan's trains
abbrev pub entries_of : Plan → List ℤ
entries_of plan = map (λ p. p.entry) plan.placed

-- the answer that tells why trains have no order
abbrev pub answer_of : Disorder → Answer
answer_of (disorder.Opposite first second block1 block2) = answer.Opposite first second block1 block2
answer_of (disorder.Ring links) = answer.Ring links

-- the answer of a cut: that it is crowded; else its opposite trains; else its ring, where members remain; else its
-- compressed timetable
abbrev pub IsAnswer : Cut → Answer → Type 0
IsAnswer cut (answer.Crowded count) = (MEMBERS < member_count cut) × (count ≡ member_count cut)
IsAnswer cut (answer.Opposite first second block1 block2) =
    (member_count cut ≤ MEMBERS)
    × (opposite cut ≡ Some (record { first = first; second = second; block1 = block1; block2 = block2 }))
IsAnswer cut (answer.Ring links) =
    (member_count cut ≤ MEMBERS) × (opposite cut ≡ None) × (remaining cut ≢ []) × (links ≡ ring cut)
IsAnswer cut (answer.Ordered plan) =
    (member_count cut ≤ MEMBERS) × (opposite cut ≡ None) × (remaining cut ≡ []) × IsCompressed cut plan

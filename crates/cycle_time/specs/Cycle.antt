-- The least cycle time of a cut: entries that repeat, the ring that refuses each lesser period, and the rows that tell both.
use Rattle.std.specs.Prelude.{ℕ, ◌<◌, ℤ, pos, ◌+ℤ◌, ◌≤ℤ◌, List, IsTrue, ◌≡◌, ◌≢◌, ◌≤◌, ◌-ℤ◌, ◌*ℤ◌, ◌<ℤ◌, true, false, [], ◌∷◌, All, AllPairs, count_by, slice_index_or, zero, suc, ⊤, Result, Ok, Err, None, Bool, if◌then◌else◌, ◌++◌, length, map, codes, decimal}
use Rattle.std.specs.Fmt.{signed_decimal}
use Rattle.row_text.specs.SheetRows.{Row}
use Rattle.plan_model.specs.declared.cut.Cut.{Cut}
use Rattle.plan_model.specs.Members.{block_count, place_name, place_count, member, member_count, uses_place, members, precedes, headway_at}
use Rattle.plan_model.specs.Schedule.{entry_at, start_by, end_by, IsSchedule}
use Rattle.plan_model.specs.declared.answer.Disorder.{Disorder}
use Rattle.plan_model.specs.Disorder.{opposite, remaining}
use Rattle.train_order.specs.Ordering.{IsOrdering}
use Rattle.cycle_time.specs.Types.{Step, Cycle}

-- a list of entries repeats in a period: it is a schedule, and each train has left each block that it uses before any
-- train of the next pattern, itself too, starts there, or as it starts. Connections bind within one pattern alone
pub record IsRepeating (cut : Cut) (period : ℕ) (entries : List ℤ) : Type 0 where
  pub schedule : IsSchedule cut entries
  pub again : (i j block : ℕ) → i < member_count cut → j < member_count cut → block < block_count cut
      → IsTrue (uses_place (member cut i) block) → IsTrue (uses_place (member cut j) block)
      → end_by cut entries i block ≤ℤ (start_by cut entries j block +ℤ pos period)

-- the least list that repeats in a period: in no other does any train enter earlier
pub record IsLeastRepeating (cut : Cut) (period : ℕ) (entries : List ℤ) : Type 0 where
  pub repeats : IsRepeating cut period entries
  pub least : (other : List ℤ) → IsRepeating cut period other → (i : ℕ) → i < member_count cut
      → entry_at entries i ≤ℤ entry_at other i

pub record AreUsers (cut : Cut) (i j block : ℕ) : Type 0 where
  pub block_there : block < block_count cut
  pub one : IsTrue (uses_place (member cut i) block)
  pub other : IsTrue (uses_place (member cut j) block)

-- a step: in one pattern the first train precedes the second on the place; or both use the block, and the second is one
-- of the next pattern
pub record IsStep (cut : Cut) (s : Step) : Type 0 where
  pub one_there : s.from < member_count cut
  pub other_there : s.to < member_count cut
  pub same : s.next ≡ false → IsTrue (precedes (member cut s.from) (member cut s.to) s.block)
  pub next : s.next ≡ true → AreUsers cut s.from s.to s.block

-- how long after the first train the second must enter, patterns apart
abbrev pub weight : Cut → Step → ℤ
weight cut s = headway_at (member cut s.from) (member cut s.to) s.block

-- the sum over some steps
abbrev pub total : Cut → List Step → ℤ
total cut [] = pos 0
total cut (s ∷ steps) = weight cut s +ℤ total cut steps

-- how many of them lead to the next pattern
abbrev pub patterns : List Step → ℕ
patterns steps = count_by (λ s. s.next) steps

-- steps lead from one train to another: each begins where the one before ends
abbrev pub Leads : Cut → ℕ → List Step → ℕ → Type 0
Leads cut i [] j = i ≡ j
Leads cut i (s ∷ steps) j = IsStep cut s × (s.from ≡ i) × Leads cut s.to steps j

-- stands where there is no step
abbrev pub no_step : Step
no_step = record { from = 0; to = 0; block = 0; next = false }

abbrev pub first_train : List Step → ℕ
first_train ring = (slice_index_or ring 0 no_step).from

-- a ring: the steps lead back to the first train, visit no train twice, and begin with the least train by name
pub record IsRing (cut : Cut) (steps : List Step) : Type 0 where
  pub leads : Leads cut (first_train steps) steps (first_train steps)
  pub once : AllPairs (λ s t. s.to ≢ t.to) steps
  pub least : All (λ s. first_train steps ≤ s.to) steps

-- a ring refuses each period below this one: it asks for more than its patterns take
pub record Refuses (cut : Cut) (period : ℕ) (steps : List Step) : Type 0 where
  pub is_ring : IsRing cut steps
  pub some : 0 < patterns steps
  pub more : (pos (patterns steps) *ℤ (pos period -ℤ pos 1)) <ℤ total cut steps

-- the entries of a cycle repeat in its period, and its ring refuses each lesser one
pub record Shows (cut : Cut) (cycle : Cycle) : Type 0 where
  pub repeats : IsRepeating cut cycle.period cycle.entries
  pub refuses : Refuses cut cycle.period cycle.ring

-- a cycle without trains
pub record IsStill (cycle : Cycle) : Type 0 where
  pub period : cycle.period ≡ 0
  pub entries : cycle.entries ≡ []
  pub ring : cycle.ring ≡ []

abbrev pub IsShownOf : ℕ → Cut → Cycle → Type 0
IsShownOf zero cut cycle = IsStill cycle
IsShownOf (suc more) cut cycle = Shows cut cycle

abbrev pub IsShown : Cut → Cycle → Type 0
IsShown cut cycle = IsShownOf (member_count cut) cut cycle

-- the cycle of a cut: no list that repeats in its period has an earlier entry
pub record IsCycle (cut : Cut) (cycle : Cycle) : Type 0 where
  pub shown : IsShown cut cycle
  pub least : (other : List ℤ) → IsRepeating cut cycle.period other → (i : ℕ) → i < member_count cut
      → entry_at cycle.entries i ≤ℤ entry_at other i

-- the trains of the cut have an order, and this is a cycle of it
pub record IsCycleOf (cut : Cut) (cycle : Cycle) : Type 0 where
  pub not_opposite : opposite cut ≡ None
  pub none_remains : remaining cut ≡ []
  pub is_cycle : IsCycle cut cycle

-- what is answered: a cycle, where the trains have an order, else their disorder
abbrev pub IsAnswered : Cut → Result Cycle Disorder → Type 0
IsAnswered cut (Ok cycle) = IsCycleOf cut cycle
IsAnswered cut (Err disorder) = IsOrdering cut (Err disorder)

-- in no lesser period does any list of entries repeat
abbrev pub HasNoLesserPeriod : Cut → Result Cycle Disorder → Type 0
HasNoLesserPeriod cut (Ok cycle) = (other : ℕ) (entries : List ℤ) → IsRepeating cut other entries → cycle.period ≤ other
HasNoLesserPeriod cut (Err disorder) = ⊤

-- period,SECTION,PERIOD,STEPS
abbrev pub period_row : List ℕ → ℕ → ℕ → Row
period_row section period steps = codes "period" ∷ section ∷ decimal period ∷ decimal steps ∷ []

-- slot,NAME,ENTRY
abbrev pub slot_row : Cut → List ℤ → ℕ → Row
slot_row cut entries i = codes "slot" ∷ (member cut i).name ∷ signed_decimal (entry_at entries i) ∷ []

abbrev pub slot_rows : Cut → List ℤ → List Row
slot_rows cut entries = map (slot_row cut entries) (members cut)

abbrev pub pattern_word : Bool → List ℕ
pattern_word next = if next then codes "next" else codes "same"

-- step,TRAIN,PLACE,NEXT,same or step,TRAIN,PLACE,NEXT,next
abbrev pub step_row : Cut → Step → Row
step_row cut s =
    codes "step" ∷ (member cut s.from).name ∷ place_name cut s.block ∷ (member cut s.to).name ∷ pattern_word s.next ∷ []

-- the trains in the order of their names, and the steps of the ring
abbrev pub train_rows : Cut → List ℤ → List Step → List Row
train_rows cut entries steps = slot_rows cut entries ++ map (step_row cut) steps

abbrev pub cycle_rows : Cut → Cycle → List Row
cycle_rows cut cycle =
    period_row cut.section.name cycle.period (length cycle.ring) ∷ train_rows cut cycle.entries cycle.ring

-- ---- what is asked to write them

-- a step is between members, at one of the places
pub record IsStepWithin (cut : Cut) (s : Step) : Type 0 where
  pub one : s.from < member_count cut
  pub other : s.to < member_count cut
  pub place : s.block < place_count cut

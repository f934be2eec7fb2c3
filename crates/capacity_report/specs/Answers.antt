-- The rows of a section's answer, and those of `report`: the heads of all answers and their total.
use Rattle.std.specs.Prelude.{ℕ, ◌-◌, ◌-ℤ◌, List, [], ◌∷◌, ◌++◌, length, map, codes, decimal, Option, Some, None, slice_index_or, ◌≡◌, ◌+◌, ◌≤◌, Bool, true, false, not, cond, count_by, zip}
use Rattle.std.specs.Fmt.{signed_decimal}
use Rattle.std.specs.List.{flat_map, AllZip}
use Rattle.rail_model.specs.declared.items.Section.{Section}
use Rattle.rail_model.specs.declared.tables.Tables.{Tables}
use Rattle.row_text.specs.SheetRows.{Row}
use Rattle.plan_model.specs.declared.answer.Answer.{Answer}
use Rattle.plan_model.specs.declared.answer.Answer.TheVariants as answer
use Rattle.plan_model.specs.declared.answer.Placed.{Placed}
use Rattle.plan_model.specs.declared.answer.Plan.{Plan}
use Rattle.plan_model.specs.declared.answer.Tie.{Tie}
use Rattle.plan_model.specs.declared.answer.Tie.TheVariants as tie
use Rattle.plan_model.specs.Answer.{Fraction, rate, consumption, is_within, IsAnswer}
use Rattle.plan_model.specs.declared.cut.Cut.{Cut}
use Rattle.plan_model.specs.Cut.{IsSoundCut, section_cut}
use Rattle.critical_chain.specs.Chain.{train_at, chain_of}
use Rattle.answer_parts.specs.Rows.{start_fields, after_fields, link_row}
use Rattle.answer_parts.specs.Rows as rates
pub use Rattle.answer_parts.specs.Rows.{opposite_row, ring_rows, crowded_row}
use Rattle.capacity_report.specs.Types.{Detail}
use Rattle.capacity_report.specs.declared.answers.Detail.TheVariants as detail

-- a plan's occupancy time rate and its capacity consumption, by the length of its window
abbrev pub rate_of : Plan → Fraction
rate_of plan = rate plan.occupancy (plan.to_s - plan.from_s)

abbrev pub consumption_of : Plan → Fraction
consumption_of plan = consumption plan.occupancy plan.add_percent (plan.to_s - plan.from_s)

abbrev pub place_of : Plan → ℕ → List ℕ
place_of plan place = slice_index_or plan.blocks place []

-- the name of the busiest block, empty where there is none
abbrev pub busiest_text : Plan → Option ℕ → List ℕ
busiest_text plan None = []
busiest_text plan (Some block) = place_of plan block

-- ordered,SECTION,MEMBERS,OCCUPANCY,BUSIEST
abbrev pub ordered_row : List ℕ → Plan → Row
ordered_row section plan =
    codes "ordered" ∷ section ∷ decimal (length plan.placed) ∷ decimal plan.occupancy ∷ busiest_text plan plan.busiest ∷ []

-- rate,SECTION,OCCUPANCY_RATE,PERCENT,CONSUMPTION,PERCENT,VERDICT
abbrev pub rate_row : List ℕ → Plan → Row
rate_row section plan = rates.rate_row section (rate_of plan) (consumption_of plan)

-- start, or after,TRAIN,BLOCK
abbrev pub tie_fields : Plan → Tie → Row
tie_fields plan tie.Start = start_fields
tie_fields plan (tie.After train block) = after_fields (train_at plan train).train (place_of plan block)

-- train,NAME,PLANNED,ENTRY,SHIFT and its tie
abbrev pub train_row : Plan → Placed → Row
train_row plan p =
    codes "train" ∷ p.train ∷ signed_decimal p.planned ∷ signed_decimal p.entry
    ∷ signed_decimal (p.entry -ℤ p.planned) ∷ tie_fields plan p.tie

-- critical,TRAIN,LINKS
abbrev pub critical_row : List ℕ → ℕ → Row
critical_row train links = codes "critical" ∷ train ∷ decimal links ∷ []

-- the row of the critical train, and the links of its chain from the first on; nothing where there is no train
abbrev pub critical_rows : Plan → Option ℕ → List Row
critical_rows plan None = []
critical_rows plan (Some train) =
    critical_row (train_at plan train).train (length (chain_of plan train)) ∷ map link_row (chain_of plan train)

-- the rows of a compressed timetable: its head; with its trains; and with the chain of its critical train, too
abbrev pub head_rows : List ℕ → Plan → List Row
head_rows section plan = ordered_row section plan ∷ rate_row section plan ∷ []

abbrev pub train_rows : Plan → List Row
train_rows plan = map (train_row plan) plan.placed

abbrev pub plan_rows : List ℕ → Plan → Detail → List Row
plan_rows section plan detail.Head = head_rows section plan
plan_rows section plan detail.Trains = head_rows section plan ++ train_rows plan
plan_rows section plan detail.Full = head_rows section plan ++ train_rows plan ++ critical_rows plan plan.critical

-- the rows of an answer: a compressed timetable, two opposite trains, a ring and its links, or a crowded section
abbrev pub answer_rows : List ℕ → Answer → Detail → List Row
answer_rows section (answer.Ordered plan) detail = plan_rows section plan detail
answer_rows section (answer.Opposite first second block1 block2) detail =
    opposite_row section first second block1 block2 ∷ []
answer_rows section (answer.Ring links) detail = ring_rows section links
answer_rows section (answer.Crowded count) detail = crowded_row section count ∷ []

-- how many sections there are, how many of them are ordered, within and over their capacity, in disorder, and crowded
pub record Total : Type 0 where
  pub sections : ℕ
  pub ordered : ℕ
  pub within : ℕ
  pub over : ℕ
  pub disordered : ℕ
  pub crowded : ℕ

-- a section whose trains have an order
abbrev pub is_ordered : Answer → Bool
is_ordered (answer.Ordered plan) = true
is_ordered a = false

-- an ordered section whose consumption is within its capacity, or over it
abbrev pub is_within_capacity : Answer → Bool
is_within_capacity (answer.Ordered plan) = is_within (consumption_of plan)
is_within_capacity a = false

abbrev pub is_over_capacity : Answer → Bool
is_over_capacity (answer.Ordered plan) = not (is_within (consumption_of plan))
is_over_capacity a = false

-- a section with opposite trains or a ring
abbrev pub is_disordered : Answer → Bool
is_disordered (answer.Opposite first second block1 block2) = true
is_disordered (answer.Ring links) = true
is_disordered a = false

-- a section with more members than are compressed
abbrev pub is_crowded : Answer → Bool
is_crowded (answer.Crowded count) = true
is_crowded a = false

abbrev pub total_of : List Answer → Total
total_of answers = record {
  sections = length answers;
  ordered = count_by is_ordered answers;
  within = count_by is_within_capacity answers;
  over = count_by is_over_capacity answers;
  disordered = count_by is_disordered answers;
  crowded = count_by is_crowded answers;
}

-- a total with one answer more
abbrev pub with_answer : Total → Answer → Total
with_answer total a = record {
  sections = total.sections + 1;
  ordered = total.ordered + cond (is_ordered a) 1 0;
  within = total.within + cond (is_within_capacity a) 1 0;
  over = total.over + cond (is_over_capacity a) 1 0;
  disordered = total.disordered + cond (is_disordered a) 1 0;
  crowded = total.crowded + cond (is_crowded a) 1 0;
}

-- the total of the answers of two totals
abbrev pub joined : Total → Total → Total
joined first second = record {
  sections = first.sections + second.sections;
  ordered = first.ordered + second.ordered;
  within = first.within + second.within;
  over = first.over + second.over;
  disordered = first.disordered + second.disordered;
  crowded = first.crowded + second.crowded;
}

-- no count is more than that of the sections; each section is ordered, in disorder or crowded, and each ordered one is
-- within or over its capacity
pub record IsTally (sections ordered within over disordered crowded : ℕ) : Type 0 where
  pub few_ordered : ordered ≤ sections
  pub few_within : within ≤ sections
  pub few_over : over ≤ sections
  pub few_disordered : disordered ≤ sections
  pub few_crowded : crowded ≤ sections
  pub each_kind : sections ≡ ordered + disordered + crowded
  pub each_rate : ordered ≡ within + over

-- the counts of a total add up
abbrev pub AddsUp : Total → Type 0
AddsUp total = IsTally total.sections total.ordered total.within total.over total.disordered total.crowded

-- total,SECTIONS,ORDERED,WITHIN,OVER,DISORDERED,CROWDED
abbrev pub total_row : Total → Row
total_row total =
    codes "total" ∷ decimal total.sections ∷ decimal total.ordered ∷ decimal total.within ∷ decimal total.over
    ∷ decimal total.disordered ∷ decimal total.crowded ∷ []

-- an answer is that of a sound cut
pub record IsAnswerOfSome (a : Answer) : Type 0 where
  pub cut : Cut
  pub sound : IsSoundCut cut
  pub is : IsAnswer cut a

-- the answers of some sections of a line: for each that of its cut
abbrev pub AreAnswers : Tables → List Section → List Answer → Type 0
AreAnswers tables sections answers = AllZip (λ section a. IsAnswer (section_cut tables section) a) sections answers

-- the heads of the answers, in the order of the sections' names
abbrev pub heads : List Section → List Answer → List Row
heads sections answers = flat_map (λ p. answer_rows p.0.name p.1 detail.Head) (zip sections answers)

abbrev pub report_rows : List Section → List Answer → List Row
report_rows sections answers = heads sections answers ++ total_row (total_of answers) ∷ []

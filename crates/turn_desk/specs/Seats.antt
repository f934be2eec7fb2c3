-- A pass is a seat at the desk's table, with its number beside it.
use Rattle.std.specs.Prelude.{◌≡◌, ℕ, ◌<◌, Bool, List, [], ◌∷◌, All, Contains, Option, None, if◌then◌else◌}
use Rattle.atomic_table.specs.Seated.{TableId}
use Rattle.atomic_table.specs.declared.shared.Seat.{Seat}
use Rattle.turn_desk.specs.declared.rule.View.{View}
use Rattle.turn_desk.specs.Known.{Known}
use Rattle.turn_desk.specs.Steps.{Mine}

-- a table of one word and one slot
abbrev pub IsSmall : TableId → Type 0
IsSmall id = (id.words ≡ 1) × (id.slots ≡ 1)

-- what is in hand between two calls: the slot, emptied, where the pass holds the turn
abbrev pub hand_of : {V : Type 0} → Bool → List (ℕ × Option V)
hand_of holds = if holds then (0, None) ∷ [] else []

-- what contracts see of a view at a table
abbrev pub known_of : {E : Type 0} → TableId → View E → Known E
known_of desk v = record {
  desk = desk;
  number = v.number;
  numbers = v.numbers;
  seen = v.seen;
  holds = v.holds;
  tries = v.tries;
  found = v.found;
  steps = v.steps;
  word = v.word;
}

-- what contracts see of a seat
abbrev pub known : {V E : Type 0} → Seat (Option V) (View E) → Known E
known s = known_of s.table_id s.me.0

module _ {V E : Type 0} (issued_by : List E → ℕ) (is_legal : List E → Type 0) where
  -- What holds of a pass between two calls: its number is one of its numbers, each of which is issued in what
  -- it has seen, and that is legal
  pub record IsPass (me : Mine V E) (number : ℕ) : Type 0 where
    pub number_is : me.0.number ≡ number
    pub own : Contains me.0.numbers number
    pub issued : All (λ n. n < issued_by me.0.seen) me.0.numbers
    pub legal : is_legal me.0.seen
    pub hand : me.1 ≡ hand_of me.0.holds

-- What contracts see of a pass, and how the calls of a desk change it.
use Rattle.std.specs.Prelude.{◌≡◌, ℕ, ◌+◌, Bool, true, false, List, [], ◌∷◌, ◌++◌, map}
use Rattle.std.specs.List.{range_with_len}
pub use Rattle.atomic_table.specs.Seated.{TableId}
use Rattle.turn_desk.specs.Journal.{OneGoesOn, HaveNoneInCommon}
use Rattle.turn_desk.specs.Views.{longer}

pub record Known (E : Type 0) : Type 0 where
  -- the desk that it is of
  pub desk : TableId
  -- its own number, and its numbers: its own and those of the passes that have left into it
  pub number : ℕ
  pub numbers : List ℕ
  -- the prefix of the desk's journal that it has seen
  pub seen : List E
  -- whether it holds the turn
  pub holds : Bool
  -- How often it has tried to take the turn, and the word that its last try found: 1 where the turn was taken.
  -- Each count stands in contracts alone, and has no greatest value
  pub tries : ℕ
  pub found : ℕ
  -- how many steps on the word it has made, with those of the passes that have left into it, and the word
  -- after the last of them: 1 where the turn was taken
  pub steps : ℕ
  pub word : ℕ

module _ {E : Type 0} where
  -- a pass as `start` and `enter` give it
  abbrev pub new_pass : TableId → ℕ → List E → Known E
  new_pass desk number seen = record {
    desk = desk;
    number = number;
    numbers = number ∷ [];
    seen = seen;
    holds = false;
    tries = 0;
    found = 0;
    steps = 0;
    word = 0;
  }

  -- the passes of this many numbers, from the first on
  abbrev pub new_passes : TableId → List E → ℕ → ℕ → List (Known E)
  new_passes desk seen first count = map (λ number. new_pass desk number seen) (range_with_len first count)

  -- the pass after one try that took the turn, with this list
  abbrev pub with_turn : Known E → List E → Known E
  with_turn k seen = record k {
    seen = seen;
    holds = true;
    tries = k.tries + 1;
    found = 0;
    steps = k.steps + 1;
    word = 1;
  }

  -- the pass after one try that found the turn taken
  abbrev pub refused : Known E → Known E
  refused k = record k { tries = k.tries + 1; found = 1; steps = k.steps + 1; word = 1 }

  -- the pass after it has given back its turn, with this list
  abbrev pub without_turn : Known E → List E → Known E
  without_turn k seen = record k { seen = seen; holds = false; steps = k.steps + 1; word = 0 }

  -- The pass after another has left into it, with a word that is one of the two. Its tries stay its own
  abbrev pub with_other : Known E → Known E → ℕ → Known E
  with_other k other word = record k {
    numbers = k.numbers ++ other.numbers;
    seen = longer k.seen other.seen;
    steps = k.steps + other.steps;
    word = word;
  }

  -- the pass is of this desk and holds no turn
  pub record IsReady (desk : TableId) (k : Known E) : Type 0 where
    pub desk_is : k.desk ≡ desk
    pub idle : k.holds ≡ false

  -- the same pass, which may have seen more and made steps
  pub record IsSamePass (old new : Known E) : Type 0 where
    pub desk : new.desk ≡ old.desk
    pub number : new.number ≡ old.number
    pub numbers : new.numbers ≡ old.numbers

  -- one of two seen parts begins with the other, and what the longer has beyond it carries none of the
  -- numbers of the pass with the shorter
  abbrev pub AgreeOn : (E → ℕ) → Known E → Known E → Type 0
  AgreeOn pass_of k other = OneGoesOn pass_of k.numbers k.seen other.numbers other.seen

  -- the two passes have no number in common
  abbrev pub HaveNoCommonNumber : Known E → Known E → Type 0
  HaveNoCommonNumber k other = HaveNoneInCommon k.numbers other.numbers

-- What each step tells the pass that makes it.
use Rattle.std.specs.Prelude.{◌≡◌, ◌≢◌, ℕ, ◌<◌, List, [], ◌∷◌, All, Option, Some, None}
use Rattle.atomic_table.specs.Table.{Me, Step}
use Rattle.turn_desk.specs.declared.rule.View.{View}
use Rattle.turn_desk.specs.Journal.{GoesOn, OneGoesOn, HaveNoneInCommon}
use Rattle.turn_desk.specs.Views.{won, lost, given, closing}

-- a pass's view, and what it has in hand
abbrev pub Mine : Type 0 → Type 0 → Type 0
Mine V E = Me (Option V) (View E)

module _ {V E : Type 0} (entries : V → List E) (pass_of : E → ℕ) (issued_by : List E → ℕ) (is_legal : List E → Type 0)
  where
    -- the turn is taken, with this value, whose list goes on from what was seen by entries of others
    pub record Finds (value : V) (v w : View E) : Type 0 where
      pub moment : ℕ
      pub is : w ≡ won moment (entries value) v
      pub goes_on : GoesOn pass_of v.numbers v.seen (entries value)
      pub legal : is_legal (entries value)
      pub below : All (λ n. n < issued_by (entries value)) v.numbers

    -- take: the word 0 becomes 1, and the value comes into hand; or the word was 1
    abbrev pub IsTake : Step (Option V) → Mine V E → ℕ → Mine V E → Type 0
    IsTake st m found m' =
        (found ≡ 0 → (value : V) × Finds value m.0 m'.0 × (m'.1 ≡ (0, Some value) ∷ m.1))
        × (found ≢ 0 → (moment : ℕ) × (m' ≡ (lost moment m.0, m.1)))

    -- give: the value in hand goes home
    abbrev pub IsGive : Step (Option V) → Mine V E → ℕ → Mine V E → Type 0
    IsGive st m found m' = (value : V) → m.1 ≡ (0, Some value) ∷ [] → (moment : ℕ)
        × (m' ≡ (given issued_by moment (entries value) m.0, []))

    -- shut: the empty slot goes home, and the turn stays taken
    abbrev pub IsShut : Step (Option V) → Mine V E → ℕ → Mine V E → Type 0
    IsShut st m found m' = m.1 ≡ (0, None) ∷ [] → (moment : ℕ) × (m' ≡ (closing moment m.0, []))

    -- tell: the two seen parts of the last join agree, and have no number in common
    abbrev pub IsTell : Step (Option V) → Mine V E → ℕ → Mine V E → Type 0
    IsTell st m found m' = (m' ≡ m)
        × OneGoesOn pass_of m.0.one.numbers m.0.one.seen m.0.two.numbers m.0.two.seen
        × HaveNoneInCommon m.0.one.numbers m.0.two.numbers

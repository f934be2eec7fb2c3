-- The rule between any two steps.
use Rattle.std.specs.Prelude.{◌≡◌, ◌⊎◌, ℕ, ◌+◌, ◌<◌, ◌≤◌, true, false, List, [], ◌∷◌, slice_index, sum_by, All, Contains}
use Rattle.std.specs.Prelude.{Option, Some, None}
use mathlib.Core.Option.{some, none}
use lib.ListN.{get_elem?}
use Rattle.atomic_table.specs.Table.{State}
use Rattle.turn_desk.specs.declared.rule.View.{View}
use Rattle.turn_desk.specs.Journal.{GoesOn, OneGoesOn, HaveNoneInCommon}

module _ {E : Type 0} where
  -- the number is drawn for a pass that is not made yet
  abbrev pub IsDrawn : View E → ℕ → Type 0
  IsDrawn v n = (v.drawn ≤ n) × (n < v.drawn + v.left)

  -- the number is one of the pass's own or drawn by it
  abbrev pub Owns : View E → ℕ → Type 0
  Owns v n = Contains v.numbers n ⊎ IsDrawn v n

  -- all steps on the word
  abbrev pub steps_of : List (View E) → ℕ
  steps_of views = sum_by (λ v. v.steps) views

  -- the view at this seat
  abbrev pub At : List (View E) → ℕ → View E → Type 0
  At views seat v = get_elem? views seat ≡ some v

  -- no number is owned by two passes
  abbrev pub OwnedOnce : List (View E) → Type 0
  OwnedOnce views = (i j : ℕ) (v w : View E) (n : ℕ) → At views i v → At views j w → Owns v n → Owns w n → i ≡ j

module _ {E : Type 0} (pass_of : E → ℕ) (issued_by : List E → ℕ) where
  -- What the journal says of one pass. What it has seen is a prefix of the journal, which goes on by entries
  -- of others; its numbers are below those issued by then; no entry carries a number that it has drawn; and
  -- the two seen parts of its last join agree
  pub record Fits (log : List E) (v : View E) : Type 0 where
    pub begins : GoesOn pass_of v.numbers v.seen log
    pub below : All (λ n. n < issued_by v.seen) v.numbers
    pub drawn_below : v.drawn + v.left ≤ issued_by v.seen
    pub either : (n : ℕ) → Contains v.numbers n → IsDrawn v n → ⊥
    pub unused : All (λ e. IsDrawn v (pass_of e) → ⊥) log
    pub agree : OneGoesOn pass_of v.one.numbers v.one.seen v.two.numbers v.two.seen
    pub apart : HaveNoneInCommon v.one.numbers v.two.numbers

module _ {V E : Type 0} where
  -- The turn is taken: just one pass holds, and has seen the whole journal. The slot is with it, or it is
  -- empty and at home where the pass has closed the desk
  pub record Taken (s : State (Option V) (View E)) (log : List E) : Type 0 where
    pub holder : ℕ
    pub view : View E
    pub here : At s.views holder view
    pub word : s.words ≡ 1 ∷ []
    pub home : ((view.closes ≡ false) × (s.homes ≡ none ∷ [])) ⊎ ((view.closes ≡ true) × (s.homes ≡ some None ∷ []))
    pub holds : view.holds ≡ true
    pub is : view.seen ≡ log
    pub alone : (seat : ℕ) (v : View E) → At s.views seat v → v.holds ≡ true → seat ≡ holder

  -- No pass is ahead of the steps on the word. A pass that made the last one knows what the word is, and there
  -- is one. Before the first step the word is 0
  pub record Dated (s : State (Option V) (View E)) : Type 0 where
    pub past : (seat : ℕ) (v : View E) → At s.views seat v → v.moment ≤ steps_of s.views
    pub now : (seat : ℕ) (v : View E) → At s.views seat v → v.moment ≡ steps_of s.views
        → v.word ≡ slice_index s.words 0
    pub last : (seat : ℕ) × (v : View E) × At s.views seat v × (v.moment ≡ steps_of s.views)
    pub new : steps_of s.views ≡ 0 → slice_index s.words 0 ≡ 0

module _ {V E : Type 0} (entries : V → List E) where
  -- the turn is free: the value is at home, its list is the journal, and no pass holds
  pub record Free (s : State (Option V) (View E)) (log : List E) : Type 0 where
    pub value : V
    pub word : s.words ≡ 0 ∷ []
    pub home : s.homes ≡ some (Some value) ∷ []
    pub is : entries value ≡ log
    pub nobody : (seat : ℕ) (v : View E) → At s.views seat v → v.holds ≡ false

-- There is one legal journal, each of whose entries carries an issued number. It is that of the value at
-- home, or what the holder has seen. Each pass fits it, and no number is owned by two passes
pub record Standing {V E : Type 0} (entries : V → List E) (pass_of : E → ℕ) (issued_by : List E → ℕ)
    (is_legal : List E → Type 0)
    (s : State (Option V) (View E)) : Type 0 where
  pub log : List E
  pub legal : is_legal log
  pub issued : All (λ e. pass_of e < issued_by log) log
  pub turn : Free entries s log ⊎ Taken s log
  pub each : (seat : ℕ) (v : View E) → At s.views seat v → Fits pass_of issued_by log v
  pub owned_once : OwnedOnce s.views
  pub dated : Dated s

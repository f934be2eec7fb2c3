-- What is known of the section of each name.
use Rattle.std.specs.Prelude.{◌≡◌, ℕ, ◌<◌, ◌≤◌, List, length, take, drop, find, unwrap_or, slice_get, Option, None, Some, Result, Ok, Err, option_map, option_and_then, IfSome, All}
use Rattle.rail_model.specs.Name.{is_same, IsBefore, NamesRise}
use Rattle.rail_model.specs.Tables.{number_of}
use Rattle.plan_model.specs.declared.answer.Answer.{Answer}
use Rattle.plan_model.specs.declared.cut.Cut.{Cut}
use Rattle.plan_model.specs.declared.journal.Act.{Act}
use Rattle.plan_model.specs.declared.journal.Entry.{Entry}
use Rattle.plan_model.specs.declared.journal.Act.TheVariants as act
use Rattle.plan_model.specs.declared.outcome.NotTaken.{NotTaken}
use Rattle.plan_model.specs.declared.outcome.NotTaken.TheVariants as not_taken
use Rattle.plan_model.specs.Cut.{stamped, IsSoundCut}
use Rattle.plan_model.specs.Journal.{last_publication}
use Rattle.plan_model.specs.Legal.{cut_now, IsLastTouching, IsStamp}
use Rattle.plan_book.specs.declared.shelf.Published.{Published}
use Rattle.plan_book.specs.declared.shelf.Shelf.{Shelf}
use Rattle.plan_book.specs.Stored.{cut_in}

-- the answer that an act publishes, if it publishes one
abbrev pub answer_of : Act → Option Answer
answer_of (act.Opened tables at scripts) = None
answer_of (act.Entered number) = None
answer_of (act.Edited planner at edit) = None
answer_of (act.Refused planner rule edit) = None
answer_of (act.Asked planner section reply) = None
answer_of (act.Published section at answer) = Some answer

-- the answer that the entry at a place publishes
abbrev pub answer_at : List Entry → ℕ → Option Answer
answer_at journal place = option_and_then (λ e. answer_of e.act) (slice_get journal place)

-- the cut that is kept of a section, if the section is there
abbrev pub kept_cut : Shelf → Option Cut
kept_cut s = option_map cut_in s.cut

-- what is known of a section that has no shelf: no edit touched it, nothing was published of it, and it isn't there
abbrev pub blank : ℕ → List ℕ → Shelf
blank first name = record { name = name; touched = first; published = None; cut = None }

-- what is known of the section of a name
abbrev pub shelf_of : ℕ → List Shelf → List ℕ → Shelf
shelf_of first shelves name = unwrap_or (find (λ s. is_same s.name name) shelves) (blank first name)

-- by what a shelf says, an answer of its section at the edit of a number may be published; or a later edit touched the
-- section; or none did, and no edit after the last publication
abbrev pub IsVerdict : Shelf → ℕ → Result (Unit {0}) NotTaken → Type 0
IsVerdict s at (Ok u) = (s.touched ≤ at) × IfSome s.published (λ p. p.at < s.touched)
IsVerdict s at (Err (not_taken.Stale by)) = (by ≡ s.touched) × (at < by)
IsVerdict s at (Err (not_taken.Current last)) =
    (s.touched ≤ at) × (s.touched ≤ last) × ((p : Published) × (s.published ≡ Some p) × (p.at ≡ last))

-- the shelf of a name stands at this place
pub record IsPlaceOf (shelves : List Shelf) (name : List ℕ) (i : ℕ) : Type 0 where
  pub within : i < length shelves
  pub number : i ≡ number_of (λ s. s.name) shelves name

-- no shelf is of this name, and one is to be put in at this place
pub record IsPlaceFor (shelves : List Shelf) (name : List ℕ) (i : ℕ) : Type 0 where
  pub within : i ≤ length shelves
  pub below : All (λ s. IsBefore s.name name) (take i shelves)
  pub above : All (λ s. IsBefore name s.name) (drop i shelves)

module _ (journal : List Entry) (name : List ℕ) where
  -- the section was published last by the entry at this place, at the edit of this number
  pub record IsPublished (p : Published) : Type 0 where
    pub answer : Answer
    pub last : last_publication journal name ≡ Some (record { at = p.at; answer = answer })
    pub there : answer_at journal p.entry ≡ Some answer

  -- what is known of its last publication is right
  abbrev pub KnowsLast : Option Published → Type 0
  KnowsLast None = last_publication journal name ≡ None
  KnowsLast (Some p) = IsPublished p

  -- this is the section's cut as it is now, with the stamps of its rows; none where the section isn't there
  pub record IsKeptCut (cut : Option Cut) : Type 0 where
    pub value : cut_now journal name ≡ option_map (stamped 0) cut
    pub stamps : IfSome cut (λ c. All (IsStamp journal name) c.rows)
    pub sound : IfSome cut IsSoundCut

  -- what a shelf says of the section is right
  pub record IsShelf (s : Shelf) : Type 0 where
    pub touched : IsLastTouching journal name s.touched
    pub published : KnowsLast s.published
    pub cut : IsKeptCut (kept_cut s)

-- shelves stand in the order of names, and what they say of each name is right
pub record AreShelves (journal : List Entry) (first : ℕ) (shelves : List Shelf) : Type 0 where
  pub rise : NamesRise (λ s. s.name) shelves
  pub each : (name : List ℕ) → IsShelf journal name (shelf_of first shelves name)

-- Which edits touch a section, when it is current, what a reading of it shows, and which entries are legal.
use Rattle.std.specs.Prelude.{◌≡◌, ◌≢◌, ◌⊎◌, ℕ, ◌-◌, ◌<◌, ◌≤◌, List, find, Option, Some, option_and_then, All, ◌+◌, [], ◌∷◌, ◌++◌, None}
use Rattle.rail_model.specs.Name.{is_same}
use Rattle.plan_model.specs.Types.{CutRow, Cut, Entry, Answer, Task, Reply, Act}
use Rattle.plan_model.specs.Cut.{stamped, cut_of}
use Rattle.plan_model.specs.Journal.{Publication, opening, last_number, tables_at, last_publication, tables_of, issued, done_by, script_of, planners}
use Rattle.rail_model.specs.Rules.{rule_of, IsSound}
use Rattle.plan_model.specs.declared.journal.Reply.TheVariants as reply
use Rattle.plan_model.specs.declared.journal.Act.TheVariants as act
use Rattle.plan_model.specs.Answer.{IsAnswer}

module _ {X : Type 0} (value : ℕ → X) where
  -- the edit of a number changes the value: before and after it the values differ
  abbrev pub Changes : ℕ → Type 0
  Changes number = value number ≢ value (number - 1)

  -- no edit after one number, up to another, changes the value
  pub record Stays (from to : ℕ) : Type 0 where
    pub each : (number : ℕ) → from < number → number ≤ to → value number ≡ value (number - 1)

  -- of the edits after the first number, up to the last, this is the last that changes the value; it is the first
  -- number itself where none does
  pub record IsLastChange (first last number : ℕ) : Type 0 where
    pub from_first : first ≤ number
    pub to_last : number ≤ last
    pub changes : (number ≡ first) ⊎ Changes number
    pub stays : Stays number last

-- the row of a run in a cut, if both are there
abbrev pub row_named : List ℕ → Option Cut → Option CutRow
row_named run cut = option_and_then (λ c. find (λ r. is_same r.name run) c.rows) cut

module _ (journal : List Entry) where
  -- the cut of a section after the edit of a number, without stamps; there is none where the section isn't there
  unfoldable pub cut_at : List ℕ → ℕ → Option Cut
  cut_at section number = cut_of (tables_at journal number) section

  -- its cut after all edits
  abbrev pub cut_now : List ℕ → Option Cut
  cut_now section = cut_at section (last_number journal)

  -- the row of a run in the section's cut after the edit of a number
  unfoldable pub row_at : List ℕ → List ℕ → ℕ → Option CutRow
  row_at section run number = row_named run (cut_at section number)

  -- the edit of a number touches the section: the section's cuts before and after it differ
  abbrev pub Touches : List ℕ → ℕ → Type 0
  Touches section number = Changes (cut_at section) number

  -- no edit after this one touches the section
  abbrev pub IsUntouchedSince : List ℕ → ℕ → Type 0
  IsUntouchedSince section at = Stays (cut_at section) at (last_number journal)

  -- the last edit that touches the section, or the opening's number where none does
  abbrev pub IsLastTouching : List ℕ → ℕ → Type 0
  IsLastTouching section by = IsLastChange (cut_at section) (opening journal).at (last_number journal) by

  -- the section is current: it was published, and no edit after the one of its last publication touches it
  pub record IsCurrent (section : List ℕ) : Type 0 where
    pub publication : Publication
    pub last : last_publication journal section ≡ Some publication
    pub untouched : IsUntouchedSince section publication.at

  -- a row's stamp: the number of the last edit at which the row became new or changed its value, or the opening's
  abbrev pub IsStamp : List ℕ → CutRow → Type 0
  IsStamp section row =
      IsLastChange (row_at section row.name) (opening journal).at (last_number journal) row.stamp

  -- a reading of the section: its cut after all edits, with a stamp on each row
  pub record IsReading (section : List ℕ) (cut : Cut) : Type 0 where
    pub value : cut_now section ≡ Some (stamped 0 cut)
    pub stamps : All (IsStamp section) cut.rows

module _ (journal : List Entry) where
  -- the section was there after the edit of a number, which the journal knows, and this is the answer of its cut there
  pub record IsAnswerAt (section : List ℕ) (at : ℕ) (answer : Answer) : Type 0 where
    pub from_opening : (opening journal).at ≤ at
    pub to_last : at ≤ last_number journal
    pub cut : Cut
    pub there : cut_at journal section at ≡ Some cut
    pub is_answer : IsAnswer cut answer

  -- an answer may be published: no edit since touches the section, and it is not current already
  pub record MayBePublished (section : List ℕ) (at : ℕ) (answer : Answer) : Type 0 where
    pub done : IsAnswerAt section at answer
    pub untouched : IsUntouchedSince journal section at
    pub wanted : IsCurrent journal section → ⊥

  -- the answer of the section was published last at the edit of this number
  abbrev pub WasPublishedAt : List ℕ → ℕ → Type 0
  WasPublishedAt section at =
      (answer : Answer) × (last_publication journal section ≡ Some (record { at = at; answer = answer }))

  -- an edit after `at` touches the section, and `by` is the number of the last that does
  pub record IsTouchedSince (section : List ℕ) (at by : ℕ) : Type 0 where
    pub last : IsLastTouching journal section by
    pub later : at < by

  -- the section is current since its last publication, at the edit of this number
  pub record IsCurrentSince (section : List ℕ) (at : ℕ) : Type 0 where
    pub published : WasPublishedAt section at
    pub untouched : IsUntouchedSince journal section at

  -- what is replied to one who asks for a section: `Unknown` where it isn't there; else `NotYet` where it was never
  -- published; else `Stale` where a later edit touches it, the last one by this number; else `Ready`
  abbrev pub IsReply : List ℕ → Reply → Type 0
  IsReply section reply.Unknown = cut_now journal section ≡ None
  IsReply section reply.NotYet = (cut_now journal section ≢ None) × (last_publication journal section ≡ None)
  IsReply section (reply.Stale at by) =
      (cut_now journal section ≢ None) × WasPublishedAt section at × IsTouchedSince section at by
  IsReply section (reply.Ready at) = (cut_now journal section ≢ None) × IsCurrentSince section at

  -- what may be done next: a pass of the next number is issued; an edit that no rule refuses gets the next number; an
  -- edit is refused by the first rule that refuses it; an answer is published where it may be; a reply is right
  abbrev pub MayFollow : Act → Type 0
  MayFollow (act.Opened tables at scripts) = ⊥
  MayFollow (act.Entered number) = number ≡ issued journal
  MayFollow (act.Edited planner at edit) = (at ≡ last_number journal + 1) × (rule_of (tables_of journal) edit ≡ None)
  MayFollow (act.Refused planner rule edit) = rule_of (tables_of journal) edit ≡ Some rule
  MayFollow (act.Asked planner section reply) = IsReply section reply
  MayFollow (act.Published section at answer) = MayBePublished section at answer

  -- a legal next entry: it carries an issued pass, and what it says may be done next
  pub record IsNext (e : Entry) : Type 0 where
    pub pass : e.pass < issued journal
    pub follows : MayFollow e.act

-- each of these entries is a legal next one after those before it
abbrev pub AllFollow : List Entry → List Entry → Type 0
AllFollow before [] = Unit {0}
AllFollow before (e ∷ later) = IsNext before e × AllFollow (before ++ e ∷ []) later

-- a journal opens with sound tables
abbrev pub Opens : Act → Type 0
Opens (act.Opened tables at scripts) = IsSound tables
Opens a = ⊥

-- a legal journal: it opens by pass 0, and each next entry is legal after those before it
abbrev pub IsLegal : List Entry → Type 0
IsLegal [] = ⊥
IsLegal (e ∷ later) = (e.pass ≡ 0) × Opens e.act × AllFollow (e ∷ []) later

-- the tasks that a planner has done are the first of its script, in order
abbrev pub KeepsToScript : List Entry → ℕ → Type 0
KeepsToScript journal planner = (left : List Task) × (script_of journal planner ≡ done_by journal planner ++ left)

-- a journal of planners at work: it is legal, and each planner keeps to its script
pub record IsJournal (journal : List Entry) : Type 0 where
  pub legal : IsLegal journal
  pub scripts : All (KeepsToScript journal) (planners journal)

-- Laws of compressed timetables.
use Rattle.std.specs.Prelude.{◌≡◌, ℕ, ◌<◌, ℤ, ◌≤ℤ◌, List, [], remove}
use Rattle.plan_model.specs.declared.cut.Cut.{Cut}
use Rattle.plan_model.specs.declared.answer.Answer.{Answer}
use Rattle.plan_model.specs.Members.{member, member_count}
use Rattle.plan_model.specs.Cut.{IsSoundCut, connection_uses}
use Rattle.plan_model.specs.Disorder.{remaining}
use Rattle.plan_model.specs.Schedule.{entry_at, IsLeast, IsLeastFrom}
use Rattle.plan_model.specs.Answer.{IsAnswer}

-- a cut without one of its trains: those behind it stand one position earlier. All places stay: a connection of the train
-- that is taken out binds no other train, since only one train uses it then
abbrev pub cut_without : Cut → ℕ → Cut
cut_without cut r = record cut { rows = remove cut.rows r }

-- one train fewer: no other train of the compressed timetable enters later. With the train its entry is taken out, too
abbrev pub NoneIsLaterWithout : Type 0
NoneIsLaterWithout =
    (cut : Cut) (r : ℕ) (entries fewer : List ℤ) → r < member_count cut → IsLeast cut entries
    → IsLeast (cut_without cut r) fewer → (i : ℕ) → i < member_count (cut_without cut r)
    → entry_at fewer i ≤ℤ entry_at (remove entries r) i

-- one train fewer: where the trains have an order, the others have one
abbrev pub OrderStaysWithout : Type 0
OrderStaysWithout =
    (cut : Cut) (r : ℕ) → r < member_count cut → remaining cut ≡ [] → remaining (cut_without cut r) ≡ []

-- one train fewer: a sound cut is sound without a train that has no connection
abbrev pub SoundWithout : Type 0
SoundWithout =
    (cut : Cut) (r : ℕ) → r < member_count cut → IsSoundCut cut → connection_uses cut (member cut r) ≡ []
    → IsSoundCut (cut_without cut r)

-- where no member of a sound cut remains, there is a least schedule from any floors
abbrev pub LeastIsThere : Type 0
LeastIsThere =
    (cut : Cut) (floor : ℕ → ℤ) → IsSoundCut cut → remaining cut ≡ [] → (entries : List ℤ) × IsLeastFrom cut floor entries

-- each sound cut has an answer
abbrev pub AnswerIsThere : Type 0
AnswerIsThere = (cut : Cut) → IsSoundCut cut → (answer : Answer) × IsAnswer cut answer

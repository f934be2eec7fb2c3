-- What a worker keeps of sections, and where it comes from.
use Rattle.std.specs.Prelude.{◌≡◌, ◌≢◌, ℕ, List, [], ◌++◌, length, sum_by, Option, None, Some, All, Contains}
use Rattle.std.specs.Ordering.{nat_cmp}
use Rattle.std.specs.Cmp.Lexicographic.{slice_cmp}
use Rattle.std.specs.BTreeMap.{is_at}
use Rattle.std.specs.Map.{lookup}
use Rattle.plan_model.specs.declared.cut.Cut.{Cut}
use Rattle.plan_model.specs.declared.journal.Entry.{Entry}
use Rattle.plan_model.specs.Journal.{last_number}
use Rattle.plan_model.specs.Legal.{IsLegal, IsReading}
use Rattle.plan_model.specs.Reading.{Shown}
use Rattle.plan_repair.specs.Kept.{kept_of, uses_not_kept}
use Rattle.section_worker.specs.declared.worker.KeptReading.{KeptReading}

-- a worker: it answers those sections whose number leaves the rest `share` on division by `of`, passes the gate as
-- this actor, and keeps something of sections, by their names
pub record Working : Type 0 where
  pub share : ℕ
  pub of : ℕ
  pub actor : ℕ
  pub kept : List (List ℕ × KeptReading)

-- a worker that keeps nothing
abbrev pub new_worker : ℕ → ℕ → ℕ → Working
new_worker share of actor = record { share = share; of = of; actor = actor; kept = [] }

-- two workers have one share and one actor, whatever they keep
pub record IsSameWorker (old new : Working) : Type 0 where
  pub share : new.share ≡ old.share
  pub of : new.of ≡ old.of
  pub actor : new.actor ≡ old.actor

-- what a worker keeps of the section of a name, if it keeps something of it
abbrev pub kept_for : Working → List ℕ → Option KeptReading
kept_for w section = lookup (is_at (slice_cmp nat_cmp section)) w.kept

-- how many uses those rows of a cut have that aren't kept with their name and stamp
abbrev pub uses_missing : Option KeptReading → Cut → ℕ
uses_missing None cut = sum_by (λ r. length r.uses) cut.rows
uses_missing (Some h) cut = uses_not_kept h.keep cut

-- what is kept of a section was read: of a beginning of the journal, whose last edit had the number that is kept, and
-- each kept row stands with its stamp in that reading of the section
pub record WasRead (journal : List Entry) (section : List ℕ) (h : KeptReading) : Type 0 where
  pub found : List Entry
  pub more : List Entry
  pub is : journal ≡ found ++ more
  pub legal : IsLegal found
  pub at : h.at ≡ last_number found
  pub cut : Cut
  pub reading : IsReading found section cut
  pub name : h.keep.section ≡ section
  pub rows : All (Contains cut.rows) h.keep.rows

-- all that a worker keeps was read
abbrev pub KeepsWhatWasRead : Working → List Entry → Type 0
KeepsWhatWasRead w journal =
    (section : List ℕ) (h : KeptReading) → kept_for w section ≡ Some h → WasRead journal section h

-- of each other section there is kept what was kept
abbrev pub KeepsOthers : List ℕ → Working → Working → Type 0
KeepsOthers section old new = (other : List ℕ) → other ≢ section → kept_for new other ≡ kept_for old other

-- this is kept of a section; of other sections what was kept
pub record Keeps (section : List ℕ) (h : KeptReading) (old new : Working) : Type 0 where
  pub kept : kept_for new section ≡ Some h
  pub others : KeepsOthers section old new

-- what is to be kept of a reading: its rows, with their stamps, or none where its cut is crowded
abbrev pub kept_reading : Shown → KeptReading
kept_reading shown = record { at = shown.at; keep = kept_of shown.cut }

-- of a cut's section its rows are kept, with their stamps, or none where it is crowded; of other sections what was kept
pub record KeepsRows (cut : Cut) (at : ℕ) (old new : Working) : Type 0 where
  pub rows : kept_for new cut.section.name ≡ Some (record { at = at; keep = kept_of cut })
  pub others : KeepsOthers cut.section.name old new

-- of a section nothing is kept any more; of other sections what was kept
pub record Forgets (section : List ℕ) (old new : Working) : Type 0 where
  pub gone : kept_for new section ≡ None
  pub others : KeepsOthers section old new

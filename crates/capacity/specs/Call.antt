-- A call of the program, and how the process ends after it.
use Rattle.std.specs.Prelude.{◌≡◌, ◌⊎◌, ℕ, List, All, Option, Some, IsNone}
use Rattle.std.specs.Process.{exit_status}
use Rattle.std.specs.Str.{IsUtf8}
use Rattle.rail_outside.specs.InCall.{SourceInCall, SinkInCall, IsUnread, IsUnwritten, AreNotText}
use Rattle.capacity_cmd.specs.declared.status.Status.{Status}
use Rattle.capacity_cmd.specs.declared.status.Status.TheVariants.{BadWords, OutOfMemory}
use Rattle.capacity_cmd.specs.Outcome.{status_number}
use Rattle.capacity_cmd.specs.Promise.{Answers}
use Rattle.capacity.specs.declared.program.Ended.{Ended}

module _ {S K : Type 0} (status : Status) (told : Option (List (List ℕ))) (not_text : Type 0)
    (source : SourceInCall S) (sink : SinkInCall K) where
  -- no words can be had, and nothing is read or written: one of them isn't UTF-8, or else memory ran out
  pub record HasNoWords : Type 0 where
    pub why : ((status ≡ BadWords) × not_text × AreNotText told) ⊎ ((status ≡ OutOfMemory) × ¬ not_text)
    pub unread : IsUnread source
    pub unwritten : IsUnwritten sink

  -- the program's promise is kept for the words, which are told; each of them is UTF-8
  pub record HasWords : Type 0 where
    pub words : List (List ℕ)
    pub told_are : told ≡ Some words
    pub text : All IsUtf8 words
    pub good : ¬ not_text
    pub answers : Answers words status source sink

  abbrev pub IsCall : Type 0
  IsCall = HasWords ⊎ HasNoWords

module _ {S K : Type 0} (ended : Ended) (told : Option (List (List ℕ))) (not_text : Type 0)
    (source : SourceInCall S) (sink : SinkInCall K) where
  pub record EndsAsCall : Type 0 where
    -- the process ends with the number of a call's status
    pub status : Status
    pub call : IsCall status told not_text source sink
    pub number : exit_status ended.code ≡ status_number status
    -- where a word isn't UTF-8, nothing is read or written; the number is 2
    pub bad_words : not_text → (exit_status ended.code ≡ 2) × IsUnread source × IsUnwritten sink
    -- where none are told, the number is 2, or 5 for want of memory
    pub no_words : IsNone told
        → ((exit_status ended.code ≡ 2) ⊎ (exit_status ended.code ≡ 5)) × IsUnread source × IsUnwritten sink

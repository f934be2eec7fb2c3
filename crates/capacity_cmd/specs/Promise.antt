-- What a call of the program promises: by its words and its status, and by its source and its sink.
use Rattle.std.specs.Prelude.{◌≡◌, ◌≢◌, ◌⊎◌, ℕ, ◌+◌, ◌≤◌, List, length, MatchOption}
use Rattle.rail_outside.specs.InCall.{SourceInCall, SinkInCall, IsUnread, Gave, IsReadToEnd, ReadFailed, NoReadFailed, ShowsNoReadFailed, IsUnwritten, IsWritten, IsBrokenOff, WriteFailed, NoWriteFailed, ShowsNoWriteFailed}
use Rattle.capacity_cmd.specs.Types.{Command, Cause, Status}
use Rattle.capacity_cmd.specs.declared.limit.TheConstants.{INPUT_BYTES}
use Rattle.capacity_cmd.specs.declared.status.Status.TheVariants.{Done, Refused, BadWords, ReadFault, WriteFault, OutOfMemory}
use Rattle.capacity_cmd.specs.Command.{command_of, made_of}
use Rattle.capacity_cmd.specs.Outcome.{Outcome, Writes, Refuses, EndsInText, outcome_text, outcome_status}
use Rattle.capacity_cmd.specs.Ends.{IsMadeText, EndsOn}

module _ {S K : Type 0} (status : Status) (source : SourceInCall S) (sink : SinkInCall K) where
  -- `BadWords`: nothing is read, and nothing is written
  pub record RejectsWords : Type 0 where
    pub bad_words : status ≡ BadWords
    pub unread : IsUnread source
    pub unwritten : IsUnwritten sink

-- an outcome that the call may have is written, or it is said why not; a call that reads nothing does so, too
module _ {K : Type 0} (MayEnd : Outcome → Type 0) (status : Status) (sink : SinkInCall K) where
  pub record WritesOutcome : Type 0 where
    -- `Done`: the outcome is a text, written and flushed
    pub done : status ≡ Done → (text : List ℕ) × MayEnd (Writes text) × IsWritten sink text
    -- `Refused`: the outcome is the refusal, whose row is written and flushed
    pub refused : (row : ℕ) (why : Cause) → status ≡ Refused row why
        → MayEnd (Refuses row why) × IsWritten sink (outcome_text (Refuses row why))
    -- `WriteFault`: a write or a flush failed, and a prefix of the outcome's text is written; any
    -- other status says that none failed
    pub write_fault : status ≡ WriteFault → WriteFailed sink
    pub broke_off : status ≡ WriteFault
        → (outcome : Outcome) × MayEnd outcome × IsBrokenOff sink (outcome_text outcome)
    pub no_write_fault : status ≢ WriteFault → NoWriteFailed sink
    -- `ReadFault` and `OutOfMemory`: nothing is written
    pub nothing_written : status ≡ ReadFault → IsUnwritten sink
    pub no_memory : status ≡ OutOfMemory → IsUnwritten sink

-- the outcome of a command on the bytes that reads gave in the call: on the whole input, or, where that is longer than the
-- limit, on one byte more than the limit
pub record IsEnd {S : Type 0} (command : Command) (source : SourceInCall S) (outcome : Outcome) : Type 0 where
  pub input : List ℕ
  pub gave : Gave source input
  pub on : EndsOn command input outcome
  pub most : length input ≤ INPUT_BYTES + 1
  pub whole : length input ≤ INPUT_BYTES → IsReadToEnd source

module _ {S K : Type 0} (command : Command) (status : Status)
    (source : SourceInCall S) (sink : SinkInCall K) where
  -- the command is run
  pub record RunsCommand : Type 0 where
    pub good_words : status ≢ BadWords
    pub writes : WritesOutcome (IsEnd command source) status sink
    -- `Done`: the input is read to its end
    pub whole_input : status ≡ Done → IsReadToEnd source
    -- `ReadFault`: one read failed, after no more bytes than an input may have, and none came after it; any other status
    -- says that none failed
    pub read_fault : status ≡ ReadFault → ReadFailed source INPUT_BYTES
    pub no_read_fault : status ≢ ReadFault → NoReadFailed source
    -- where the counts show that no call failed, the status is the outcome's, or memory ran out
    pub complete : ShowsNoReadFailed source → ShowsNoWriteFailed sink
        → ((outcome : Outcome) × IsEnd command source outcome × (status ≡ outcome_status outcome))
        ⊎ (status ≡ OutOfMemory)

module _ {S K : Type 0} (n : ℕ) (status : Status)
    (source : SourceInCall S) (sink : SinkInCall K) where
  -- the line that is made from a number is counted; whatever the source holds, nothing is read
  pub record WritesMade : Type 0 where
    pub ends : (status ≡ Done) ⊎ (status ≡ WriteFault) ⊎ (status ≡ OutOfMemory)
    pub unread : IsUnread source
    pub writes : WritesOutcome (EndsInText (IsMadeText n)) status sink
    -- where the counts show that no call failed, the text is written, or memory ran out
    pub complete : ShowsNoWriteFailed sink → (status ≡ Done) ⊎ (status ≡ OutOfMemory)

-- the promise: a line is made and counted, where the words ask for it; else the command that they spell is run, and words
-- that spell none are rejected
abbrev pub Answers : {S K : Type 0}
    → List (List ℕ) → Status → SourceInCall S → SinkInCall K → Type 0
Answers words status source sink =
    MatchOption (made_of words)
    (MatchOption (command_of words)
    (RejectsWords status source sink)
    (λ command. RunsCommand command status source sink))
    (λ n. WritesMade n status source sink)

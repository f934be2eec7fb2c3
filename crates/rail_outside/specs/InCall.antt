-- What a call does to its source and its sink, counts of faults, and the words of a call.
use Rattle.std.specs.Prelude.{◌≡◌, ℕ, ◌+◌, ◌-◌, ◌^◌, min, Result, is_ok, if◌then◌else◌, List, length, Option, IfSome, Contains, ◌<◌, ◌≤◌, ◌++◌, take}
use Rattle.std.specs.Str.{IsUtf8}
use Rattle.std.specs.Io.KnownBytes.{Consumes, Appends, IsAtEnd}

-- the count after one more, which stands still at its type's end
abbrev pub raised : ℕ → ℕ
raised count = min (count + 1) (2 ^ 64 - 1)

-- one call failed, and no other: the count rose by exactly one, or stands at its type's end
abbrev pub RoseByOne : ℕ → ℕ → Type 0
RoseByOne before now = now ≡ raised before

-- a call that answers a fault raises the count by one, and any other leaves it
abbrev pub CountsFaults : {T E : Type 0} → Result T E → ℕ → ℕ → Type 0
CountsFaults answer before now = now ≡ (if is_ok answer then before else raised before)

-- all bytes taken are flushed
abbrev pub IsFlushed : List ℕ → ℕ → Type 0
IsFlushed taken n = n ≡ length taken

-- these are the words, all of them and in their order
abbrev pub AreWords : Option (List (List ℕ)) → List (List ℕ) → Type 0
AreWords told words = IfSome told (λ all. words ≡ all)

-- one of the words isn't UTF-8
abbrev pub HasNoText : List (List ℕ) → Type 0
HasNoText words = (word : List ℕ) × Contains words word × ¬ (IsUtf8 word)

abbrev pub AreNotText : Option (List (List ℕ)) → Type 0
AreNotText told = IfSome told HasNoText

-- a source: the bytes that it gave so far, those that it has left, where it tells them, whether its last read found the end,
-- its count of faults, and whether its last read failed
pub record SourceInCall (S : Type 0) : Type 1 where
  pub given : S → List ℕ
  pub left : S → Option (List ℕ)
  pub ended : S → Type 0
  pub faults : S → ℕ
  pub at_fault : S → Type 0
  pub before : S
  pub after : S

-- a sink: the bytes that it took so far, those that it holds, where it tells them, how many of those taken are flushed, and its
-- count of faults
pub record SinkInCall (K : Type 0) : Type 0 where
  pub taken : K → List ℕ
  pub written : K → Option (List ℕ)
  pub flushed : K → ℕ
  pub faults : K → ℕ
  pub before : K
  pub after : K

abbrev pub source_call : {S : Type 0} → (S → List ℕ) → (S → Option (List ℕ)) → (S → Type 0) → (S → ℕ) → (S → Type 0) → S → S
    → SourceInCall S
source_call given left ended faults at_fault before after =
    record { given = given; left = left; ended = ended; faults = faults; at_fault = at_fault; before = before; after = after }

abbrev pub sink_call : {K : Type 0} → (K → List ℕ) → (K → Option (List ℕ)) → (K → ℕ) → (K → ℕ) → K → K → SinkInCall K
sink_call taken written flushed faults before after =
    record { taken = taken; written = written; flushed = flushed; faults = faults; before = before; after = after }

module _ {S : Type 0} (source : SourceInCall S) where
  -- nothing was read
  abbrev pub IsUnread : Type 0
  IsUnread = source.after ≡ source.before

  -- these bytes were given in the call, and the source has lost them, where it tells what it has left
  abbrev pub Gave : List ℕ → Type 0
  Gave bytes =
      Consumes (source.left source.before) (source.left source.after) bytes
      × (source.given source.after ≡ source.given source.before ++ bytes)

  -- exactly so many bytes were given
  abbrev pub HasGiven : ℕ → Type 0
  HasGiven count = (bytes : List ℕ) × (length bytes ≡ count) × Gave bytes

  -- the source was read to its end: the last read gave no byte for a piece with room, and none is left
  pub record IsReadToEnd : Type 0 where
    pub ended : source.ended source.after
    pub left : IsAtEnd (source.left source.after)

  -- one read failed, after no more bytes than these, and none came after it
  pub record ReadFailed (most : ℕ) : Type 0 where
    pub within : (bytes : List ℕ) × (length bytes ≤ most) × Gave bytes
    pub one : RoseByOne (source.faults source.before) (source.faults source.after)
    pub last : source.at_fault source.after

  -- no read failed: the count of faults stands
  abbrev pub NoReadFailed : Type 0
  NoReadFailed = source.faults source.after ≡ source.faults source.before

  -- the count, which stands below its last value, shows that no read failed
  abbrev pub ShowsNoReadFailed : Type 0
  ShowsNoReadFailed = NoReadFailed × (source.faults source.after < 2 ^ 64 - 1)

module _ {K : Type 0} (sink : SinkInCall K) where
  -- nothing was written
  abbrev pub IsUnwritten : Type 0
  IsUnwritten = sink.after ≡ sink.before

  -- a whole text was written, and all bytes taken are flushed
  pub record IsWritten (text : List ℕ) : Type 0 where
    pub taken : sink.taken sink.after ≡ sink.taken sink.before ++ text
    pub whole : Appends (sink.written sink.before) (sink.written sink.after) text
    pub flushed : IsFlushed (sink.taken sink.after) (sink.flushed sink.after)

  -- a prefix of a text was written
  abbrev pub IsBrokenOff : List ℕ → Type 0
  IsBrokenOff text =
      (n : ℕ) × (n ≤ length text) × Appends (sink.written sink.before) (sink.written sink.after) (take n text)
      × (sink.taken sink.after ≡ sink.taken sink.before ++ take n text)

  -- one write or flush failed, and no other: the count of faults rose by one
  abbrev pub WriteFailed : Type 0
  WriteFailed = RoseByOne (sink.faults sink.before) (sink.faults sink.after)

  -- no write and no flush failed: the count of faults stands
  abbrev pub NoWriteFailed : Type 0
  NoWriteFailed = sink.faults sink.after ≡ sink.faults sink.before

  -- the count, which stands below its last value, shows that no write and no flush failed
  abbrev pub ShowsNoWriteFailed : Type 0
  ShowsNoWriteFailed = NoWriteFailed × (sink.faults sink.after < 2 ^ 64 - 1)

-- The outcome of a command on an input, by the input's length and by what a source gave of it.
use Rattle.std.proofs.Common.{◌≡◌, ℕ, ◌+◌, ◌<◌, ◌≤◌, true, false, List, length, Result, Ok, Err, refl, sym, ap, subst, arith, nat_lt}
use Rattle.std.specs.Prelude.{MatchResult}
use Rattle.std.proofs.lemmas.Bool.{lt-ltb}
use Rattle.std.proofs.lemmas.Bool.Decides.{nat_tests}
use Rattle.rail_outside.specs.InCall.{SourceInCall, Gave, IsReadToEnd}
use Rattle.row_text.specs.Rows.{rows_of}
use Rattle.row_text.specs.SheetRows.{Row}
use Rattle.plan_book.specs.declared.book.TheConstants.{PLANNERS}
use Rattle.capacity_cmd.specs.declared.command.Command.{Command}
use Rattle.capacity_cmd.specs.declared.command.Command.TheVariants as command
use Rattle.capacity_cmd.specs.declared.refusal.Refusal.{Refusal}
use Rattle.capacity_cmd.specs.declared.accepted.Accepted.{Accepted}
use Rattle.capacity_cmd.specs.declared.reply.CallReply.{CallReply}
use Rattle.capacity_cmd.specs.declared.status.Status.TheVariants as status
use Rattle.capacity_cmd.specs.declared.status.Cause.TheVariants as cause
use Rattle.capacity_cmd.specs.declared.limit.TheConstants.{INPUT_BYTES}
use Rattle.capacity_cmd.specs.Input.{Content, accepted_of, refused, content_of_rows, content_of_input}
use Rattle.capacity_cmd.specs.InputSoFar.{accepted_in, IsWithin}
use Rattle.capacity_cmd.specs.Command.{planners_of}
use Rattle.capacity_cmd.specs.Outcome.{Outcome, Refuses}
use Rattle.capacity_cmd.specs.Ends.{EndsOnAccepted, Ends, EndsOn}
use Rattle.capacity_cmd.specs.Promise.{IsEnd}
use Rattle.capacity_cmd.specs.Reply.{IsCallReply}
use Rattle.capacity_cmd.specs.Given.{GivesOrRefuses}
use Rattle.capacity_cmd.proofs.RowCount.{row_count}

-- an input that isn't too long says what its rows say, and one that is too long is refused
pub content_of_short : (planners : ℕ) (input : List ℕ) → length input ≤ INPUT_BYTES
    → content_of_input planners input ≡ content_of_rows planners (rows_of input)
unfolding content_of_input
content_of_short planners input short =
    let test : nat_lt INPUT_BYTES (length input) ≡ false = grind (arith, nat_tests) in
    rw test refl

pub content_of_long : (planners : ℕ) (input : List ℕ) → INPUT_BYTES < length input
    → content_of_input planners input ≡ refused 0 cause.TooLong
unfolding content_of_input
content_of_long planners input long =
    let test : nat_lt INPUT_BYTES (length input) ≡ true = lt-ltb _ _ long in
    rw test refl

pub ends_too_long : (c : Command) (input : List ℕ) → INPUT_BYTES < length input → EndsOn c input (Refuses 0 cause.TooLong)
ends_too_long c input long =
    subst (λ content. Ends c content (Refuses 0 cause.TooLong)) (sym (content_of_long (planners_of c) input long)) refl

-- what a command ends with on an input, by what its rows give or by their refusal
by_accepted : (c : Command) (content : Result Content Refusal) (given : Accepted) (outcome : Outcome)
    → accepted_in content ≡ Ok given → EndsOnAccepted c given outcome → Ends c content outcome
by_accepted c (Ok content) given outcome is ends =
    let same : accepted_of content ≡ given = cc in subst (λ g. EndsOnAccepted c g outcome) (sym same) ends
by_accepted c (Err refusal) given outcome is ends = absurd (cc)

by_refusal : (c : Command) (content : Result Content Refusal) (refusal : Refusal) → accepted_in content ≡ Err refusal
    → Ends c content (Refuses refusal.row refusal.cause)
by_refusal c (Ok content) refusal is = absurd (cc)
by_refusal c (Err other) refusal is = let same : refusal ≡ other = cc in ap (λ (r : Refusal). Refuses r.row r.cause) same

pub ends_on_accepted : (c : Command) (input : List ℕ) (given : Accepted) (outcome : Outcome) → length input ≤ INPUT_BYTES
    → accepted_in (content_of_rows (planners_of c) (rows_of input)) ≡ Ok given → EndsOnAccepted c given outcome
    → EndsOn c input outcome
ends_on_accepted c input given outcome short made ends =
    subst (λ content. Ends c content outcome) (sym (content_of_short (planners_of c) input short))
    (by_accepted c (content_of_rows (planners_of c) (rows_of input)) given outcome made ends)

pub ends_refused : (c : Command) (input : List ℕ) (refusal : Refusal) → length input ≤ INPUT_BYTES
    → accepted_in (content_of_rows (planners_of c) (rows_of input)) ≡ Err refusal
    → EndsOn c input (Refuses refusal.row refusal.cause)
ends_refused c input refusal short made =
    subst (λ content. Ends c content (Refuses refusal.row refusal.cause)) (sym (content_of_short (planners_of c) input short))
    (by_refusal c (content_of_rows (planners_of c) (rows_of input)) refusal made)

-- the outcome on the bytes that a source gave, where it was read to its end
pub IsEnd-all : {S : Type 0} (c : Command) (source : SourceInCall S) (input : List ℕ) (outcome : Outcome)
    → length input ≤ INPUT_BYTES → Gave source input → IsReadToEnd source → EndsOn c input outcome → IsEnd c source outcome
IsEnd-all c source input outcome short gave end ends = record {
  input = input;
  gave = gave;
  on = ends;
  most = omega (arith, short);
  whole = λ short. end;
}

-- and where it gave more than is read
pub IsEnd-too_long : {S : Type 0} (c : Command) (source : SourceInCall S)
    → (input : List ℕ) × (length input ≡ INPUT_BYTES + 1) × Gave source input → IsEnd c source (Refuses 0 cause.TooLong)
IsEnd-too_long c source given = record {
  input = given.0;
  gave = given.2;
  on = ends_too_long c given.0 (omega (arith, given.1));
  most = omega (arith, given.1);
  whole = λ short. absurd (omega (arith, given.1, short));
}

-- what an input gives is within the limits of a session
few_planners : (c : Command) → planners_of c ≤ PLANNERS
few_planners command.Stairs = omega arith
few_planners command.Check = omega arith
few_planners (command.Compress section) = omega arith
few_planners command.Report = omega arith
few_planners (command.Headways section) = omega arith
few_planners (command.Cut section) = omega arith
few_planners (command.Cycle section) = omega arith
few_planners (command.Delays section delays) = omega arith
few_planners (command.Fill section run) = omega arith
few_planners (command.Session workers) = omega arith

pub within_limits : (c : Command) (planners : ℕ) (input : List ℕ) (rows : List Row) (given : Accepted) → planners ≡ planners_of c
    → rows ≡ rows_of input → length input ≤ INPUT_BYTES → IsWithin planners (length rows) given
    → IsWithin PLANNERS INPUT_BYTES given
within_limits c planners input rows given takes is short within = record {
  scripts = omega (arith, within.scripts, takes, few_planners c);
  tasks = within.tasks;
  edits = omega (arith, within.edits, ap length is, row_count input, short);
}

-- ---- what may be said of an outcome that the call may have

pub reply_more : (MayEnd MayEnd2 : Outcome → Type 0) (reply : CallReply) → ((outcome : Outcome) → MayEnd outcome → MayEnd2 outcome)
    → IsCallReply MayEnd reply → IsCallReply MayEnd2 reply
reply_more MayEnd MayEnd2 reply more is = record { outcome = is.outcome; ends = more is.outcome is.ends; said = is.said }

pub found_more : (c : Command) (MayEnd MayEnd2 : Outcome → Type 0) (found : Result Accepted CallReply)
    → ((outcome : Outcome) → MayEnd outcome → MayEnd2 outcome) → GivesOrRefuses c MayEnd found → GivesOrRefuses c MayEnd2 found
found_more c MayEnd MayEnd2 (Ok given) more is = record {
  within = is.within;
  ends = λ outcome ends. more outcome (is.ends outcome ends);
}
found_more c MayEnd MayEnd2 (Err reply) more is = reply_more MayEnd MayEnd2 reply more is

pub found_at_end : (X : Type 0) (found : Result Accepted CallReply) → X
    → MatchResult found (λ given. X) (λ reply. reply.status ≡ status.Done → X)
found_at_end X (Ok given) end = end
found_at_end X (Err reply) end = λ is. end

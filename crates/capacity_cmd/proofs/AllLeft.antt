-- The outcome on the bytes that reads gave is that on all bytes that a source had left, where it tells them.
use Rattle.std.proofs.Common.{◌≡◌, ℕ, ◌≤◌, List, ◌++◌, length, Option, Some, None, inl, inr, sym, ap, ◌∙◌, subst, arith, length-append}
use Rattle.std.specs.Io.KnownBytes.{Consumes, IsAtEnd}
use Rattle.std.proofs.lemmas.List.{append-nil}
use Rattle.std.proofs.lemmas.Bool.{cases_lt}
use Rattle.rail_outside.specs.InCall.{SourceInCall}
use Rattle.capacity_cmd.specs.declared.command.Command.{Command}
use Rattle.capacity_cmd.specs.declared.status.Cause.TheVariants as cause
use Rattle.capacity_cmd.specs.declared.limit.TheConstants.{INPUT_BYTES}
use Rattle.capacity_cmd.specs.Command.{planners_of}
use Rattle.capacity_cmd.specs.Outcome.{Outcome, Refuses}
use Rattle.capacity_cmd.specs.Ends.{Ends, EndsOn}
use Rattle.capacity_cmd.specs.Promise.{IsEnd}
use Rattle.capacity_cmd.proofs.Outcomes.{content_of_long, ends_too_long}

on_all : (c : Command) (outcome : Outcome) (input all : List ℕ) (left : Option (List ℕ)) → Consumes (Some all) left input
    → EndsOn c input outcome → (length input ≤ INPUT_BYTES → IsAtEnd left) → EndsOn c all outcome
on_all c outcome input all None gave on end = absurd gave
on_all c outcome input all (Some rest) gave on end = elim (cases_lt INPUT_BYTES (length input)) [
  | inl long ↦
      let is : outcome ≡ Refuses 0 cause.TooLong
      = subst (λ content. Ends c content outcome) (content_of_long (planners_of c) input long) on in
      subst (EndsOn c all) (sym is) (ends_too_long c all (omega (arith, long, ap length gave, length-append {A = ℕ})))
  | inr short ↦
      let same = gave ∙ ap (λ more. input ++ more) (end short) ∙ append-nil input in
      subst (λ bytes. EndsOn c bytes outcome) (sym same) on
]

pub ends_on_all : {S : Type 0} (c : Command) (source : SourceInCall S) (outcome : Outcome) (all : List ℕ)
    → source.left source.before ≡ Some all → IsEnd c source outcome → EndsOn c all outcome
ends_on_all c source outcome all told is =
    on_all c outcome is.input all (source.left source.after)
    (subst (λ before. Consumes before (source.left source.after) is.input) told is.gave.0) is.on
    λ short. (is.whole short).left

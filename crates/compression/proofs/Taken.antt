-- What an answer leaves of the reading that it is made from.
use Rattle.std.proofs.Common.{◌≡◌, inl, inr, ap}
use Rattle.std.proofs.lemmas.Bool.{cases_lt}
use Rattle.plan_model.specs.declared.limits.TheConstants.{MEMBERS}
use Rattle.plan_model.specs.Members.{member_count}
use Rattle.plan_model.specs.Reading.{Shown}
use Rattle.compression.specs.Promise.{IsTaken}

-- an answer that is worked out leaves the cut and the number
pub kept_cut : (before after : Shown) → IsTaken before after → (after.cut ≡ before.cut) × (after.at ≡ before.at)
kept_cut before after taken =
    elim (cases_lt MEMBERS (member_count before.cut)) [
      | inl many ↦ let same = taken.nothing many in (ap (λ (s : Shown). s.cut) same, ap (λ (s : Shown). s.at) same)
      | inr few ↦ let same = taken.all few in (ap (λ (s : Shown). s.cut) same, ap (λ (s : Shown). s.at) same)
    ]

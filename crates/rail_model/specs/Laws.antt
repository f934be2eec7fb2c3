-- Laws of edits.
use Rattle.std.specs.Prelude.{◌≡◌, ◌<◌, List, length, take, Some, slice_index_or}
use Rattle.rail_model.specs.Types.{Edit, Tables}
use Rattle.rail_model.specs.Rules.{rule_of, IsSound, Refused, after_edits, first_refused, AreAccepted}

-- sound tables stay sound by edits that no rule refuses
abbrev pub SoundAfterEdits : Type 0
SoundAfterEdits =
    (tables : Tables) (edits : List Edit) → IsSound tables → AreAccepted tables edits
    → IsSound (after_edits tables edits)

-- the edits before this one are accepted, and the rule refuses it in the tables that they leave
pub record IsFirstRefused (tables : Tables) (edits : List Edit) (refused : Refused) : Type 0 where
  pub there : refused.place < length edits
  pub before : AreAccepted tables (take refused.place edits)
  pub rule : (d : Edit)
      → rule_of (after_edits tables (take refused.place edits)) (slice_index_or edits refused.place d) ≡ Some refused.rule

-- an edit that is refused is the first
abbrev pub RefusedIsFirst : Type 0
RefusedIsFirst =
    (tables : Tables) (edits : List Edit) (refused : Refused) → first_refused tables edits ≡ Some refused
    → IsFirstRefused tables edits refused

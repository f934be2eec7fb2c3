-- Laws of the made line's scripts.
use Rattle.std.specs.Prelude.{◌≡◌, ℕ, List, length}
use Rattle.std.specs.List.Sorted.{IsPermutation}
use Rattle.rail_model.specs.declared.edit.Edit.{Edit}
use Rattle.rail_model.specs.declared.tables.Tables.{Tables}
use Rattle.rail_model.specs.Rules.{after_edits, AreAccepted}
use Rattle.plan_model.specs.declared.journal.Entry.{Entry}
use Rattle.plan_model.specs.Journal.{tables_of, edits}
use Rattle.plan_model.specs.Session.{IsSession}
use Rattle.made_line.specs.declared.counts.TheConstants.{SCRIPT_EDITS}
use Rattle.made_line.specs.Base.{scripts_of_made, base_tables}
use Rattle.made_line.specs.Later.{edits_in, later_tables}

-- no rule refuses one of the edits, and they leave these tables
pub record Make (tables : Tables) (edits : List Edit) (later : Tables) : Type 0 where
  pub accepted : AreAccepted tables edits
  pub after : after_edits tables edits ≡ later

-- in whatever order the edits of the scripts are made over the base, no rule refuses one, and they leave the same tables
abbrev pub AnyOrderMakesOne : Type 0
AnyOrderMakesOne =
    (n : ℕ) (edits : List Edit) → IsPermutation (edits_in (scripts_of_made n)) edits
    → Make (base_tables n) edits (later_tables n)

-- a journal has made the edits of all scripts, each once, in some order: it has so many edits, and leaves these tables
pub record HasMadeAll (n : ℕ) (journal : List Entry) : Type 0 where
  pub each_once : IsPermutation (edits_in (scripts_of_made n)) (edits journal)
  pub count : length (edits journal) ≡ SCRIPT_EDITS
  pub tables : tables_of journal ≡ later_tables n

-- the journal of a session of the scripts over the base has made all, with whatever workers
abbrev pub EachSessionMakesAll : Type 0
EachSessionMakesAll =
    (n at workers : ℕ) (journal : List Entry) → IsSession (base_tables n) at (scripts_of_made n) workers journal
    → HasMadeAll n journal

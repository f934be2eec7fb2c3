-- The journal as the list of entries that a desk keeps: it is legal where each planner keeps to its script, too.
use Rattle.std.specs.Prelude.{[]}
use Rattle.plan_model.specs.declared.journal.Entry.{Entry}
use Rattle.plan_model.specs.Journal.{issued}
use Rattle.plan_model.specs.Legal.{IsJournal}
use Rattle.plan_model.proofs.Growing as growing
use Rattle.plan_model.proofs.Legality as legality
use Rattle.turn_desk.specs.Journal.{NeverIssuesFewer, HasLegalPrefixes}

-- a longer journal has issued no fewer passes
pub longer_issues_no_fewer : NeverIssuesFewer {E = Entry} issued
longer_issues_no_fewer xs ys = growing.longer_issues_no_fewer xs ys

-- a journal has an entry
pub legal_has_one : IsJournal [] → ⊥
legal_has_one h = h.legal

-- each beginning of a journal, with an entry at least, is one
pub prefixes_are_legal : HasLegalPrefixes {E = Entry} IsJournal
prefixes_are_legal e xs ys h = legality.beginning_is_journal e xs ys h

-- What a worker keeps.
use Rattle.std.proofs.Common.{◌≡◌, ◌≢◌, ℕ, List, [], ◌++◌, Option, None, Some, refl, sym, ap, ◌∙◌, subst, append_assoc}
use Rattle.std.specs.Prelude.{Bool, true, false, if◌then◌else◌, unwrap_or, Contains, All, IfSome}
use Rattle.std.specs.Ordering.{nat_cmp, is_eq}
use Rattle.std.specs.Cmp.Lexicographic.{slice_cmp}
use Rattle.std.specs.BTreeMap.{BTreeMap, is_at, UpdatesBy}
use Rattle.std.specs.declared.cmp.Ordering.{Ordering}
use Rattle.std.specs.declared.cmp.Ordering.TheVariants.{Less, Equal, Greater}
use Rattle.std.proofs.lemmas.Bool.{false≢true}
use Rattle.std.proofs.lemmas.List.{get_or_default}
use Rattle.std.proofs.lemmas.Option.{none-some}
use Rattle.rail_model.specs.Name.{is_same}
use Rattle.rail_model.proofs.NameOrder.{same_name, is_same-from, is_same-equal}
use Rattle.std.proofs.lemmas.List.Elements.{All-nil}
use Rattle.plan_model.specs.declared.cut.Cut.{Cut}
use Rattle.plan_model.specs.declared.journal.Entry.{Entry}
use Rattle.plan_model.specs.Reading.{Shown}
use Rattle.plan_model.specs.Call.{GoesOn}
use Rattle.plan_model.specs.Journal.{last_number}
use Rattle.plan_model.specs.Legal.{IsLegal, IsReading}
use Rattle.plan_model.proofs.Stamps.{stamp_tells_row}
use Rattle.plan_repair.specs.Kept.{kept_of, AgreesWith}
use Rattle.section_worker.specs.declared.worker.KeptReading.{KeptReading}
use Rattle.section_worker.specs.Keeping.{Working, kept_for, kept_reading, WasRead, KeepsWhatWasRead, KeepsRows, Keeps, Forgets}
use Rattle.plan_model.proofs.Readings.{reading_name}

-- what was read of a beginning of a journal was read of the journal
pub still_read : (seen more : List Entry) (section : List ℕ) (h : KeptReading) → WasRead seen section h
    → WasRead (seen ++ more) section h
still_read seen more section h r = record {
  found = r.found;
  more = r.more ++ more;
  is = ap (λ j. j ++ more) r.is ∙ append_assoc r.found r.more more;
  legal = r.legal;
  at = r.at;
  cut = r.cut;
  reading = r.reading;
  name = r.name;
  rows = r.rows;
}

pub still_kept : (w : Working) (numbers : List ℕ) (seen found : List Entry) → GoesOn numbers seen found
    → KeepsWhatWasRead w seen → KeepsWhatWasRead w found
still_kept w numbers seen found g keeps =
    λ section h is. subst (λ j. WasRead j section h) (sym g.is)
    (still_read seen g.more section h (keeps section h is))

-- what is kept agrees with each later reading of the section
pub agrees : (w : Working) (journal : List Entry) (name : List ℕ) (cut : Cut) → IsLegal journal
    → IsReading journal name cut
    → KeepsWhatWasRead w journal → IfSome (kept_for w cut.section.name) (λ h. AgreesWith h.keep cut)
agrees w journal name cut legal reading keeps =
    let section = cut.section.name in
    let here : IsReading journal section cut = subst (λ n. IsReading journal n cut)
    (sym (reading_name journal name cut reading)) reading in
    let go : (o : Option KeptReading) → kept_for w section ≡ o → IfSome o (λ h. AgreesWith h.keep cut) =
    elim [
      | None ↦ λ is. tt
      | Some h ↦ λ is.
          let r = keeps section h is in
          record {
            section = r.name;
            rows = λ kept row there later names stamps.
                stamp_tells_row r.found r.more section r.cut cut kept row r.legal (subst IsLegal r.is legal) r.reading
                (subst (λ j. IsReading j section cut) r.is here)
                (subst (Contains r.cut.rows) there.2 (r.rows there.0 kept there.1)) later names stamps;
          }
    ] in
    go _ refl

-- ---- names as keys

same_key : (s o : List ℕ) → is_at (slice_cmp nat_cmp s) o ≡ true → s ≡ o
same_key s o =
    let go : (c : Ordering) → slice_cmp nat_cmp s o ≡ c → is_eq c ≡ true → s ≡ o =
    elim [
      | Less ↦ λ e h. absurd (cc)
      | Equal ↦ λ e h. same_name s o (is_same-equal s o e)
      | Greater ↦ λ e h. absurd (cc)
    ] in
    go _ refl

pub other_key : (s o : List ℕ) → o ≢ s → is_at (slice_cmp nat_cmp s) o ≡ false
other_key s o ne =
    let go : (b : Bool) → is_at (slice_cmp nat_cmp s) o ≡ b → b ≡ false =
    elim [ true ↦ λ e. absurd (ne (sym (same_key s o e))) | false ↦ λ e. refl ] in
    go _ refl

-- ---- after a turn

all_kept : (cut : Cut) (b : Bool) → All (Contains cut.rows) (if b then [] else cut.rows)
all_kept cut true = All-nil (Contains cut.rows)
all_kept cut false = λ k d l. (k, l, get_or_default cut.rows k _ d l)

-- the rows of a reading are kept as they were read
pub keeps_rows : (w later : Working) (cut : Cut) (at : ℕ) (found more : List Entry) (name : List ℕ) → IsLegal found
    → IsReading found name cut → at ≡ last_number found → KeepsRows cut at w later
    → KeepsWhatWasRead w (found ++ more)
    → KeepsWhatWasRead later (found ++ more)
keeps_rows w later cut at found more name legal reading at_is k keeps = λ section h is.
    let new : KeptReading = record { at = at; keep = kept_of cut } in
    let go : (b : Bool) → is_same section cut.section.name ≡ b → WasRead (found ++ more) section h =
    elim [
      | true ↦ λ e.
          let same = same_name section cut.section.name e in
          let held : new ≡ h = ap (λ o. unwrap_or o h) (sym k.rows ∙ ap (kept_for later) (sym same) ∙ is) in
          subst (λ x. WasRead (found ++ more) section x) held record {
            found = found;
            more = more;
            is = refl;
            legal = legal;
            at = at_is;
            cut = cut;
            reading = subst (λ n. IsReading found n cut)
                (sym (reading_name found name cut reading) ∙ sym same) reading;
            name = sym same;
            rows = all_kept cut _;
          }
      | false ↦ λ e. keeps section h (sym (k.others section
          (λ same. false≢true (sym e ∙ is_same-from section cut.section.name same))) ∙ is)
    ] in
    go _ refl

-- what is forgotten needs no reading
pub keeps_less : (section : List ℕ) (w later : Working) (journal : List Entry) → Forgets section w later
    → KeepsWhatWasRead w journal → KeepsWhatWasRead later journal
keeps_less section w later journal f keeps = λ other h is.
    let go : (b : Bool) → is_same other section ≡ b → WasRead journal other h =
    elim [
      | true ↦ λ e. absurd (none-some _ (sym f.gone ∙ ap (kept_for later) (sym (same_name other section e)) ∙ is))
      | false ↦ λ e. keeps other h (sym (f.others other (λ same. false≢true
          (sym e ∙ is_same-from other section same))) ∙ is)
    ] in
    go _ refl

-- ---- the map of what is kept

module _ (share of actor : ℕ) (section : List ℕ) where
  abbrev worker : BTreeMap (List ℕ) KeptReading → Working
  worker kept = record { share = share; of = of; actor = actor; kept = kept.entries }

  abbrev Sets : BTreeMap (List ℕ) KeptReading → BTreeMap (List ℕ) KeptReading → Option KeptReading → Type 0
  Sets old new h = UpdatesBy (slice_cmp nat_cmp) (slice_cmp nat_cmp section) old new h

  pub forgets : (old new : BTreeMap (List ℕ) KeptReading) → Sets old new None → Forgets section (worker old) (worker new)
  forgets old new u = record { gone = u.1; others = λ other ne. u.2 other (other_key section other ne) }

  pub keeps : (old new : BTreeMap (List ℕ) KeptReading) (h : KeptReading) → Sets old new (Some h)
      → Keeps section h (worker old) (worker new)
  keeps old new h u = record { kept = u.1; others = λ other ne. u.2 other (other_key section other ne) }

-- what is kept is taken, and the rows of a reading are kept in its place
pub keeps_new : (section : List ℕ) (shown : Shown) (w mid later : Working) (h : KeptReading)
    → section ≡ shown.cut.section.name → h ≡ kept_reading shown → Forgets section w mid → Keeps section h mid later
    → KeepsRows shown.cut shown.at w later
keeps_new section shown w mid later h named is f k = record {
  rows = ap (kept_for later) (sym named) ∙ k.kept ∙ ap (λ x. Some x) is;
  others = λ other ne.
      let apart : other ≢ section = λ e. ne (e ∙ named) in
      k.others other apart ∙ f.others other apart;
}

-- ---- what is kept of a section and then forgotten

pub forget_then : (section : List ℕ) (cut : Cut) (at : ℕ) (w mid later : Working) → section ≡ cut.section.name
    → KeepsRows cut at w mid
    → Forgets section mid later → Forgets cut.section.name w later
forget_then section cut at w mid later named k f = record {
  gone = ap (kept_for later) (sym named) ∙ f.gone;
  others = λ other ne. f.others other (λ e. ne (e ∙ named)) ∙ k.others other ne;
}

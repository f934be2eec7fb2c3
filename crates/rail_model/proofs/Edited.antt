-- Lists of edits: what is accepted, what is refused first, and what they keep.
use Rattle.std.proofs.Common.{◌≡◌, ℕ, suc, List, [], ◌∷◌, ◌++◌, length, take, Option, Some, None, refl, sym, ap, ◌∙◌, subst, add-one, arith}
use Rattle.std.specs.Prelude.{option_map, unwrap_or}
use Rattle.std.specs.Option.{option_or}
use Rattle.rail_model.specs.declared.edit.Edit.{Edit}
use Rattle.rail_model.specs.declared.edit.Rule.{Rule}
use Rattle.rail_model.specs.declared.tables.Tables.{Tables}
use Rattle.rail_model.specs.Rules.{after, rule_of, Refused, one_further, after_edits, first_refused, AreAccepted}
use Rattle.rail_model.specs.Laws.{SoundAfterEdits, IsFirstRefused, RefusedIsFirst}
use Rattle.rail_model.proofs.Sound.{IsSound-after}

-- the edit at a place, refused by a rule
abbrev pub at_place : ℕ → Rule → Refused
at_place place rule = record { place = place; rule = rule }

-- the first of an edit and of those after it
abbrev first_of_both : Option Rule → Option Refused → Option Refused
first_of_both rule later = option_or (option_map (at_place 0) rule) (option_map one_further later)

neither : (rule : Option Rule) (later : Option Refused) → first_of_both rule later ≡ None
    → (rule ≡ None) × (later ≡ None)
neither None None h = (refl, refl)
neither None (Some r) h = absurd (cc)
neither (Some rule) later h = absurd (cc)

-- edits are accepted where the first is, and the others after it
pub accepted_first : (tables : Tables) (e : Edit) (edits : List Edit)
    → AreAccepted tables (e ∷ edits)
    → (rule_of tables e ≡ None) × AreAccepted (after tables e) edits
accepted_first tables e edits h = neither (rule_of tables e) (first_refused (after tables e) edits) h

pub accepted_from : (tables : Tables) (e : Edit) (edits : List Edit) → rule_of tables e ≡ None
    → AreAccepted (after tables e) edits → AreAccepted tables (e ∷ edits)
accepted_from tables e edits none rest = rw (none, rest) refl

pub sound_after_edits : SoundAfterEdits
sound_after_edits tables [] sound accepted = sound
sound_after_edits tables (e ∷ edits) sound accepted =
    let both = accepted_first tables e edits accepted in
    sound_after_edits (after tables e) edits (IsSound-after tables e sound both.0) both.1

-- ---- one edit more

alone : (rule : Option Rule) → first_of_both rule None ≡ option_map (at_place 0) rule
alone None = refl
alone (Some rule) = refl

further : (n : ℕ) (rule : Option Rule)
    → option_map one_further (option_map (at_place n) rule) ≡ option_map (at_place (suc n)) rule
further n None = refl
further n (Some rule) = ap (λ k. Some (at_place k rule)) (add-one n)

-- after accepted edits one more is refused as the tables that they leave refuse it
pub accepted_more : (tables : Tables) (edits : List Edit) (e : Edit) → AreAccepted tables edits
    → first_refused tables (edits ++ e ∷ []) ≡ option_map (at_place (length edits)) (rule_of (after_edits tables edits) e)
accepted_more tables [] e accepted = alone (rule_of tables e)
accepted_more tables (a ∷ edits) e accepted =
    let both = accepted_first tables a edits accepted in
    rw both.0 (ap (option_map one_further) (accepted_more (after tables a) edits e both.1)
    ∙ further (length edits) (rule_of (after_edits (after tables a) edits) e))

-- ---- the first that is refused

still : (rule : Option Rule) (later more : Option Refused) (refused : Refused)
    → ((r : Refused) → later ≡ Some r → more ≡ Some r) → first_of_both rule later ≡ Some refused
    → first_of_both rule more ≡ Some refused
still (Some rule) later more refused keeps h = h
still None None more refused keeps h = absurd (cc)
still None (Some r) more refused keeps h = rw (keeps r refl) h

-- it stays the first before further edits
pub refused_still : (tables : Tables) (edits further : List Edit) (refused : Refused)
    → first_refused tables edits ≡ Some refused
    → first_refused tables (edits ++ further) ≡ Some refused
refused_still tables [] further refused h = absurd (cc)
refused_still tables (e ∷ edits) further refused h =
    still (rule_of tables e) (first_refused (after tables e) edits) (first_refused (after tables e) (edits ++ further)) refused
    (λ r. refused_still (after tables e) edits further r) h

some_same : (one other : Refused) → Some one ≡ Some other → one ≡ other
some_same one other h = ap (λ r. unwrap_or r one) h

first_alone : (tables : Tables) (e : Edit) (edits : List Edit) (rule : Rule)
    → rule_of tables e ≡ Some rule → IsFirstRefused tables (e ∷ edits) (at_place 0 rule)
first_alone tables e edits rule h = record { there = omega arith; before = refl; rule = λ d. h }

first_later : (tables : Tables) (e : Edit) (edits : List Edit) (r : Refused)
    → rule_of tables e ≡ None → IsFirstRefused (after tables e) edits r
    → IsFirstRefused tables (e ∷ edits) (one_further r)
first_later tables e edits r none first =
    subst (λ k. IsFirstRefused tables (e ∷ edits) (at_place k r.rule)) (sym (add-one r.place)) (record {
      there = omega (arith, first.there);
      before = accepted_from tables e (take r.place edits) none first.before;
      rule = first.rule;
    })

by_first : (tables : Tables) (e : Edit) (edits : List Edit) (refused : Refused)
    → ((r : Refused) → first_refused (after tables e) edits ≡ Some r → IsFirstRefused (after tables e) edits r)
    → (rule : Option Rule) (later : Option Refused) → rule_of tables e ≡ rule
    → first_refused (after tables e) edits ≡ later → first_of_both rule later ≡ Some refused
    → IsFirstRefused tables (e ∷ edits) refused
by_first tables e edits refused then (Some rule) later at_first at_later h =
    subst (IsFirstRefused tables (e ∷ edits)) (some_same (at_place 0 rule) refused h) (first_alone tables e edits rule at_first)
by_first tables e edits refused then None None at_first at_later h = absurd (cc)
by_first tables e edits refused then None (Some r) at_first at_later h =
    subst (IsFirstRefused tables (e ∷ edits)) (some_same (one_further r) refused h)
    (first_later tables e edits r at_first (then r at_later))

pub refused_is_first : RefusedIsFirst
refused_is_first tables [] refused h = absurd (cc)
refused_is_first tables (e ∷ edits) refused h =
    by_first tables e edits refused (λ r. refused_is_first (after tables e) edits r) (rule_of tables e)
    (first_refused (after tables e) edits) refl refl h

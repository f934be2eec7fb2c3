-- Sections are made current one after the other, in the order of names.
use Rattle.std.proofs.Common.{◌≡◌, ℕ, ◌+◌, ◌<◌, ◌≤◌, List, [], ◌∷◌, ◌++◌, length, zip, refl, sym, ap, ◌∙◌, subst, inl, inr, arith, append_assoc, append-nil}
use Rattle.std.proofs.lemmas.Bool.{cases_lt}
use Rattle.std.proofs.lemmas.List.{get_or_default, length_push}
use Rattle.std.proofs.lemmas.List.Elements.{All-nil, All-push, All-tail}
use Rattle.std.proofs.lemmas.List.Quantifiers.{all_pairs_push}
use Rattle.std.specs.Prelude.{All}
use Rattle.rail_model.specs.Name.{IsBefore}
use Rattle.rail_model.specs.Tables.{no_section, section_at}
use Rattle.plan_model.specs.declared.journal.Act.TheVariants as act
use Rattle.plan_model.specs.declared.journal.Entry.{Entry}
use Rattle.plan_model.specs.Reading.{Shown}
use Rattle.plan_model.specs.Journal.{edits, last_number, tables_of}
use Rattle.plan_model.specs.Legal.{IsCurrent, IsLegal}
use Rattle.plan_model.specs.JournalLaws.{KeepsTables}
use Rattle.plan_model.specs.Outcome.{section_name, ShareIsCurrent, IsNextReading}
use Rattle.plan_model.specs.Session.{IsPublicationAt, AllAreCurrent}
use Rattle.plan_model.proofs.Growing.{others_keep_tables}
use Rattle.plan_model.proofs.Legality.{legal_has_one, tables_are_sound}
use Rattle.plan_model.proofs.Touching.{current_without_edits}
use Rattle.session_run.specs.Turns.{IsPublication, PublishesNow, HasCaughtUp, IsCatchingUp}
use Rattle.plan_model.proofs.Readings.{next_name}
use Rattle.session_run.proofs.Publishing.{published_is_current}

zip_push : {X Y : Type 0} (xs : List X) (ys : List Y) (x : X) (y : Y) → length ys ≡ length xs
    → zip (xs ++ x ∷ []) (ys ++ y ∷ []) ≡ zip xs ys ++ (x, y) ∷ []
zip_push [] [] x y h = refl
zip_push [] (b ∷ ys) x y h = absurd (omega (arith, h))
zip_push (a ∷ xs) [] x y h = absurd (omega (arith, h))
zip_push (a ∷ xs) (b ∷ ys) x y h = ap (λ r. (a, b) ∷ r) (zip_push xs ys x y (omega (arith, h)))

-- publications make no edit
pub no_edits : (es : List Entry) → All IsPublication es → edits es ≡ []
no_edits [] h = refl
no_edits (e ∷ es) h =
    let first : IsPublication e = h 0 e (omega arith) in
    rw first.is (no_edits es (All-tail IsPublication e es h))

-- so they leave the tables
pub leave_tables : (found publications : List Entry) → 0 < length found → All IsPublication publications
    → KeepsTables found (found ++ publications)
leave_tables found publications some made = others_keep_tables found publications some (no_edits publications made)

pub nothing_yet : (found : List Entry) → IsCatchingUp 0 found found
nothing_yet found = record {
  publications = [];
  names = [];
  is = sym (append-nil found);
  count = refl;
  each = All-nil _;
  rise = λ i j d l m. absurd (omega (arith, m));
  made = All-nil _;
  below = 0;
  least = omega arith;
  current = λ n l there. absurd (omega (arith, l));
  before = λ n l there. All-nil _;
}

-- ---- one section more

module _ (steps : ℕ) (found now : List Entry) (shown : Shown) (some : 0 < length found) (h : IsCatchingUp steps found now) (r : IsNextReading 0 1 now shown) where
  abbrev name : List ℕ
  name = section_name now r.number

  past : h.below ≤ r.number
  past = elim (cases_lt r.number h.below) [
    | inl l ↦ absurd (r.wanted (h.current r.number l r.of_share.there))
    | inr l ↦ l
  ]

  module _ (after : List Entry) (p : PublishesNow name now after) where
    abbrev e : Entry
    e = record { pass = 0; act = act.Published name (last_number now) p.answer }

    some_now : 0 < length now
    some_now = legal_has_one now p.legal_found

    legal : IsLegal (now ++ e ∷ [])
    legal = subst IsLegal p.is p.legal

    same_tables : tables_of (now ++ e ∷ []) ≡ tables_of now
    same_tables = (others_keep_tables now (e ∷ []) some_now refl).tables

    same_number : last_number now ≡ last_number found
    same_number = ap last_number h.is ∙ (leave_tables found h.publications some h.made).number

    same_section : (n : ℕ) → section_name now n ≡ section_name (now ++ e ∷ []) n
    same_section n = ap (λ t. (section_at t n).name) (sym same_tables)

    current_now : (n : ℕ) → n < r.number + 1 → n < length (tables_of now).sections → IsCurrent (now ++ e ∷ []) (section_name now n)
    current_now n l there =
        elim (cases_lt n r.number) [
          | inl earlier ↦
              current_without_edits now (e ∷ []) (section_name now n) some_now legal refl
              (r.first n earlier (record { there = there; rest = omega arith }))
          | inr later ↦
              let same : r.number ≡ n = omega arith in
              subst (λ m. IsCurrent (now ++ e ∷ []) (section_name now m)) same
              (published_is_current now e name p.answer some_now refl)
        ]

    names_before : (n : ℕ) → r.number + 1 ≤ n → n < length (tables_of now).sections
        → All (λ m. IsBefore m (section_name now n)) (h.names ++ name ∷ [])
    names_before n l there =
        All-push (λ m. IsBefore m (section_name now n)) h.names name
        (h.before n (omega (arith, past, l)) there)
        ((tables_are_sound now p.legal_found).now.sections.names r.number n no_section (omega (arith, l)) there)

    here : IsCatchingUp (steps + 1) found (now ++ e ∷ [])
    here = record {
      publications = h.publications ++ e ∷ [];
      names = h.names ++ name ∷ [];
      is = ap (λ es. es ++ e ∷ []) h.is ∙ append_assoc found h.publications (e ∷ []);
      count = omega (arith, h.count, length_push h.publications e, length_push h.names name);
      each =
          let P = λ (q : List ℕ × Entry). IsPublicationAt (last_number found) q.0 q.1 in
          subst (All P) (sym (zip_push h.names h.publications name e h.count))
          (All-push P (zip h.names h.publications) (name, e) h.each
          (record { answer = p.answer; is = ap (λ n. act.Published name n p.answer) same_number }));
      rise = all_pairs_push IsBefore h.names name h.rise (h.before r.number past r.of_share.there);
      made =
          All-push IsPublication h.publications e h.made
          (record { section = name; at = last_number now; answer = p.answer; pass = refl; is = refl });
      below = r.number + 1;
      least = omega (arith, h.least, past);
      current = λ n l there.
          subst (IsCurrent (now ++ e ∷ [])) (same_section n)
          (current_now n l (subst (λ t. n < length t.sections) same_tables there));
      before = λ n l there.
          subst (λ s. All (λ m. IsBefore m s) (h.names ++ name ∷ [])) (same_section n)
          (names_before n l (subst (λ t. n < length t.sections) same_tables there));
    }

    answered : IsCatchingUp (steps + 1) found after
    answered = subst (IsCatchingUp (steps + 1) found) (sym p.is) here

  pub one_more : (after : List Entry) → PublishesNow shown.cut.section.name now after → IsCatchingUp (steps + 1) found after
  one_more after p = answered after (subst (λ s. PublishesNow s now after) (next_name 0 1 now shown r) p)

-- ---- the end

module _ (steps : ℕ) (found now : List Entry) (h : IsCatchingUp steps found now) where
  caught_up : ((n : ℕ) → n < length (tables_of now).sections → IsCurrent now (section_name now n)) → HasCaughtUp found now
  caught_up all = record {
    publications = h.publications;
    is = h.is;
    up_to_date = record {
      names = h.names;
      count = h.count;
      each = h.each;
      rise = h.rise;
      current = subst AllAreCurrent h.is (λ k d l.
          subst (λ s. IsCurrent now s.name) (get_or_default (tables_of now).sections k no_section d l) (all k l));
    };
    made = h.made;
  }

  -- where nothing is left to read
  pub all_answered : ShareIsCurrent 0 1 now → HasCaughtUp found now
  all_answered share = caught_up (λ n there. share n (record { there = there; rest = omega arith }))

  -- where there were as many steps as there are sections
  pub enough_steps : 0 < length found → length (tables_of found).sections ≤ steps → HasCaughtUp found now
  enough_steps some many =
      let same : tables_of now ≡ tables_of found =
      ap tables_of h.is ∙ (leave_tables found h.publications some h.made).tables in
      caught_up (λ n there.
      h.current n (omega (arith, there, ap (λ t. length t.sections) same, many, h.least)) there)

-- Laws on a journal that grows by entries of others and by own ones.
use Rattle.std.proofs.Common.{◌≡◌, ◌⊎◌, ℕ, ◌≤◌, List, [], ◌∷◌, ◌++◌, length, sym, ap, ◌∙◌, subst, refl, inl, inr}
use Rattle.std.proofs.Common.{append_assoc, append-nil, length-append, arith}
use Rattle.std.specs.Prelude.{All, Contains, Bool, true, false, nat_lt, if◌then◌else◌}
use Rattle.std.proofs.lemmas.Bool.Decides.{nat_tests}
use Rattle.std.proofs.lemmas.List.Elements.{All-nil, All-cons, All-head, All-tail, All-append, All-weaker}
use Rattle.std.proofs.lemmas.List.Elements.{Contains-append_cases}
use Rattle.turn_desk.specs.Journal.{IsOthers, GoesOn, OneGoesOn, AddsOwn}
use Rattle.turn_desk.specs.Views.{longer}

module _ {X : Type 0} (P : X → Type 0) where
  pub all_left : (xs ys : List X) → All P (xs ++ ys) → All P xs
  all_left [] ys h = All-nil P
  all_left (x ∷ xs) ys h = All-cons P x xs (All-head P x (xs ++ ys) h) (all_left xs ys (All-tail P x (xs ++ ys) h))

  pub all_right : (xs ys : List X) → All P (xs ++ ys) → All P ys
  all_right [] ys h = h
  all_right (x ∷ xs) ys h = all_right xs ys (All-tail P x (xs ++ ys) h)

  -- of two prefixes of one list the longer goes on from the shorter
  pub ahead : (xs ys us ws : List X) → xs ++ us ≡ ys ++ ws → All P us → length xs ≤ length ys → (more : List X)
      × (ys ≡ xs ++ more) × All P more
  ahead [] ys us ws e h l = (ys, refl, all_left ys ws (subst (All P) e h))
  ahead (x ∷ xs) [] us ws e h l = absurd (omega arith)
  ahead (x ∷ xs) (y ∷ ys) us ws e h l =
      let tails : xs ++ us ≡ ys ++ ws = cc in
      let heads : x ≡ y = cc in
      let t = ahead xs ys us ws tails h (omega arith) in
      (t.0, (λ i. sym heads i ∷ t.1 i), t.2)

  -- what holds of the rest after the shorter holds of the rest after the longer
  pub rest_after : (xs ys us ws : List X) → xs ++ us ≡ ys ++ ws → All P us → length xs ≤ length ys → All P ws
  rest_after [] ys us ws e h l = all_right ys ws (subst (All P) e h)
  rest_after (x ∷ xs) [] us ws e h l = absurd (omega arith)
  rest_after (x ∷ xs) (y ∷ ys) us ws e h l = let tails : xs ++ us ≡ ys ++ ws = cc in
      rest_after xs ys us ws tails h (omega arith)

module _ {E : Type 0} where
  no_more : (xs more : List E) → length (xs ++ more) ≤ length xs → xs ++ more ≡ xs
  no_more xs [] l = append-nil xs
  no_more xs (x ∷ more) l = absurd (omega (arith, length-append xs (x ∷ more)))

  pub longer_is : (xs ys : List E) → ((longer xs ys ≡ xs) × (length ys ≤ length xs))
      ⊎ ((longer xs ys ≡ ys) × (length xs ≤ length ys))
  longer_is xs ys =
      let go : (b : Bool) → nat_lt (length xs) (length ys) ≡ b
      → (((if b then ys else xs) ≡ xs) × (length ys ≤ length xs))
      ⊎ (((if b then ys else xs) ≡ ys) × (length xs ≤ length ys)) =
      elim [ true ↦ λ e. inr (refl, grind (arith, nat_tests)) | false ↦ λ e. inl (refl, grind (arith, nat_tests)) ] in
      go _ refl

module _ {E : Type 0} (pass_of : E → ℕ) where
  pub adds_nothing : (number : ℕ) (found after : List E) → after ≡ found → AddsOwn pass_of number found after
  adds_nothing number found after e = record
      { own = []; is = e ∙ sym (append-nil found); made = All-nil (λ e. pass_of e ≡ number) }

  pub adds_one : (number : ℕ) (found after : List E) (e : E) → after ≡ found ++ e ∷ [] → pass_of e ≡ number
      → AddsOwn pass_of number found after
  adds_one number found after e is made = let P = λ (e : E). pass_of e ≡ number in
      record { own = e ∷ []; is = is; made = All-cons P e [] made (All-nil P) }

  pub goes_nowhere : (ns : List ℕ) (xs ys : List E) → xs ≡ ys → GoesOn pass_of ns xs ys
  goes_nowhere ns xs ys e = record {
    more = [];
    is = sym e ∙ sym (append-nil xs);
    others =
        All-nil (IsOthers pass_of ns);
  }

  -- own entries of another are entries of others
  pub goes_on-adds : (ns : List ℕ) (n : ℕ) (seen log log' : List E) → (Contains ns n → ⊥) → GoesOn pass_of ns seen log
      → AddsOwn pass_of n log log' → GoesOn pass_of ns seen log'
  goes_on-adds ns n seen log log' out g a = record {
    more = g.more ++ a.own;
    is = a.is ∙ (ap (λ xs. xs ++ a.own) g.is ∙ append_assoc seen g.more a.own);
    others = All-append (IsOthers pass_of ns) g.more a.own g.others
        (All-weaker (λ e. pass_of e ≡ n) (IsOthers pass_of ns) (λ e is h. out (subst (λ k. Contains ns k) is h)) a.own
        a.made);
  }

  pub goes_on-goes_on : (ns : List ℕ) (seen log log' : List E) → GoesOn pass_of ns seen log
      → GoesOn pass_of ns log log' → GoesOn pass_of ns seen log'
  goes_on-goes_on ns seen log log' g h = record {
    more = g.more ++ h.more;
    is = h.is ∙ (ap (λ xs. xs ++ h.more) g.is ∙ append_assoc seen g.more h.more);
    others = All-append (IsOthers pass_of ns) g.more h.more g.others h.others;
  }

  -- what has seen less goes on to what has seen more, where both go on to one journal
  pub goes_on-within : (ns ms : List ℕ) (xs ys log : List E) → GoesOn pass_of ns xs log → GoesOn pass_of ms ys log
      → length xs ≤ length ys → GoesOn pass_of ns xs ys
  goes_on-within ns ms xs ys log g h l =
      let t = ahead (IsOthers pass_of ns) xs ys g.more h.more (sym g.is ∙ h.is) g.others l in
      record { more = t.0; is = t.1; others = t.2 }

  pub goes_on-later : (ns ms : List ℕ) (xs ys log : List E) → GoesOn pass_of ns xs log → GoesOn pass_of ms ys log
      → length xs ≤ length ys → GoesOn pass_of ns ys log
  goes_on-later ns ms xs ys log g h l =
      record {
        more = h.more;
        is = h.is;
        others = rest_after (IsOthers pass_of ns) xs ys g.more h.more
            (sym g.is ∙ h.is) g.others l;
      }

  pub goes_on-both : (ns ms : List ℕ) (seen log : List E) → GoesOn pass_of ns seen log → GoesOn pass_of ms seen log
      → GoesOn pass_of (ns ++ ms) seen log
  goes_on-both ns ms seen log g h =
      let rest = rest_after (IsOthers pass_of ns) seen seen g.more h.more (sym g.is ∙ h.is) g.others (omega arith) in
      record {
        more = h.more;
        is = h.is;
        others = λ k d l c. elim (Contains-append_cases ns ms _ c)
            [ inl x ↦ rest k d l x | inr y ↦ h.others k d l y ];
      }

  -- where one seen part goes on from the other, the longer goes on from both
  pub agreed : (ns ms : List ℕ) (xs ys : List E) → OneGoesOn pass_of ns xs ms ys
      → GoesOn pass_of ns xs (longer xs ys) × GoesOn pass_of ms ys (longer xs ys)
  agreed ns ms xs ys (inl g) = elim (longer_is xs ys) [
    | inl e ↦ let same : ys ≡ xs = g.is ∙ no_more xs g.more (subst (λ zs. length zs ≤ length xs) g.is e.1) in
        (goes_nowhere ns xs _ (sym e.0), goes_nowhere ms ys _ (same ∙ sym e.0))
    | inr e ↦ (subst (λ zs. GoesOn pass_of ns xs zs) (sym e.0) g, goes_nowhere ms ys _ (sym e.0))
  ]
  agreed ns ms xs ys (inr g) = elim (longer_is xs ys) [
    | inl e ↦ (goes_nowhere ns xs _ (sym e.0), subst (λ zs. GoesOn pass_of ms ys zs) (sym e.0) g)
    | inr e ↦ let same : xs ≡ ys = g.is ∙ no_more ys g.more (subst (λ zs. length zs ≤ length ys) g.is e.1) in
        (goes_nowhere ns xs _ (same ∙ sym e.0), goes_nowhere ms ys _ (sym e.0))
  ]

  -- two prefixes of one journal, of which the longer has seen what the other has
  module _ (ns ms : List ℕ) (xs ys log : List E) (g : GoesOn pass_of ns xs log) (h : GoesOn pass_of ms ys log) where
    pub longer_begins : GoesOn pass_of (ns ++ ms) (longer xs ys) log
    longer_begins = elim (longer_is xs ys) [
      | inl e ↦ subst (λ zs. GoesOn pass_of (ns ++ ms) zs log) (sym e.0)
          (goes_on-both ns ms xs log g (goes_on-later ms ns ys xs log h g e.1))
      | inr e ↦ subst (λ zs. GoesOn pass_of (ns ++ ms) zs log) (sym e.0)
          (goes_on-both ns ms ys log (goes_on-later ns ms xs ys log g h e.1) h)
    ]

    pub one_goes_on : OneGoesOn pass_of ns xs ms ys
    one_goes_on = elim (longer_is xs ys) [
      | inl e ↦ inr (goes_on-within ms ns ys xs log h g e.1)
      | inr e ↦ inl (goes_on-within ns ms xs ys log g h e.1)
    ]

    pub to_longer : GoesOn pass_of ns xs (longer xs ys) × GoesOn pass_of ms ys (longer xs ys)
    to_longer = agreed ns ms xs ys one_goes_on

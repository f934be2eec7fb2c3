-- The steps that take the turn and give it back keep the rule.
use Rattle.std.proofs.Common.{◌≡◌, ◌≢◌, ℕ, ◌+◌, ◌<◌, ◌≤◌, true, false, eqb, List, [], ◌∷◌, ◌++◌, set, sym, ap}
use Rattle.std.proofs.Common.{◌∙◌, subst, refl, inl, inr, arith}
use Rattle.std.specs.Prelude.{All, Contains, Option, Some, None, slice_index}
use mathlib.Core.Option.{some, none}
use mathlib.Core.Option as maybe
use lib.ListN.{get_elem?}
use prog.Atomic.{either}
use Rattle.std.proofs.lemmas.List.Elements.{All-append, All-weaker, All-contains}
use Rattle.std.proofs.lemmas.Bool.{false_from_ne_true}
use Rattle.atomic_table.specs.Table.{State, Act, rest, keeps, takes, gives, Valid, carried_after, step, Allows}
use Rattle.atomic_table.specs.Table.{stepped, opening, Final, Seen}
use Rattle.atomic_table.proofs.Lists.{set_else}
use Rattle.turn_desk.specs.declared.rule.View.{View}
use Rattle.turn_desk.specs.Journal.{GoesOn, AddsOwn}
use Rattle.turn_desk.specs.Views.{won, lost, given, closing, first_view}
use Rattle.turn_desk.specs.Rule as rule
use Rattle.turn_desk.specs.Rule.{At, IsDrawn, Owns, steps_of, Dated}
use Rattle.turn_desk.specs.Steps as steps
use Rattle.turn_desk.specs.Steps.{Mine}
use Rattle.turn_desk.proofs.Lookups.{at_same, at_changed, at_only, all_set}
use Rattle.turn_desk.proofs.Growing.{goes_nowhere, goes_on-adds}
use Rattle.turn_desk.proofs.Fitting.{knows_the_word, dated_step, owned_less, owned_new, grown, below_more, fits_moved}
use Rattle.turn_desk.proofs.Fitting.{fits_won, fits_fresh}

module _ {V : Type 0} where
  abbrev value_or : V → Option V → V
  value_or d (Some v) = v
  value_or d None = d

  -- the slot taken last, and the others
  pub in_front : (hs others : List (ℕ × Option V)) (x : ℕ × Option V) → hs ≡ x ∷ others → hs ≡ x ∷ rest hs
  in_front hs others x e = e ∙ ap (λ (t : List (ℕ × Option V)). x ∷ t) (sym (ap rest e))

  -- the value in hand
  abbrev in_hand : V → List (ℕ × Option V) → V
  in_hand d [] = d
  in_hand d (x ∷ xs) = value_or d x.1

module _ {V E : Type 0} (entries : V → List E) (pass_of : E → ℕ) (issued_by : List E → ℕ) (is_legal : List E → Type 0)
    (grows : (xs ys : List E) → issued_by xs ≤ issued_by (xs ++ ys)) where
  abbrev Rule : State (Option V) (View E) → Type 0
  Rule = rule.Standing entries pass_of issued_by is_legal

  abbrev Fit : List E → View E → Type 0
  Fit = rule.Fits pass_of issued_by

  abbrev Held : State (Option V) (View E) → List E → Type 0
  Held = rule.Taken

  abbrev Open : State (Option V) (View E) → List E → Type 0
  Open = rule.Free entries

  -- the first state: one pass, which has seen all, and the turn is free
  pub opens : (value : V) → is_legal (entries value) → issued_by (entries value) ≡ 1
      → All (λ e. pass_of e ≡ 0) (entries value)
      → Rule (opening (0 ∷ []) (Some value ∷ []) (first_view (entries value)))
  opens value legal one made =
      let log = entries value in
      let v = first_view log in
      let alone : (P : ℕ → View E → Type 0) → P 0 v → (j : ℕ) (u : View E) → At (v ∷ []) j u → P j u =
      λ P here j u e. let t = at_only v u j e in subst (λ (z : ℕ × View E). P z.0 z.1) (λ i. (sym t.0 i, t.1 i)) here
      in record {
        log = log;
        legal = legal;
        issued = All-weaker (λ e. pass_of e ≡ 0) (λ e. pass_of e < issued_by log) (λ e h. omega arith) log made;
        turn = inl record {
          value = value;
          word = refl;
          home = refl;
          is = refl;
          nobody =
              alone (λ _ u. u.holds ≡ false) refl;
        };
        each = alone (λ _ u. Fit log u) (fits_fresh pass_of issued_by grows log log 0
            (goes_nowhere pass_of (0 ∷ []) log log refl) (omega arith));
        owned_once = λ i j x y n ei ej _ _. (at_only v x i ei).0 ∙ sym (at_only v y j ej).0;
        dated = record {
          past = alone (λ _ u. u.moment ≤ 0) (omega arith);
          now = alone (λ _ u. u.moment ≡ 0 → u.word ≡ 0) (λ _. refl);
          last = (0, v, refl, refl);
          new = λ _. refl;
        };
      }

  -- what taking a step at the word n leaves to be shown
  abbrev Can : State (Option V) (View E) → ℕ → Mine V E → (ℕ → ℕ) → (ℕ → Mine V E → Type 0) → List ℕ → Type 0
  Can s id me f then ws = (w : View E) × (a : Act (Option V)) × Valid s.homes me.1 a
      × Rule (stepped record { words = ws; homes = s.homes; views = s.views } 0 (f (slice_index ws 0)) id me.1 w a)
      × then (slice_index ws 0) (w, carried_after me.1 a)

  win : (s : State (Option V) (View E)) (r : Rule s) (f : Open s r.log) (slots id : ℕ) (me : Mine V E)
      → At s.views id me.0
      → Can s id me (λ x. either (eqb x 0) 1 x)
      (steps.IsTake entries pass_of issued_by is_legal (step slots 0 0 1 none) me) (0 ∷ [])
  win s r f slots id me at =
      let moment = steps_of s.views + 1 in
      let log = entries f.value in
      let w = won moment log me.0 in
      let old = r.each id me.0 at in
      let le : issued_by me.0.seen ≤ issued_by log =
      grown pass_of issued_by grows me.0.seen log old.begins.more (f.is ∙ old.begins.is) in
      let taken_out = λ (h : List (maybe.Option (Option V))). set h 0 none in
      let home : taken_out s.homes ≡ none ∷ [] = ap taken_out f.home in (
        w,
        takes 0 (Some f.value),
        ap (λ (h : List (maybe.Option (Option V))). get_elem? h 0) f.home,
        record {
          log = r.log;
          legal = r.legal;
          issued = r.issued;
          turn = inr record {
            holder = id;
            view = w;
            here = at_changed s.views id me.0 w at;
            word = refl;
            home = inl (refl, home);
            holds = refl;
            is = f.is;
            alone = all_set s.views id w (λ j u. u.holds ≡ true → j ≡ id) (λ _. refl)
                (λ j u _ e yes. let no = f.nobody j u e in cc);
          };
          each = all_set s.views id w (λ j u. Fit r.log u)
              (fits_won pass_of issued_by grows r.log log me.0 moment f.is old) (λ j u _ e. r.each j u e);
          owned_once = owned_less s.views id me.0 w at (λ n o. o) r.owned_once;
          dated = dated_step s id me.0 w 1 (set s.homes 0 none) r.dated at refl refl refl;
        },
        (
          λ _. (
            f.value,
            record {
              moment = moment;
              is = refl;
              goes_on = subst (λ xs. GoesOn pass_of me.0.numbers me.0.seen xs) (sym f.is) old.begins;
              legal = subst is_legal (sym f.is) r.legal;
              below = below_more pass_of issued_by grows me.0.numbers me.0.seen log le old.below;
            },
            refl,
          ),
          λ ne. absurd (ne refl),
        ),
      )

  lose : (s : State (Option V) (View E)) (r : Rule s) (t : Held s r.log) (slots id : ℕ) (me : Mine V E)
      → At s.views id me.0 → me.0.holds ≡ false
      → Can s id me (λ x. either (eqb x 0) 1 x)
      (steps.IsTake entries pass_of issued_by is_legal (step slots 0 0 1 none) me) (1 ∷ [])
  lose s r t slots id me at idle =
      let moment = steps_of s.views + 1 in
      let w = lost moment me.0 in
      let other : t.holder ≢ id = λ e. let same = at_same s.views id t.view me.0
      (subst (λ k. At s.views k t.view) e t.here) at in
      let yes = t.holds in let h : me.0.holds ≡ true = sym (ap (λ (u : View E). u.holds) same) ∙ yes in cc in (
        w,
        keeps,
        tt,
        record {
          log = r.log;
          legal = r.legal;
          issued = r.issued;
          turn = inr record {
            holder = t.holder;
            view = t.view;
            here = set_else s.views id t.holder w other ∙ t.here;
            word = refl;
            home = t.home;
            holds = t.holds;
            is = t.is;
            alone = all_set s.views id w (λ j u. u.holds ≡ true → j ≡ t.holder)
                (λ yes. absurd (let h : me.0.holds ≡ true = yes in cc)) (λ j u _ e yes. t.alone j u e yes);
          };
          each = all_set s.views id w (λ j u. Fit r.log u)
              (fits_moved pass_of issued_by grows r.log me.0 _ _ _ _ _ _ _ (r.each id me.0 at))
              (λ j u _ e. r.each j u e);
          owned_once = owned_less s.views id me.0 w at (λ n o. o) r.owned_once;
          dated = dated_step s id me.0 w 1 s.homes r.dated at refl refl refl;
        },
        ((λ e. absurd (omega arith)), λ _. (moment, refl)),
      )

  pub taking : (slots id : ℕ) (me : Mine V E) → me.0.holds ≡ false
      → Allows Rule slots id me 0 (λ x. either (eqb x 0) 1 x)
      (steps.IsTake entries pass_of issued_by is_legal (step slots 0 0 1 none) me)
  taking slots id me idle s r _ at _ =
      let P : List ℕ → Type 0 = Can s id me (λ x. either (eqb x 0) 1 x)
      (steps.IsTake entries pass_of issued_by is_legal (step slots 0 0 1 none) me) in
      elim r.turn [
        | inl f ↦ subst P (sym f.word) (win s r f slots id me at)
        | inr t ↦ subst P (sym t.word) (lose s r t slots id me at idle)
      ]

  -- The journal grows by entries of a number that a pass owns alone: each other pass still fits it
  fits_grown : (log log' : List E) (number : ℕ) (v : View E) → (Owns v number → ⊥) → AddsOwn pass_of number log log'
      → Fit log v → Fit log' v
  fits_grown log log' number v out a f =
      let unused' = λ (e : E). IsDrawn v (pass_of e) → ⊥ in record {
        begins = goes_on-adds pass_of v.numbers number v.seen log log' (λ c. out (inl c)) f.begins a;
        below = f.below;
        drawn_below = f.drawn_below;
        either = f.either;
        unused = subst (All unused') (sym a.is) (All-append unused' log a.own f.unused
            (All-weaker (λ e. pass_of e ≡ number) unused' (λ e is d. out (inr (subst (λ n. IsDrawn v n) is d))) a.own
            a.made));
        agree = f.agree;
        apart = f.apart;
      }

  all_grown : (log log' : List E) (number : ℕ) → number < issued_by log → AddsOwn pass_of number log log'
      → All (λ e. pass_of e < issued_by log) log → All (λ e. pass_of e < issued_by log) log'
  all_grown log log' number below a old =
      let P = λ (e : E). pass_of e < issued_by log in
      subst (All P) (sym a.is) (All-append P log a.own old
      (All-weaker (λ e. pass_of e ≡ number) P (λ e is. omega arith) a.own a.made))

  fits_given : (log log' : List E) (v : View E) (moment : ℕ) → v.seen ≡ log → issued_by log ≤ issued_by log'
      → All (λ e. pass_of e < issued_by log) log' → Fit log v
      → Fit log' (given issued_by moment log' v)
  fits_given log log' v moment e le all f =
      let same : issued_by v.seen ≡ issued_by log = ap issued_by e in
      let w = given issued_by moment log' v in record {
        begins = goes_nowhere pass_of v.numbers log' log' refl;
        below = below_more pass_of issued_by grows v.numbers v.seen log' (omega arith) f.below;
        drawn_below = omega arith;
        either = λ n c d. let below : n < issued_by v.seen =
            All-contains (λ k. k < issued_by v.seen) v.numbers n f.below c in let low = d.0 in omega arith;
        unused = All-weaker (λ e. pass_of e < issued_by log) (λ e. IsDrawn w (pass_of e) → ⊥)
            (λ e below d. let low = d.0 in omega arith) log' all;
        agree = f.agree;
        apart = f.apart;
      }

  -- what the holder knows of the turn
  held : (s : State (Option V) (View E)) (r : Rule s) (id : ℕ) (v : View E) → At s.views id v → v.holds ≡ true
      → (t : Held s r.log) × (t.holder ≡ id) × (t.view ≡ v)
  held s r id v at on = elim r.turn [
    | inl f ↦ absurd (let no = f.nobody id v at in cc)
    | inr t ↦ let here : id ≡ t.holder = t.alone id v at on in
        (t, sym here, at_same s.views id t.view v (subst (λ k. At s.views k t.view) (sym here) t.here) at)
  ]

  give : (s : State (Option V) (View E)) (r : Rule s) (id number : ℕ) (v : View E) (value : V) → At s.views id v
      → v.holds ≡ true → Contains v.numbers number
      → AddsOwn pass_of number v.seen (entries value) → is_legal (entries value)
      → Rule record {
        words = set s.words 0 0;
        homes = set s.homes 0 (some (Some value));
        views = set s.views id (given issued_by (steps_of s.views + 1) (entries value) v);
      }
  give s r id number v value at on own adds legal =
      let h = held s r id v at on in
      let t = h.0 in
      let moment = steps_of s.views + 1 in
      let log' = entries value in
      let w = given issued_by moment log' v in
      let f = r.each id v at in
      let seen : v.seen ≡ r.log = sym (ap (λ (u : View E). u.seen) h.2) ∙ t.is in
      let a : AddsOwn pass_of number r.log log' = subst (λ xs. AddsOwn pass_of number xs log') seen adds in
      let le : issued_by r.log ≤ issued_by log' = grown pass_of issued_by grows r.log log' a.own a.is in
      let same : issued_by v.seen ≡ issued_by r.log = ap issued_by seen in
      let low : number < issued_by v.seen = All-contains (λ n. n < issued_by v.seen) v.numbers number f.below own in
      let all = all_grown r.log log' number (omega arith) a r.issued in
      let word : set s.words 0 0 ≡ 0 ∷ [] = ap (λ (ws : List ℕ). set ws 0 0) t.word in
      let put = λ (hs : List (maybe.Option (Option V))). set hs 0 (some (Some value)) in
      let home : put s.homes ≡ some (Some value) ∷ [] = elim t.home [ inl e ↦ ap put e.1 | inr e ↦ ap put e.1 ] in
      subst (λ ws. Rule record { words = ws; homes = put s.homes; views = set s.views id w }) (sym word) record {
        log = log';
        legal = legal;
        issued = All-weaker (λ e. pass_of e < issued_by r.log) (λ e. pass_of e < issued_by log') (λ e l. omega arith)
            log' all;
        turn = inl record {
          value = value;
          word = refl;
          home = home;
          is = refl;
          nobody = all_set s.views id w (λ j u. u.holds ≡ false) refl
              (λ j u ne e. false_from_ne_true u.holds (λ both. ne (t.alone j u e both ∙ h.1)));
        };
        each = all_set s.views id w (λ j u. Fit log' u) (fits_given r.log log' v moment seen le all f)
            (λ j u ne e. fits_grown r.log log' number u (λ o. ne (r.owned_once j id u v number e at o (inl own))) a
            (r.each j u e));
        owned_once = owned_new s.views id w
            (λ j u n ne e o mine. let g = r.each j u e in elim mine [
              | inl c ↦ ne (r.owned_once j id u v n e at o (inl c))
              | inr d ↦ let least = d.0 in elim o [
                | inl c ↦ let under : n < issued_by u.seen = All-contains (λ k. k < issued_by u.seen) u.numbers n
                    g.below c in
                    let upto = grown pass_of issued_by grows u.seen r.log g.begins.more g.begins.is in omega arith
                | inr b ↦ let upto = grown pass_of issued_by grows u.seen r.log g.begins.more g.begins.is in
                    let under = g.drawn_below in let last = b.1 in omega arith
              ]
            ])
            r.owned_once;
        dated = dated_step s id v w 0 (put s.homes) r.dated at refl refl refl;
      }

  pub giving : (slots id : ℕ) (me : Mine V E) (number : ℕ) (value : V) → me.1 ≡ (0, Some value) ∷ []
      → me.0.holds ≡ true → Contains me.0.numbers number
      → AddsOwn pass_of number me.0.seen (entries value) → is_legal (entries value)
      → Allows Rule slots id me 0 (λ _. 0) (λ _. steps.IsGive entries pass_of issued_by is_legal (step slots 0 0 0 none)
      me 0)
  giving slots id me number value hand on own adds legal s r _ at _ =
      let v = me.0 in
      let moment = steps_of s.views + 1 in
      let P : List (ℕ × Option V) → Type 0 = λ hs. (w : View E) × (a : Act (Option V)) × Valid s.homes hs a
      × Rule (stepped s 0 0 id hs w a)
      × steps.IsGive entries pass_of issued_by is_legal (step slots 0 0 0 none) (v, hs) 0 (w, carried_after hs a) in
      subst P (sym hand) (
        given issued_by moment (entries value) v,
        gives,
        tt,
        give s r id number v value at on own adds legal,
        λ other e. (moment, λ i. (given issued_by moment (entries (in_hand value (e i))) v, [])),
      )

  -- the same with what is known after the value was put into the slot
  pub giving_after : (slots id : ℕ) (m m' : Mine V E) (number : ℕ) (value : V)
      → m' ≡ (m.0, (0, Some value) ∷ rest m.1) → m.1 ≡ (0, None) ∷ [] → m.0.holds ≡ true
      → Contains m.0.numbers number → AddsOwn pass_of number m.0.seen (entries value) → is_legal (entries value)
      → Allows Rule slots id m' 0 (λ _. 0) (λ _. steps.IsGive entries pass_of issued_by is_legal (step slots 0 0 0 none)
      m' 0)
  giving_after slots id m m' number value is hand on own adds legal =
      let now : m' ≡ (m.0, (0, Some value) ∷ []) = is
      ∙ ap (λ (hs : List (ℕ × Option V)). (m.0, (0, Some value) ∷ rest hs)) hand in
      subst (λ z. Allows Rule slots id z 0 (λ _. 0)
      (λ _. steps.IsGive entries pass_of issued_by is_legal (step slots 0 0 0 none) z 0)) (sym now)
      (giving slots id (m.0, (0, Some value) ∷ []) number value refl on own adds legal)

  close : (s : State (Option V) (View E)) (r : Rule s) (id : ℕ) (v : View E) → At s.views id v → v.holds ≡ true
      → Rule record {
        words = set s.words 0 1;
        homes = set s.homes 0 (some None);
        views =
            set s.views id (closing (steps_of s.views + 1) v);
      }
  close s r id v at on =
      let h = held s r id v at on in
      let t = h.0 in
      let w = closing (steps_of s.views + 1) v in
      let word : set s.words 0 1 ≡ 1 ∷ [] = ap (λ (ws : List ℕ). set ws 0 1) t.word in
      let put = λ (hs : List (maybe.Option (Option V))). set hs 0 (some None) in
      let home : put s.homes ≡ some None ∷ [] = elim t.home [ inl e ↦ ap put e.1 | inr e ↦ ap put e.1 ] in
      subst (λ ws. Rule record { words = ws; homes = put s.homes; views = set s.views id w }) (sym word) record {
        log = r.log;
        legal = r.legal;
        issued = r.issued;
        turn = inr record {
          holder = id;
          view = w;
          here = at_changed s.views id v w at;
          word = refl;
          home = inr (refl, home);
          holds = on;
          is = sym (ap (λ (u : View E). u.seen) h.2) ∙ t.is;
          alone = all_set s.views id w (λ j u. u.holds ≡ true → j ≡ id) (λ _. refl)
              (λ j u _ e both. t.alone j u e both ∙ h.1);
        };
        each = all_set s.views id w (λ j u. Fit r.log u)
            (fits_moved pass_of issued_by grows r.log v _ _ _ _ _ _ _ (r.each id v at)) (λ j u _ e. r.each j u e);
        owned_once = owned_less s.views id v w at (λ n o. o) r.owned_once;
        dated = dated_step s id v w 1 (put s.homes) r.dated at refl refl refl;
      }

  pub shutting : (slots id : ℕ) (me : Mine V E) → me.1 ≡ (0, None) ∷ [] → me.0.holds ≡ true
      → Allows Rule slots id me 0 (λ _. 1) (λ _. steps.IsShut entries pass_of issued_by is_legal (step slots 0 1 0 none)
      me 1)
  shutting slots id me hand on s r _ at _ =
      let v = me.0 in
      let moment = steps_of s.views + 1 in
      let P : List (ℕ × Option V) → Type 0 = λ hs. (w : View E) × (a : Act (Option V)) × Valid s.homes hs a
      × Rule (stepped s 0 1 id hs w a)
      × steps.IsShut entries pass_of issued_by is_legal (step slots 0 1 0 none) (v, hs) 1 (w, carried_after hs a) in
      subst P (sym hand) (closing moment v, gives, tt, close s r id v at on, λ _. (moment, refl))

  -- once a pass has closed the desk, the slot that comes back is empty
  pub empty_home : (id : ℕ) (v : View E) (words : List ℕ) (slots : List (Option V)) → v.holds ≡ true
      → v.closes ≡ true → Final (Seen Rule id v) words slots
      → get_elem? slots 0 ≡ some None
  empty_home id v words slots on closes f =
      let s = f.0 in
      let r = f.1.0 in
      let h = held s r id v f.1.1 on in
      let same : h.0.view.closes ≡ true = ap (λ (u : View E). u.closes) h.2 ∙ closes in
      let home : s.homes ≡ some None ∷ [] = elim h.0.home [ inl e ↦ absurd (let no = e.0 in cc) | inr e ↦ e.1 ] in
      f.4 0 None (ap (λ (hs : List (maybe.Option (Option V))). get_elem? hs 0) home)

  -- A step that counts as one, found the turn taken and changes nothing else can't be made up where the turn
  -- is free: here it is free, and the first pass looks at the word
  pub no_made_up_refusal : (value : V) → is_legal (entries value) → issued_by (entries value) ≡ 1
      → All (λ e. pass_of e ≡ 0) (entries value)
      → Allows Rule 1 0 (first_view (entries value), []) 0 (λ n. n)
      (λ _ m'. (moment : ℕ) × (m' ≡ (lost moment (first_view (entries value)), []))) → ⊥
  no_made_up_refusal value legal one made allowed =
      let v = first_view (entries value) in
      let s = opening (0 ∷ []) (Some value ∷ []) v in
      let r = opens value legal one made in
      let did = allowed s r refl refl (omega arith) in
      let more : did.0.steps ≡ 0 + 1 = ap (λ (m : Mine V E). m.0.steps) did.4.1 in
      let free : did.0.word ≡ 0 = knows_the_word s (stepped s 0 0 0 [] did.0 did.1) 0 v did.0 r.dated did.3.dated
      refl refl more in
      let taken : did.0.word ≡ 1 = ap (λ (m : Mine V E). m.0.word) did.4.1 in
      omega arith

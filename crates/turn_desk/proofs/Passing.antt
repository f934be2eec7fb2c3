-- The steps that make passes and join them keep the rule.
use Rattle.std.proofs.Common.{◌≡◌, ◌≢◌, ◌⊎◌, ℕ, ◌<◌, ◌≤◌, Bool, true, false, List, [], ◌∷◌, ◌++◌, length, set, get_or}
use Rattle.std.proofs.Common.{sym, ap, ◌∙◌, subst, refl, inl, inr, arith}
use Rattle.std.specs.Prelude.{All, Contains, Option, None, slice_index, nat_lt, if◌then◌else◌}
use mathlib.Core.Option.{some, none}
use Rattle.std.proofs.lemmas.Bool.Decides.{nat_tests}
use mathlib.Core.Logic.{dite}
use native.Mathlib.Decide.{ℕ_discrete}
use Rattle.std.proofs.lemmas.List.Elements.{All-append, All-weaker, Contains-append_cases, Contains-append_left}
use Rattle.atomic_table.specs.Table.{State, keeps, step, Allows, Splits, Joins}
use Rattle.atomic_table.proofs.Lists.{set_else, set_again, at_longer}
use Rattle.turn_desk.specs.declared.rule.View.{View}
use Rattle.turn_desk.specs.Journal.{IsOthers, OneGoesOn}
use Rattle.turn_desk.specs.Views.{one_fewer, newcomer, joined, spent, longer}
use Rattle.turn_desk.specs.Rule as rule
use Rattle.turn_desk.specs.Rule.{At, IsDrawn, Owns, OwnedOnce, steps_of, Dated, Taken, Free}
use Rattle.turn_desk.specs.Steps as steps
use Rattle.turn_desk.specs.Steps.{Mine}
use Rattle.turn_desk.proofs.Lookups.{at_same, at_changed, all_set, all_end, kept_at, steps_of-set, steps_of-end}
use Rattle.turn_desk.proofs.Growing.{all_right, longer_is, longer_begins, one_goes_on, to_longer, agreed}
use Rattle.turn_desk.specs.Seats.{IsPass}
use Rattle.turn_desk.proofs.Fitting.{none_in_nil, only_in, all_of, grown, below_more, fits_fresh, fits_spent}

module _ {V E : Type 0} (entries : V → List E) (pass_of : E → ℕ) (issued_by : List E → ℕ) (is_legal : List E → Type 0)
    (grows : (xs ys : List E) → issued_by xs ≤ issued_by (xs ++ ys)) where
  abbrev Rule : State (Option V) (View E) → Type 0
  Rule = rule.Standing entries pass_of issued_by is_legal

  abbrev Fit : List E → View E → Type 0
  Fit = rule.Fits pass_of issued_by

  fits_fewer : (log : List E) (v : View E) → 0 < v.left → Fit log v → Fit log (one_fewer v)
  fits_fewer log v some_left f =
      let d = f.drawn_below in
      let within : (n : ℕ) → IsDrawn (one_fewer v) n → IsDrawn v n = λ n b. let low = b.0 in let high = b.1 in
      (omega arith, omega arith) in record {
        begins = f.begins;
        below = f.below;
        drawn_below = omega arith;
        either = λ n c b. f.either n c (within n b);
        unused = All-weaker (λ e. IsDrawn v (pass_of e) → ⊥) (λ e. IsDrawn (one_fewer v) (pass_of e) → ⊥)
            (λ e not b. not (within (pass_of e) b)) log f.unused;
        agree = f.agree;
        apart = f.apart;
      }

  fits_newcomer : (log : List E) (v : View E) → 0 < v.left → Fit log v → Fit log (newcomer v)
  fits_newcomer log v some_left f =
      let d = f.drawn_below in
      let unused = λ (e : E). IsDrawn v (pass_of e) → ⊥ in
      let rest : All unused f.begins.more = all_right unused v.seen f.begins.more
      (subst (All unused) f.begins.is f.unused) in
      let others = All-weaker unused (IsOthers pass_of (v.drawn ∷ []))
      (λ e not c. not (subst (λ n. IsDrawn v n) (only_in v.drawn (pass_of e) c) (omega arith, omega arith)))
      f.begins.more rest in
      fits_fresh pass_of issued_by grows log v.seen v.drawn record
      { more = f.begins.more; is = f.begins.is; others = others } (omega arith)

  owned_split : (views : List (View E)) (id : ℕ) (v : View E) → At views id v → 0 < v.left
      → ((n : ℕ) → Contains v.numbers n → IsDrawn v n → ⊥) → OwnedOnce views
      → OwnedOnce (set views id (one_fewer v) ++ newcomer v ∷ [])
  owned_split views id v at some_left either once i j x y n ei ej oi oj =
      let len : ℕ = length (set views id (one_fewer v)) in
      let here : IsDrawn v v.drawn = (omega arith, omega arith) in
      let P : ℕ → View E → Type 0 = λ k z. Owns z n → ((k ≡ len) × (n ≡ v.drawn))
      ⊎ ((u : View E) × At views k u × Owns u n × (n ≢ v.drawn)) in
      let left : P id (one_fewer v) = λ o. elim o [
        | inl c ↦ inr (v, at, inl c, λ e. either n c (subst (λ m. IsDrawn v m) (sym e) here))
        | inr b ↦ let low = b.0 in let high = b.1 in inr (v, at, inr (omega arith, omega arith), λ e. omega arith)
      ] in
      let others : (k : ℕ) (z : View E) → k ≢ id → At views k z → P k z =
      λ k z ne e o. inr (z, e, o, λ is. ne (once k id z v n e at o (inr (subst (λ m. IsDrawn v m) (sym is) here)))) in
      let right : P len (newcomer v) = λ o. inl
      (refl, elim o [ inl c ↦ sym (only_in v.drawn n c) | inr b ↦ absurd (let high = b.1 in omega arith) ]) in
      let each = all_end (set views id (one_fewer v)) (newcomer v) P (all_set views id (one_fewer v) P left others)
      right in
      elim (each i x ei oi) [
        | inl a ↦ elim (each j y ej oj) [ inl b ↦ a.0 ∙ sym b.0 | inr b ↦ absurd (b.3 a.1) ]
        | inr a ↦ elim (each j y ej oj) [ inl b ↦ absurd (a.3 b.1) | inr b ↦ once i j a.0 b.0 n a.1 b.1 a.2 b.2 ]
      ]

  pub splitting : (id : ℕ) (v : View E) → 0 < v.left → Splits Rule id v (one_fewer v) (newcomer v)
  splitting id v some_left s r at =
      let left = one_fewer v in
      let right = newcomer v in
      let views = set s.views id left in
      let f = r.each id v at in
      let total : steps_of (views ++ right ∷ []) ≡ steps_of s.views =
      omega (arith, steps_of-set s.views id v left at, steps_of-end views right) in
      let d = r.dated in record {
        log = r.log;
        legal = r.legal;
        issued = r.issued;
        turn = elim r.turn [
          | inl t ↦ inl record {
            value = t.value;
            word = t.word;
            home = t.home;
            is = t.is;
            nobody = all_end views right (λ _ u. u.holds ≡ false)
                (all_set s.views id left (λ _ u. u.holds ≡ false) (t.nobody id v at) (λ j u _ e. t.nobody j u e))
                refl;
          }
          | inr t ↦
              let R = λ (u : View E). (((u.closes ≡ false) × (s.homes ≡ none ∷ []))
              ⊎ ((u.closes ≡ true) × (s.homes ≡ some None ∷ []))) × (u.holds ≡ true) × (u.seen ≡ r.log) in
              let k = kept_at s.views id t.holder v left t.view R at t.here (t.home, t.holds, t.is) (λ h. h) in
              inr record {
                holder = t.holder;
                view = k.0;
                here = at_longer views (right ∷ []) t.holder k.0 k.1;
                word = t.word;
                home = k.2.0;
                holds = k.2.1;
                is = k.2.2;
                alone = all_end views right (λ j u. u.holds ≡ true → j ≡ t.holder)
                    (all_set s.views id left (λ j u. u.holds ≡ true → j ≡ t.holder) (t.alone id v at)
                    (λ j u _ e. t.alone j u e)) (λ h. absurd (cc));
              }
        ];
        each = all_end views right (λ _ u. Fit r.log u)
            (all_set s.views id left (λ _ u. Fit r.log u) (fits_fewer r.log v some_left f) (λ j u _ e. r.each j u e))
            (fits_newcomer r.log v some_left f);
        owned_once = owned_split s.views id v at some_left f.either r.owned_once;
        dated = record {
          past = all_end views right (λ _ u. u.moment ≤ steps_of (views ++ right ∷ []))
              (all_set s.views id left (λ _ u. u.moment ≤ steps_of (views ++ right ∷ []))
              (let h = d.past id v at in omega arith) (λ j u _ e. let h = d.past j u e in omega arith))
              (omega arith);
          now = all_end views right (λ _ u. u.moment ≡ steps_of (views ++ right ∷ [])
              → u.word ≡ slice_index s.words 0)
              (all_set s.views id left (λ _ u. u.moment ≡ steps_of (views ++ right ∷ [])
              → u.word ≡ slice_index s.words 0) (λ e. d.now id v at (e ∙ total))
              (λ j u _ e is. d.now j u e (is ∙ total)))
              (λ e. sym (d.new (sym total ∙ sym e)));
          last = let k = kept_at s.views id d.last.0 v left d.last.1 (λ u. u.moment ≡ steps_of s.views) at d.last.2
              d.last.3 (λ h. h) in
              (d.last.0, k.0, at_longer views (right ∷ []) d.last.0 k.0 k.1, k.2 ∙ sym total);
          new = λ e. d.new (sym total ∙ e);
        };
      }

  fits_joined : (log : List E) (v w : View E) → ((n : ℕ) → Contains v.numbers n → Contains w.numbers n → ⊥)
      → Fit log v → Fit log w → Fit log (joined v w)
  fits_joined log v w apart f g =
      let to = to_longer pass_of v.numbers w.numbers v.seen w.seen log f.begins g.begins in
      let long = longer v.seen w.seen in
      let le : issued_by v.seen ≤ issued_by long = grown pass_of issued_by grows v.seen long to.0.more to.0.is in
      let le' : issued_by w.seen ≤ issued_by long = grown pass_of issued_by grows w.seen long to.1.more to.1.is in
      record {
        begins = longer_begins pass_of v.numbers w.numbers v.seen w.seen log f.begins g.begins;
        below = All-append (λ n. n < issued_by long) v.numbers w.numbers
            (below_more pass_of issued_by grows v.numbers v.seen long le f.below)
            (below_more pass_of issued_by grows w.numbers w.seen long le' g.below);
        drawn_below = omega arith;
        either = λ n _ d. let a = d.1 in omega arith;
        unused = all_of (λ e. IsDrawn (joined v w) (pass_of e) → ⊥) (λ e d. let a = d.1 in omega arith) log;
        agree = one_goes_on pass_of v.numbers w.numbers v.seen w.seen log f.begins g.begins;
        apart = apart;
      }

  owned_joined : (views : List (View E)) (id other : ℕ) (v w : View E) → At views id v → At views other w
      → other ≢ id → OwnedOnce views
      → OwnedOnce (set (set views id (joined v w)) other spent)
  owned_joined views id other v w at at' ne once i j x y n ei ej oi oj =
      let P : ℕ → View E → Type 0 = λ k z. Owns z n → ((k ≡ id) × (Owns v n ⊎ Owns w n))
      ⊎ ((k ≢ id) × (k ≢ other) × At views k z) in
      let one : P id (joined v w) = λ o. elim o [
        | inl c ↦ elim (Contains-append_cases v.numbers w.numbers n c)
            [ inl a ↦ inl (refl, inl (inl a)) | inr b ↦ inl (refl, inr (inl b)) ]
        | inr d ↦ absurd (let a = d.1 in omega arith)
      ] in
      let two : P other spent = λ o. elim o [
        | inl c ↦ absurd (none_in_nil n c)
        | inr d ↦ absurd (let a = d.1 in omega arith)
      ] in
      let each = all_set (set views id (joined v w)) other spent P two
      (λ k z out e. all_set views id (joined v w) (λ k' z'. k' ≢ other → P k' z') (λ _. one)
      (λ k' z' ne' e' out' o. inr (ne', out', e')) k z e out) in
      let owner : Owns v n ⊎ Owns w n → (k : ℕ) (z : View E) → k ≢ id → k ≢ other → At views k z → Owns z n → ⊥ =
      λ o k z ne' out e mine. elim o [
        | inl a ↦ ne' (once k id z v n e at mine a)
        | inr b ↦ out (once k other z w n e at' mine b)
      ] in
      elim (each i x ei oi) [
        | inl a ↦ elim (each j y ej oj) [ inl b ↦ a.0 ∙ sym b.0 | inr b ↦ absurd (owner a.1 j y b.0 b.1 b.2 oj) ]
        | inr a ↦ elim (each j y ej oj) [
          | inl b ↦ absurd (owner b.1 i x a.0 a.1 a.2 oi)
          | inr b ↦ once i j x y n a.2 b.2 oi oj
        ]
      ]

  -- of two passes the one that made the later step knows what the word is
  later : (v w : View E) (n word : ℕ) → v.moment ≤ n → w.moment ≤ n → (v.moment ≡ n → v.word ≡ word)
      → (w.moment ≡ n → w.word ≡ word)
      → ((joined v w).moment ≤ n) × ((joined v w).moment ≡ n → (joined v w).word ≡ word)
      × (v.moment ≡ n → (joined v w).moment ≡ n) × (w.moment ≡ n → (joined v w).moment ≡ n)
  later v w n word a b is is' =
      let at = λ (c : Bool). if c then w.moment else v.moment in
      let find = λ (c : Bool). if c then w.word else v.word in
      let go : (c : Bool) → nat_lt v.moment w.moment ≡ c → (at c ≤ n) × (at c ≡ n → find c ≡ word)
      × (v.moment ≡ n → at c ≡ n) × (w.moment ≡ n → at c ≡ n) = elim [
        | true ↦ λ e. let lt : v.moment < w.moment = grind (arith, nat_tests) in
            (b, is', (λ h. absurd (omega arith)), λ h. h)
        | false ↦ λ e. let le : w.moment ≤ v.moment = grind (arith, nat_tests) in (a, is, (λ h. h), λ h. omega arith)
      ] in
      go _ refl

  -- the pass that made the last step is still there, or it is one of the two
  last_joined : (views : List (View E)) (id other : ℕ) (v w : View E) (n : ℕ) → At views id v → At views other w
      → other ≢ id → (v.moment ≡ n → (joined v w).moment ≡ n)
      → (w.moment ≡ n → (joined v w).moment ≡ n) → ((k : ℕ) × (u : View E) × At views k u × (u.moment ≡ n))
      → (k : ℕ) × (u : View E) × At (set (set views id (joined v w)) other spent) k u × (u.moment ≡ n)
  last_joined views id other v w n at at' ne mine theirs d =
      let one = set views id (joined v w) in
      let here : At (set one other spent) id (joined v w) = set_else one other id spent (λ e. ne (sym e))
      ∙ at_changed views id v (joined v w) at in
      let moment : (k : ℕ) (u : View E) → At views k u → d.0 ≡ k → u.moment ≡ n = λ k u e is. let same =
      at_same views k u d.1 e (subst (λ j. At views j d.1) is d.2) in
      ap (λ (z : View E). z.moment) same ∙ d.3 in
      dite (ℕ_discrete d.0 id) (λ e. (id, joined v w, here, mine (moment id v at e)))
      (λ out. dite (ℕ_discrete d.0 other) (λ e. (id, joined v w, here, theirs (moment other w at' e)))
      (λ out'. (d.0, d.1, set_else one other d.0 spent out' ∙ (set_else views id d.0 (joined v w) out ∙ d.2), d.3)))

  pub joining : (id : ℕ) (v : View E) (other : ℕ) (w : View E) → v.holds ≡ false → w.holds ≡ false
      → Joins Rule id v other w (joined v w) spent
  joining id v other w idle idle' s r at ne at2 =
      let both = joined v w in
      let one = set s.views id both in
      let two = set one other spent in
      let at' : At s.views other w = sym (set_else s.views id other both ne) ∙ at2 in
      let f = r.each id v at in
      let g = r.each other w at' in
      let d = r.dated in
      let total : steps_of two ≡ steps_of s.views = let a = steps_of-set s.views id v both at in let b =
      steps_of-set one other w spent at2 in omega arith in
      let in_both : (P : ℕ → View E → Type 0) → P id both → P other spent
      → ((j : ℕ) (u : View E) → j ≢ id → j ≢ other → At s.views j u → P j u)
      → (j : ℕ) (u : View E) → At two j u → P j u =
      λ P here there rest. all_set one other spent P there
      (λ j u out e. all_set s.views id both (λ k z. k ≢ other → P k z) (λ _. here)
      (λ k z ne' e' out'. rest k z ne' out' e') j u e out) in
      let t = later v w (steps_of s.views) (slice_index s.words 0) (d.past id v at) (d.past other w at')
      (d.now id v at) (d.now other w at') in
      let last = last_joined s.views id other v w (steps_of s.views) at at' ne t.2 t.3 d.last in
      let latest : last.1.moment ≡ steps_of two = omega arith in record {
        log = r.log;
        legal = r.legal;
        issued = r.issued;
        turn = elim r.turn [
          | inl h ↦ inl record {
            value = h.value;
            word = h.word;
            home = h.home;
            is = h.is;
            nobody = in_both (λ _ u. u.holds ≡ false) idle refl (λ j u _ _ e. h.nobody j u e);
          }
          | inr h ↦
              let free : (k : ℕ) (u : View E) → At s.views k u → u.holds ≡ false → h.holder ≢ k = λ k u e no is.
              let same = at_same s.views k h.view u (subst (λ z. At s.views z h.view) is h.here) e in
              let on : u.holds ≡ true = sym (ap (λ (z : View E). z.holds) same) ∙ h.holds in cc in inr record {
                holder = h.holder;
                view = h.view;
                here = set_else one other h.holder spent (free other w at' idle')
                    ∙ (set_else s.views id h.holder both (free id v at idle) ∙ h.here);
                word = h.word;
                home = h.home;
                holds = h.holds;
                is = h.is;
                alone = in_both (λ j u. u.holds ≡ true → j ≡ h.holder) (λ on. absurd (cc)) (λ on. absurd (cc))
                    (λ j u _ _ e. h.alone j u e);
              }
        ];
        each = in_both (λ _ u. Fit r.log u) (fits_joined r.log v w
            (λ n c c'. ne (r.owned_once other id w v n at' at (inl c') (inl c))) f g)
            (fits_spent pass_of issued_by grows r.log) (λ j u _ _ e. r.each j u e);
        owned_once = owned_joined s.views id other v w at at' ne r.owned_once;
        dated = record {
          past = in_both (λ _ u. u.moment ≤ steps_of two) (let h = t.0 in omega arith) (omega arith)
              (λ j u _ _ e. let h = d.past j u e in omega arith);
          now = in_both (λ _ u. u.moment ≡ steps_of two → u.word ≡ slice_index s.words 0) (λ e. t.1 (e ∙ total))
              (λ e. sym (d.new (sym total ∙ sym e)))
              (λ j u _ _ e is. d.now j u e (is ∙ total));
          last = (last.0, last.1, last.2, latest);
          new = λ e. d.new (sym total ∙ e);
        };
      }

  pub telling : (slots id : ℕ) (me : Mine V E) → Allows Rule slots id me 0 (λ n. n)
      (steps.IsTell entries pass_of issued_by is_legal (step slots 0 0 0 none) me)
  telling slots id me s r _ at _ =
      let f = r.each id me.0 at in
      let put = λ (ws : List ℕ). set ws 0 (get_or ws 0 0) in
      let word : put s.words ≡ s.words = elim r.turn [
        | inl t ↦ subst (λ ws. put ws ≡ ws) (sym t.word) refl
        | inr t ↦ subst (λ ws. put ws ≡ ws) (sym t.word) refl
      ] in
      let views : set s.views id me.0 ≡ s.views = set_again s.views id me.0 at in (
        me.0,
        keeps,
        tt,
        subst Rule (λ i. record { words = sym word i; homes = s.homes; views = sym views i }) r,
        (refl, f.agree, f.apart),
      )

  -- what holds of a pass still does after another has left into it
  pub pass_joined : (m o m' : Mine V E) (number other : ℕ) → m' ≡ (joined m.0 o.0, m.1)
      → OneGoesOn pass_of m.0.numbers m.0.seen o.0.numbers o.0.seen
      → IsPass issued_by is_legal m number → IsPass issued_by is_legal o other → IsPass issued_by is_legal m' number
  pass_joined m o m' number other is agree p q =
      let xs = m.0.seen in
      let ys = o.0.seen in
      let to = agreed pass_of m.0.numbers o.0.numbers xs ys agree in
      let le : issued_by xs ≤ issued_by (longer xs ys) = grown pass_of issued_by grows xs _ to.0.more to.0.is in
      let le' : issued_by ys ≤ issued_by (longer xs ys) = grown pass_of issued_by grows ys _ to.1.more to.1.is in
      subst (λ z. IsPass issued_by is_legal z number) (sym is) record {
        number_is = p.number_is;
        own = Contains-append_left m.0.numbers o.0.numbers number p.own;
        issued = All-append (λ n. n < issued_by (longer xs ys)) m.0.numbers o.0.numbers
            (below_more pass_of issued_by grows m.0.numbers xs _ le p.issued)
            (below_more pass_of issued_by grows o.0.numbers ys _ le' q.issued);
        legal = elim (longer_is xs ys) [
          | inl e ↦ subst is_legal (sym e.0) p.legal
          | inr e ↦ subst is_legal (sym e.0) q.legal
        ];
        hand = p.hand;
      }

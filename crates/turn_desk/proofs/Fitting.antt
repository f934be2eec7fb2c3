-- What a step keeps of the rule where it changes one pass.
use Rattle.std.proofs.Common.{◌≡◌, ◌≢◌, ◌⊎◌, ℕ, ◌+◌, ◌<◌, ◌≤◌, Bool, List, [], ◌∷◌, ◌++◌, set, sym, ap, ◌∙◌, subst}
use Rattle.std.proofs.Common.{refl, inl, inr, arith}
use Rattle.std.specs.Prelude.{All, Contains, Option, slice_index, slice_index_or}
use mathlib.Core.Option as maybe
use Rattle.std.proofs.lemmas.List.Elements.{All-nil, All-cons, All-weaker, All-contains}
use Rattle.atomic_table.specs.Table.{State}
use Rattle.turn_desk.specs.declared.rule.View.{View}
use Rattle.turn_desk.specs.Journal.{GoesOn}
use Rattle.turn_desk.specs.Views.{fresh, won, spent}
use Rattle.turn_desk.specs.Rule.{At, IsDrawn, Owns, OwnedOnce, Fits, Dated, steps_of}
use Rattle.turn_desk.proofs.Lookups.{at_changed, all_set, steps_of-set}
use Rattle.turn_desk.proofs.Growing.{goes_nowhere}

pub none_in_nil : (n : ℕ) → Contains [] n → ⊥
none_in_nil n c = let h : c.0 < 0 = c.1 in omega arith

pub only_in : (m n : ℕ) → Contains (m ∷ []) n → m ≡ n
only_in m n c = All-contains (λ k. m ≡ k) (m ∷ []) n (All-cons (λ k. m ≡ k) m [] refl (All-nil (λ k. m ≡ k))) c

pub all_of : {X : Type 0} (P : X → Type 0) → ((x : X) → P x) → (xs : List X) → All P xs
all_of P h xs k d l = h (slice_index_or xs k d)

module _ {V E : Type 0} where
  -- a step on the word makes its pass the last
  pub dated_step : (s : State (Option V) (View E)) (id : ℕ) (v w : View E) (n : ℕ)
      (homes : List (maybe.Option (Option V))) → Dated s → At s.views id v
      → w.steps ≡ v.steps + 1 → w.moment ≡ steps_of s.views + 1 → w.word ≡ n
      → Dated record { words = n ∷ []; homes = homes; views = set s.views id w }
  dated_step s id v w n homes d at more now word =
      let total : steps_of (set s.views id w) ≡ steps_of s.views + 1 =
      omega (arith, steps_of-set s.views id v w at) in record {
        past = all_set s.views id w (λ j u. u.moment ≤ steps_of (set s.views id w)) (omega arith)
            (λ j u _ e. let h = d.past j u e in omega arith);
        now = all_set s.views id w (λ j u. u.moment ≡ steps_of (set s.views id w) → u.word ≡ n) (λ _. word)
            (λ j u _ e is. absurd (let h = d.past j u e in omega arith));
        last = (id, w, at_changed s.views id v w at, now ∙ sym total);
        new = λ none. absurd (omega arith);
      }

  -- Whatever a step does with the word, a pass that counts it as one step knows the word truly. So no step
  -- can tell that the turn is taken where it is free
  pub knows_the_word : (s t : State (Option V) (View E)) (id : ℕ) (v w : View E) → Dated s → Dated t
      → At s.views id v → t.views ≡ set s.views id w → w.steps ≡ v.steps + 1
      → w.word ≡ slice_index t.words 0
  knows_the_word s t id v w d e at is more =
      let all : steps_of t.views ≡ steps_of (set s.views id w) = ap steps_of is in
      let total : steps_of t.views ≡ steps_of s.views + 1 = omega (arith, steps_of-set s.views id v w at) in
      let here : At t.views id w = subst (λ vs. At vs id w) (sym is) (at_changed s.views id v w at) in
      let last = subst (λ vs. At vs e.last.0 e.last.1) is e.last.2 in
      let P : ℕ → View E → Type 0 = λ j u. u.moment ≡ steps_of t.views → w.word ≡ slice_index t.words 0 in
      all_set s.views id w P (λ now. e.now id w here now)
      (λ j u _ old now. absurd (let past = d.past j u old in omega arith)) e.last.0 e.last.1 last e.last.3

module _ {E : Type 0} where
  -- a view that owns no more than the one before it
  pub owned_less : (views : List (View E)) (id : ℕ) (v w : View E) → At views id v → ((n : ℕ) → Owns w n → Owns v n)
      → OwnedOnce views → OwnedOnce (set views id w)
  owned_less views id v w at less once i j x y n ei ej oi oj =
      let P : ℕ → View E → Type 0 = λ k z. Owns z n → (u : View E) × At views k u × Owns u n in
      let each : (k : ℕ) (z : View E) → At (set views id w) k z → P k z =
      all_set views id w P (λ o. (v, at, less n o)) (λ k z _ e o. (z, e, o)) in
      let a = each i x ei oi in
      let b = each j y ej oj in
      once i j a.0 b.0 n a.1 b.1 a.2 b.2

  -- a view whose numbers no other has
  pub owned_new : (views : List (View E)) (id : ℕ) (w : View E)
      → ((j : ℕ) (u : View E) (n : ℕ) → j ≢ id → At views j u → Owns u n → Owns w n → ⊥) → OwnedOnce views
      → OwnedOnce (set views id w)
  owned_new views id w new once i j x y n ei ej oi oj =
      let P : ℕ → View E → Type 0 = λ k z. Owns z n → ((k ≡ id) × Owns w n) ⊎ ((k ≢ id) × At views k z) in
      let each : (k : ℕ) (z : View E) → At (set views id w) k z → P k z =
      all_set views id w P (λ o. inl (refl, o)) (λ k z ne e o. inr (ne, e)) in
      elim (each i x ei oi) [
        | inl a ↦ elim (each j y ej oj) [ inl b ↦ a.0 ∙ sym b.0 | inr b ↦ absurd (new j y n b.0 b.1 oj a.1) ]
        | inr a ↦ elim (each j y ej oj) [
          | inl b ↦ absurd (new i x n a.0 a.1 oi b.1)
          | inr b ↦ once i j x y n a.1 b.1 oi oj
        ]
      ]

module _ {E : Type 0} (pass_of : E → ℕ) (issued_by : List E → ℕ)
    (grows : (xs ys : List E) → issued_by xs ≤ issued_by (xs ++ ys)) where
  abbrev Fit : List E → View E → Type 0
  Fit = Fits pass_of issued_by

  pub grown : (xs ys more : List E) → ys ≡ xs ++ more → issued_by xs ≤ issued_by ys
  grown xs ys more e = subst (λ zs. issued_by xs ≤ issued_by zs) (sym e) (grows xs more)

  pub below_more : (ns : List ℕ) (xs ys : List E) → issued_by xs ≤ issued_by ys → All (λ n. n < issued_by xs) ns
      → All (λ n. n < issued_by ys) ns
  below_more ns xs ys le h = All-weaker (λ n. n < issued_by xs) (λ n. n < issued_by ys) (λ n l. omega arith) ns h

  -- what a pass counts is no part of what the journal says of it
  pub fits_moved : (log : List E) (v : View E) (holds closes : Bool) (tries found steps moment word : ℕ) → Fit log v
      → Fit log record v {
        holds = holds;
        closes = closes;
        tries = tries;
        found = found;
        steps = steps;
        moment =
            moment;
        word = word;
      }
  fits_moved log v holds closes tries found steps moment word f = record {
    begins = f.begins;
    below = f.below;
    drawn_below = f.drawn_below;
    either = f.either;
    unused = f.unused;
    agree = f.agree;
    apart = f.apart;
  }

  pub fits_won : (log all : List E) (v : View E) (moment : ℕ) → all ≡ log → Fit log v → Fit log (won moment all v)
  fits_won log all v moment e f =
      let le : issued_by v.seen ≤ issued_by all = grown v.seen all f.begins.more (e ∙ f.begins.is) in
      let d = f.drawn_below in record {
        begins = goes_nowhere pass_of v.numbers all log e;
        below = below_more v.numbers v.seen all le f.below;
        drawn_below = omega arith;
        either = f.either;
        unused = f.unused;
        agree = f.agree;
        apart = f.apart;
      }

  pub fits_fresh : (log seen : List E) (number : ℕ) → GoesOn pass_of (number ∷ []) seen log → number < issued_by seen
      → Fit log (fresh number seen)
  fits_fresh log seen number g below = record {
    begins = g;
    below = All-cons (λ n. n < issued_by seen) number [] below (All-nil (λ n. n < issued_by seen));
    drawn_below = omega arith;
    either = λ n _ d. let a = d.1 in omega arith;
    unused = all_of (λ e. IsDrawn (fresh number seen) (pass_of e) → ⊥) (λ e d. let a = d.1 in omega arith) log;
    agree = inl (goes_nowhere pass_of [] [] [] refl);
    apart = λ n c _. none_in_nil n c;
  }

  pub fits_spent : (log : List E) → Fit log spent
  fits_spent log = record {
    begins = record {
      more = log;
      is = refl;
      others =
          all_of (λ e. Contains [] (pass_of e) → ⊥) (λ e c. none_in_nil (pass_of e) c) log;
    };
    below = All-nil (λ n. n < issued_by []);
    drawn_below = omega arith;
    either = λ n c _. none_in_nil n c;
    unused = all_of (λ e. IsDrawn (spent {E = E}) (pass_of e) → ⊥) (λ e d. let a = d.1 in omega arith) log;
    agree = inl (goes_nowhere pass_of [] [] [] refl);
    apart = λ n c _. none_in_nil n c;
  }

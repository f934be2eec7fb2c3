-- The table of starts, train by train.
use Rattle.std.proofs.Common.{◌≡◌, ◌≢◌, ℕ, ◌+◌, ◌<◌, ◌≤◌, false, true, List, [], length, take, drop, ◌++◌, inl, inr, refl, ap, subst, sym, ◌∙◌, arith}
use Rattle.std.specs.Prelude.{ℤ, pos, nat_lt, fold, replicate, slice_index_or}
use Rattle.std.specs.List.{All}
use Rattle.std.proofs.Math.Seq.{take-append_seam}
use Rattle.std.proofs.lemmas.Bool.{cases_eq, cases_Bool}
use Rattle.std.proofs.lemmas.Bool.Decides.{nat_tests}
use Rattle.std.proofs.lemmas.List.{get_or_default, get_or-replicate, length-replicate}
use Rattle.plan_model.specs.declared.cut.CutRow.{CutRow}
use Rattle.plan_model.specs.Members.{no_member}
use Rattle.headway_table.specs.declared.starts.TheConstants.{FREE}
use Rattle.plan_model.specs.Cut.{IsUsable}
use Rattle.headway_table.specs.Starts.{with_use_start, start_in, start_of, start_in_table, Changes, IsStart, AreStartsOf, AreStarts}
use Rattle.headway_table.proofs.Changed.{row}
use Rattle.headway_table.proofs.StartOf.{start_bounded}

module _ (rows : List CutRow) where
  abbrev train : ℕ → CutRow
  train j = slice_index_or rows j no_member

  pub put_in : (n p j : ℕ) → j < n → start_of rows n p j ≡ start_in (train j) p
  put_in n p j l =
      let is : nat_lt j n ≡ true = grind (arith, nat_tests) in
      rw is refl

  left_out : (n p j : ℕ) → n ≤ j → start_of rows n p j ≡ FREE
  left_out n p j l =
      let is : nat_lt j n ≡ false = grind (arith, nat_tests) in
      rw is refl

  stays : (n p j : ℕ) → j ≢ n → start_of rows n p j ≡ start_of rows (n + 1) p j
  stays n p j ne =
      elim (cases_Bool (nat_lt j n)) [
        | inl e ↦
            let less : j < n = grind (arith, nat_tests) in
            put_in n p j less ∙ sym (put_in (n + 1) p j (omega (arith, less)))
        | inr e ↦
            let more : n ≤ j = grind (arith, nat_tests) in
            left_out n p j more ∙ sym (left_out (n + 1) p j (omega (arith, more, ne)))
      ]

  module _ (places : ℕ) where
    -- one train more
    pub one_train : (n : ℕ) (table more : List (List ℤ)) → n < length rows → AreStartsOf places rows n table
        → Changes n (λ p c. fold (with_use_start (train n).entry p) c (train n).uses) table more
        → AreStartsOf places rows (n + 1) more
    one_train n table more there starts change = record {
      wide = record {
        count = change.count ∙ starts.wide.count;
        widths = λ p l. change.widths p (omega (arith, l, starts.wide.count)) ∙ starts.wide.widths p l;
      };
      each = λ p j l m.
          let within : p < length table = omega (arith, l, starts.wide.count) in
          elim (cases_eq j n) [
            | inl e ↦
                ap (λ k. start_in_table more p k) e
                ∙ change.own p within
                ∙ ap (λ s. fold (with_use_start (train n).entry p) s (train n).uses)
                (starts.each p n l there ∙ left_out n p n (omega arith))
                ∙ sym (ap (λ k. start_of rows (n + 1) p k) e ∙ put_in (n + 1) p n (omega arith))
            | inr ne ↦ change.others p j within ne ∙ starts.each p j l m ∙ stays n p j ne
          ];
    }

    -- no train yet
    pub no_train : (table : List (List ℤ)) → table ≡ replicate places (replicate (length rows) FREE)
        → AreStartsOf places rows 0 table
    no_train table is =
        let at : (p : ℕ) → p < places → row table p ≡ replicate (length rows) FREE =
        λ p l. ap (λ t. row t p) is ∙ get_or-replicate places p (replicate (length rows) FREE) [] l in
        record {
          wide = record {
            count = ap length is ∙ length-replicate places (replicate (length rows) FREE);
            widths = λ p l. ap length (at p l) ∙ length-replicate (length rows) FREE;
          };
          each = λ p j l m.
              ap (λ r. slice_index_or r j (pos 0)) (at p l)
              ∙ get_or-replicate (length rows) j FREE (pos 0) m
              ∙ sym (left_out 0 p j (omega arith));
        }

    -- where all are put in
    pub start_at : (table : List (List ℤ)) → AreStarts places rows table → (p j : ℕ) → p < places → j < length rows
        → start_in_table table p j ≡ start_in (train j) p
    start_at table starts p j l m = starts.each p j l m ∙ put_in (length rows) p j m

    pub all_bounded : (table : List (List ℤ)) → AreStarts places rows table → All (IsUsable places) rows
        → All (λ r. All IsStart r) table
    all_bounded table starts near p d l =
        let there : p < places = omega (arith, l, starts.wide.count) in
        subst (λ r. All IsStart r) (sym (get_or_default table p d [] l)) (λ j e m.
        let train_there : j < length rows = omega (arith, m, starts.wide.widths p there) in
        subst IsStart (sym (get_or_default (row table p) j e (pos 0) m ∙ start_at table starts p j there train_there))
        (start_bounded places (train j) p (near j no_member train_there)))

-- no train yet in a table that is made
pub none_made : (rows : List CutRow) (table items : List (List ℤ)) (places n : ℕ) → table ≡ items
    → items ≡ replicate places (replicate n FREE) → n ≡ length rows → AreStartsOf (length table) rows 0 table
none_made rows table items places n same made count =
    let is = same ∙ made in
    let long : length table ≡ places = ap length is ∙ length-replicate places (replicate n FREE) in
    subst (λ k. AreStartsOf k rows 0 table) (sym long)
    (no_train rows places table (is ∙ ap (λ k. replicate places (replicate k FREE)) count))

-- what is written back where a list keeps its length
pub written : {X : Type 0} (new old : List X) (n : ℕ) → length new ≡ n → take n (new ++ drop (length new) old) ≡ new
written new old n e =
    ap (λ k. take k (new ++ drop (length new) old)) (sym e) ∙ take-append_seam new (drop (length new) old)

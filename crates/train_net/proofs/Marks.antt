-- Members that are marked since a fresh one stands nearest before them.
use Rattle.std.proofs.Common.{◌≡◌, ℕ, ◌+◌, ◌-◌, ◌<◌, ◌≤◌, Bool, true, false, List, length, reverse, get_or, inl, inr, refl, sym, subst, ◌∙◌, arith}
use Rattle.std.specs.Prelude.{Option, None, Some, All, IfSome, slice_index_or}
use Rattle.std.proofs.lemmas.Bool.{cases_eq}
use Rattle.std.proofs.lemmas.List.{length-reverse, get_or-reverse}
use Rattle.std.proofs.lemmas.List.Elements.{All-from_get_or}
use Rattle.rail_model.specs.declared.stair.Use.{Use}
use Rattle.plan_model.specs.declared.cut.Cut.{Cut}
use Rattle.plan_model.specs.Members.{member, uses_place, no_use}
use Rattle.train_net.specs.declared.near.Near.{Near}
use Rattle.train_net.specs.Net.{standing, IsNearest}
use Rattle.train_net.specs.Near.{AreNearAt}
use Rattle.train_net.specs.Mended.{stood, IsNearestAfter, is_marked, AreMarked}
use Rattle.train_net.specs.Mending.{KeepMarks, IsMarkedAt}
use Rattle.train_net.proofs.Walking.{found_nearest}
use Rattle.train_net.proofs.Used.{at_used}
use Rattle.train_net.proofs.Ended.{back_at}

-- whoever is found is marked
abbrev pub IsFoundMarked : List Bool → Option Near → Type 0
IsFoundMarked marks o = IfSome o (λ x. is_marked marks x.train ≡ true)

found_keep : (o : Option Near) (marks after : List Bool) → KeepMarks marks after → IsFoundMarked marks o → IsFoundMarked after o
found_keep None marks after keep is = tt
found_keep (Some x) marks after keep is = keep x.train is

-- those at the first n uses are marked
pub record HasMarked (near : List (Option Near)) (uses : List Use) (before marks : List Bool) (n : ℕ) : Type 0 where
  pub count : length marks ≡ length before
  pub keep : KeepMarks before marks
  pub marked : (k : ℕ) → k < n → IsFoundMarked marks (slice_index_or near (get_or uses k no_use).block None)

module _ (near : List (Option Near)) (uses : List Use) (before : List Bool) where
  pub none_marked : HasMarked near uses before before 0
  none_marked = record { count = refl; keep = λ i h. h; marked = λ k l. absurd (omega (arith, l)) }

  pub next_marked : (marks after : List Bool) (n : ℕ) → HasMarked near uses before marks n → length after ≡ length marks
      → KeepMarks marks after → IsFoundMarked after (slice_index_or near (get_or uses n no_use).block None)
      → HasMarked near uses before after (n + 1)
  next_marked marks after n has count keep is = record {
    count = count ∙ has.count;
    keep = λ i h. keep i (has.keep i h);
    marked = λ k l.
        let o : ℕ → Option Near = λ i. slice_index_or near (get_or uses i no_use).block None in
        elim (cases_eq k n) [
          | inl e ↦ subst (λ i. IsFoundMarked after (o i)) (sym e) is
          | inr ne ↦ found_keep (o k) marks after keep (has.marked k (omega (arith, l, ne)))
        ];
  }

  pub all_marked : (marks : List Bool) (n : ℕ) → length uses ≤ n → HasMarked near uses before marks n
      → All (λ u. IsFoundMarked marks (slice_index_or near u.block None)) uses
  all_marked marks n le has =
      All-from_get_or (λ (u : Use). IsFoundMarked marks (slice_index_or near u.block None)) uses no_use
      (λ k l. has.marked k (omega (arith, l, le)))

-- ---- one position

module _ (cut : Cut) (origin : List (Option ℕ)) (order : List ℕ) (at : ℕ) where
  pub marked_at : (marks : List Bool) (near : List (Option Near)) → AreNearAt cut order at near
      → All (λ u. IsFoundMarked marks (slice_index_or near u.block None)) (standing cut order at).uses
      → IsMarkedAt cut origin order marks at
  marked_at marks near table marked fresh place k used nearest =
      let mark = at_used (λ p. IsFoundMarked marks (slice_index_or near p None)) (standing cut order at).uses marked place used in
      let one = found_nearest cut order at place k nearest (slice_index_or near place None) (table place used) in
      subst (λ i. is_marked marks i ≡ true) one.2 (subst (IsFoundMarked marks) one.1 mark)

  pub kept_at : (marks after : List Bool) → KeepMarks marks after → IsMarkedAt cut origin order marks at
      → IsMarkedAt cut origin order after at
  kept_at marks after keep is fresh place near used nearest = keep _ (is fresh place near used nearest)

-- ---- all, from the order's end

module _ (cut : Cut) (order : List ℕ) where
  -- the nearest after a position is the nearest before it, from the order's end
  nearest_back : (place at next : ℕ) → IsNearestAfter cut order place at next
      → IsNearest cut (reverse order) place (length order - 1 - next) (length order - 1 - at)
  nearest_back place at next is =
      let n = length order in
      let ln : next < n = is.within in
      let lt : at < next = is.later in
      record {
        before = omega (arith, ln, lt);
        uses = subst (λ i. uses_place (member cut i) place ≡ true) (sym (back_at order next ln)) is.uses;
        none = λ k after before.
            let lk : k < n = omega (arith, before, lt, ln) in
            subst (λ i. uses_place (member cut i) place ≡ false) (sym (get_or-reverse order k 0 lk))
            (is.none (n - 1 - k) (omega (arith, before, lk, lt, ln)) (omega (arith, after, lk, ln)));
      }

  pub are_marked : (origin : List (Option ℕ)) (marks : List Bool) (back : List ℕ) → back ≡ reverse order
      → ((at : ℕ) → at < length back → IsMarkedAt cut origin back marks at) → AreMarked cut origin order marks
  are_marked origin marks back is each place at next within fresh used nearest =
      let n = length order in
      let all = subst (λ (os : List ℕ). (k : ℕ) → k < length os → IsMarkedAt cut origin os marks k) is each in
      subst (λ i. is_marked marks i ≡ true) (back_at order next nearest.within)
      (all (n - 1 - at) (omega (arith, within, length-reverse order))
      (subst (λ i. stood origin i ≡ None) (sym (back_at order at within)) fresh) place (n - 1 - next)
      (subst (λ i. uses_place (member cut i) place ≡ true) (sym (back_at order at within)) used)
      (nearest_back place at next nearest))

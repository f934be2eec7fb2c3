-- The edges to all trains, made anew or carried over, and the net that they make.
use Rattle.std.proofs.Common.{◌≡◌, ◌⊎◌, ℕ, ◌+◌, ◌<◌, Bool, true, List, [], ◌∷◌, ◌++◌, length, inl, inr, refl, sym, subst, ◌∙◌, arith}
use Rattle.std.specs.Prelude.{Option, None, Some, Ok, slice_index}
use Rattle.std.specs.List.{AllZip, range_with_len}
use Rattle.std.specs.List.Sorted.{IsPermutation}
use Rattle.std.proofs.lemmas.Bool.{both_ways, cases_eq}
use Rattle.std.proofs.lemmas.List.{get_or_append_left, get_or_push, length_push}
use Rattle.plan_model.specs.declared.cut.Cut.{Cut}
use Rattle.plan_model.specs.Members.{members}
use Rattle.plan_model.specs.Cut.{IsSoundCut}
use Rattle.train_order.specs.Ordering.{IsOrdering}
use Rattle.train_order.proofs.Apart.{below}
use Rattle.train_net.specs.declared.edge.Edge.{Edge}
use Rattle.train_net.specs.declared.net.Net.{Net}
use Rattle.train_net.specs.Net.{edges_to, IsNet, FollowInTurn}
use Rattle.train_net.specs.Held.{IsNetOf}
use Rattle.train_net.specs.Mended.{stood, IsOrigin, AgreeInOrder, IsRenumbered, AreCompared, is_marked}
use Rattle.train_net.specs.Mending.{AreNow, IsMoved, AreAnew, AreMoved, AreRemade, AreRemadeUpto, AreAllMended, KeepPositions, StandAsBefore, IsMended, MendsIn}
use Rattle.train_net.proofs.Standing.{one_standing}
use Rattle.train_net.proofs.Compared.{compared_follow, unmarked_has_none_fresh}
use Rattle.train_net.proofs.Carried.{mended_is_net}

-- ---- all trains

module _ (cut : Cut) (origin now : List (Option ℕ)) (marks : List Bool) (order : List ℕ) (old : List (List Edge)) where
  pub none_remade : AreRemadeUpto cut origin now marks order old 0 []
  none_remade = record { lists = refl; each = λ j l. absurd (omega (arith, l)) }

  pub next_remade : (n : ℕ) (edges : List (List Edge)) (to : List Edge) → AreRemadeUpto cut origin now marks order old n edges
      → AreRemade cut origin now marks order old n to → AreRemadeUpto cut origin now marks order old (n + 1) (edges ++ to ∷ [])
  next_remade n edges to are is = record {
    lists = omega (arith, length_push edges to, are.lists);
    each = λ j l.
        elim (cases_eq j n) [
          | inl e ↦
              subst (AreRemade cut origin now marks order old j) (sym (get_or_push edges to [] j (omega (arith, e, are.lists))))
              (subst (λ k. AreRemade cut origin now marks order old k to) (sym e) is)
          | inr ne ↦
              let lt : j < n = omega (arith, l, ne) in
              subst (AreRemade cut origin now marks order old j)
              (sym (get_or_append_left edges (to ∷ []) [] j (omega (arith, lt, are.lists)))) (are.each j lt)
        ];
  }

-- ---- the mended net

renumbered : (origin now : List (Option ℕ)) → AreNow origin now → (xs ys : List Edge) → AllZip (IsMoved now) xs ys
    → AllZip (IsRenumbered origin) xs ys
renumbered origin now are [] [] z = z
renumbered origin now are [] (y ∷ ys) z = z
renumbered origin now are (x ∷ xs) [] z = z
renumbered origin now are (x ∷ xs) (y ∷ ys) z =
    (record { from = are x.from y.from z.0.from; weight = z.0.weight; place = z.0.place }, renumbered origin now are xs ys z.1)

module _ (old new : Cut) (origin now : List (Option ℕ)) (net : Net) (order : List ℕ) (edges : List (List Edge)) (sound : IsSoundCut old)
    (new_sound : IsSoundCut new) (is_net : IsNetOf old net) (is : IsOrigin old new origin) (once : IsPermutation (members new) order)
    (agree : AgreeInOrder origin net.order order) (are : AreNow origin now)
    (mended : AreAllMended new origin now order net.edges edges) where
  abbrev to : ℕ → List Edge
  to at = edges_to edges (slice_index order at)

  each : (at : ℕ) → at < length order
      → AreAnew new order at (to at) ⊎ AreMoved origin now mended.marks net.edges (slice_index order at) (to at)
  each at l =
      elim (mended.remade.each (slice_index order at) (below new order once at 0 l)) [
        | inl made ↦
            inl (subst (λ k. AreAnew new order k (to at)) (one_standing new order once made.at at made.within l made.is) made.anew)
        | inr moved ↦ inr moved
      ]

  -- a fresh member and one that is marked have edges that are made anew
  anew_if_fresh : (at : ℕ) → at < length order → stood origin (slice_index order at) ≡ None → AreAnew new order at (to at)
  anew_if_fresh at l fresh =
      elim (each at l) [
        | inl made ↦ made
        | inr moved ↦ absurd (let e : None ≡ Some moved.before = sym fresh ∙ moved.kept in cc)
      ]

  anew_if_marked : (at : ℕ) → at < length order → is_marked mended.marks (slice_index order at) ≡ true → AreAnew new order at (to at)
  anew_if_marked at l mark =
      elim (each at l) [
        | inl made ↦ made
        | inr moved ↦ absurd (both_ways _ moved.unmarked mark)
      ]

  compared : AreCompared new origin order
  compared = record {
    before = λ place near at l fresh used nearest. (anew_if_fresh at l fresh).follow place near nearest used;
    after = λ place at next l fresh used nearest.
        let mark = mended.marked place at next l fresh used nearest in
        (anew_if_marked next nearest.within mark).follow place at
        (record { before = nearest.later; uses = used; none = nearest.none }) nearest.uses;
  }

  follow : FollowInTurn new order
  follow = compared_follow old new origin net.order order sound is_net.net.in_order is agree compared

  both : IsNet new order edges × IsOrdering new (Ok (record { positions = order }))
  both =
      mended_is_net old new origin net.order (record { positions = order }) net.edges edges new_sound is_net.net is
      (record {
        each_once = once;
        agree = agree;
        follow = follow;
        each = λ at l.
            elim (each at l) [
              | inl made ↦ inl made.edges_are
              | inr moved ↦
                  inr (record {
                    before = moved.before;
                    kept = moved.kept;
                    renumbered = renumbered origin now are (edges_to net.edges moved.before) (to at) moved.moved;
                    none_fresh = unmarked_has_none_fresh new origin order mended.marks at mended.marked l moved.unmarked;
                  })
            ];
      })

  pub is_mended : IsMended new (record { order = order; edges = edges })
  is_mended = record { net = record { net = both.0; lists = mended.remade.lists }; ordering = both.1 }

-- ---- the order of before

agree_as_before : (origin : List (Option ℕ)) (order : List ℕ) → KeepPositions origin → AgreeInOrder origin order order
agree_as_before origin order keep k l a b lt ll kept_k kept_l = record {
  at = k;
  next = l;
  before = lt;
  within = ll;
  one = sym (keep (slice_index order k) a kept_k);
  other = sym (keep (slice_index order l) b kept_l);
}

-- where members stand as before, their order serves again
pub mends_as_before : (cut : Cut) (origin : List (Option ℕ)) (before later : Net) → StandAsBefore cut origin before
    → MendsIn cut origin before before.order later
    → (old : Cut) → IsSoundCut old → IsNetOf old before → IsOrigin old cut origin → IsMended cut later
mends_as_before cut origin before later stand mends old sound is_net is =
    mends old sound is_net is
    (subst (λ n. IsPermutation (range_with_len 0 n) before.order) (sym is_net.lists ∙ stand.lists) is_net.net.in_order.each_once)
    (agree_as_before origin before.order stand.keep)

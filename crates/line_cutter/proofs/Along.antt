-- Along a cutting: its pieces beside those of another.
use Rattle.std.proofs.Common.{◌≡◌, ℕ, suc, ◌+◌, ◌<◌, ◌≤◌, List, [], ◌∷◌, length, inl, inr, ap, arith}
use Rattle.std.specs.Prelude.{All, AllPairs, Err}
use Rattle.std.proofs.lemmas.Bool.{cases_lt}
use Rattle.std.proofs.lemmas.List.Elements.{All-nil, All-cons}
use Rattle.std.proofs.lemmas.List.Kept.{AllPairs-cons}
use Rattle.plan_model.specs.declared.cut.Cut.{Cut}
use Rattle.plan_model.specs.declared.answer.Disorder.{Disorder}
use Rattle.plan_model.specs.declared.answer.Disorder.TheVariants as disorder
use Rattle.plan_model.specs.Members.{block_count}
use Rattle.train_order.specs.Ordering.{IsOrdering}
use Rattle.line_cutter.specs.declared.found.Stretch.{Stretch}
use Rattle.line_cutter.specs.Cutting.{piece, IsOrderly, AreOrderly, IsStretch, AreStretches}
use Rattle.line_cutter.specs.Laws.{NoFewerPieces, IsLongest, EachIsLongest, IsCutAmong, EachNeedsACut, AreDisjoint, StretchesAreDisjoint, OnePieceMore}
use Rattle.line_cutter.proofs.Whole.{part_is_orderly}

-- a cut with disorder isn't orderly
pub not_orderly : (cut : Cut) (d : Disorder) → IsOrdering cut (Err d) → IsOrderly cut → ⊥
not_orderly cut (disorder.Opposite first second block1 block2) h orderly = absurd (let none = orderly.not_opposite in cc)
not_orderly cut (disorder.Ring links) h orderly = h.1 orderly.none_remains

module _ (cut : Cut) where
  -- an orderly piece that begins no later than a stretch ends no later than the stretch's piece
  pub ends_by : (a b c d : ℕ) (s : Stretch) → IsStretch cut a b s → c ≤ a → IsOrderly (piece cut c d) → d ≤ b
  ends_by a b c d s is le orderly =
      elim (cases_lt b d) [
        | inr ge ↦ ge
        | inl l ↦
            absurd (not_orderly (piece cut a (b + 1)) s.disorder is.disorder
            (part_is_orderly cut c d a (b + 1) le (omega (arith, l)) orderly))
      ]

  fewest : (ends : List ℕ) (stretches : List Stretch) (others : List ℕ) (a c : ℕ) → c ≤ a → AreOrderly cut a ends
      → AreStretches cut a ends stretches → AreOrderly cut c others → length ends ≤ length others
  fewest [] stretches others a c le x y z = omega arith
  fewest (b ∷ ends) [] [] a c le x y z = absurd (omega (arith, le, x.0, y.0, z))
  fewest (b ∷ ends) [] (d ∷ others) a c le x y z = let last = ap length y.1 in omega (arith, last)
  fewest (b ∷ ends) (s ∷ stretches) [] a c le x y z = absurd (omega (arith, le, x.0, y.0, z))
  fewest (b ∷ ends) (s ∷ stretches) (d ∷ others) a c le x y z =
      omega (arith, fewest ends stretches others b d (ends_by a b c d s y.1 le z.2) x.3 y.2 z.3)

  cut_among : (a b c : ℕ) (s : Stretch) (others : List ℕ) → c ≤ a → a < b → b < block_count cut → IsStretch cut a b s
      → AreOrderly cut c others → IsCutAmong others s
  cut_among a b c s [] le some below is z = absurd (omega (arith, le, some, below, z))
  cut_among a b c s (d ∷ others) le some below is z =
      elim (cases_lt a d) [
        | inl l ↦
            let to = ends_by a b c d s is le z.2 in
            record { piece = 0; there = omega arith; after = omega (arith, is.first, l); before = omega (arith, is.last, to) }
        | inr ge ↦
            let rest = cut_among a b d s others ge some below is z.3 in
            record { piece = suc rest.piece; there = omega (arith, rest.there); after = rest.after; before = rest.before }
      ]

  each_cut : (ends : List ℕ) (stretches : List Stretch) (others : List ℕ) (a c : ℕ) → c ≤ a → AreOrderly cut a ends
      → AreStretches cut a ends stretches → AreOrderly cut c others → All (IsCutAmong others) stretches
  each_cut [] stretches others a c le x y z = absurd y
  each_cut (b ∷ ends) [] others a c le x y z = All-nil (IsCutAmong others)
  each_cut (b ∷ ends) (s ∷ stretches) others a c le x y z =
      All-cons (IsCutAmong others) s stretches (cut_among a b c s others le x.0 y.0 y.1 z)
      (each_cut ends stretches others b c (omega (arith, le, x.0)) x.3 y.2 z)

  each_longest : (ends : List ℕ) (stretches : List Stretch) (a : ℕ) → AreOrderly cut a ends
      → AreStretches cut a ends stretches → All (IsLongest cut) stretches
  each_longest [] stretches a x y = absurd y
  each_longest (b ∷ ends) [] a x y = All-nil (IsLongest cut)
  each_longest (b ∷ ends) (s ∷ stretches) a x y =
      let is = y.1 in
      All-cons (IsLongest cut) s stretches
      (record {
        some = omega (arith, is.first, is.last, x.0);
        orderly = rw (is.first, is.last) x.2;
        longest = λ end h. let to = ends_by a b a end s is (omega arith) (rw is.first at h) in omega (arith, is.last, to);
      })
      (each_longest ends stretches b x.3 y.2)

  later : (ends : List ℕ) (stretches : List Stretch) (a k : ℕ) → k ≤ a → AreOrderly cut a ends
      → AreStretches cut a ends stretches → All (λ s. k ≤ s.first) stretches
  later [] stretches a k le x y = absurd y
  later (b ∷ ends) [] a k le x y = All-nil (λ s. k ≤ s.first)
  later (b ∷ ends) (s ∷ stretches) a k le x y =
      All-cons (λ s. k ≤ s.first) s stretches (omega (arith, le, y.1.first))
      (later ends stretches b k (omega (arith, le, x.0)) x.3 y.2)

  disjoint : (ends : List ℕ) (stretches : List Stretch) (a : ℕ) → AreOrderly cut a ends
      → AreStretches cut a ends stretches → AllPairs AreDisjoint stretches
  disjoint [] stretches a x y = absurd y
  disjoint (b ∷ ends) [] a x y = λ i j d before below. absurd (omega (arith, below))
  disjoint (b ∷ ends) (s ∷ stretches) a x y =
      AllPairs-cons AreDisjoint s stretches
      (λ k d l block in_s in_t.
      let after = later ends stretches b s.last (omega (arith, y.1.last)) x.3 y.2 k d l in
      omega (arith, after, in_s.to, in_t.from))
      (disjoint ends stretches b x.3 y.2)

  one_more : (ends : List ℕ) (stretches : List Stretch) (a : ℕ) → AreStretches cut a ends stretches
      → length ends ≡ length stretches + 1
  one_more [] stretches a y = absurd y
  one_more (b ∷ ends) [] a y = let last = ap length y.1 in omega (arith, last)
  one_more (b ∷ ends) (s ∷ stretches) a y = omega (arith, one_more ends stretches b y.2)

pub no_fewer_pieces : NoFewerPieces
no_fewer_pieces cut cutting ends is others =
    fewest cut cutting.ends cutting.stretches ends 0 0 (omega arith) is.orderly is.stretches others

pub each_is_longest : EachIsLongest
each_is_longest cut cutting is = each_longest cut cutting.ends cutting.stretches 0 is.orderly is.stretches

pub each_needs_a_cut : EachNeedsACut
each_needs_a_cut cut cutting ends is others =
    each_cut cut cutting.ends cutting.stretches ends 0 0 (omega arith) is.orderly is.stretches others

pub stretches_are_disjoint : StretchesAreDisjoint
stretches_are_disjoint cut cutting is = disjoint cut cutting.ends cutting.stretches 0 is.orderly is.stretches

pub one_piece_more : OnePieceMore
one_piece_more cut cutting is = one_more cut cutting.ends cutting.stretches 0 is.stretches

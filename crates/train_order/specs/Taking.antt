-- Members that are taken up one after the other, each after all that precede it.
use Rattle.std.specs.Prelude.{◌≡◌, ℕ, ◌+◌, ◌<◌, true, false, not, List, [], ◌∷◌, length, take, filter, slice_index, All, ⊤}
use Rattle.std.specs.List.{range_with_len}
pub use Rattle.plan_model.specs.Members.{is_among}
use Rattle.train_order.specs.Types.{MemberSet}
use Rattle.train_order.specs.Sets.{holds, relates}

-- no number stands twice
abbrev pub IsDistinct : List ℕ → Type 0
IsDistinct [] = ⊤
IsDistinct (i ∷ some) = (is_among some i ≡ false) × IsDistinct some

-- the numbers below n that are not among some
abbrev pub left_of : ℕ → List ℕ → List ℕ
left_of n some = filter (λ i. not (is_among some i)) (range_with_len 0 n)

-- the numbers below n that are not in a set
abbrev pub left_in : ℕ → List ℕ → List ℕ
left_in n words = filter (λ i. not (holds words i)) (range_with_len 0 n)

-- each member is taken up once, after all that precede it
pub record IsTaken (sets : List MemberSet) (taken : List ℕ) : Type 0 where
  pub within : All (λ k. k < length sets) taken
  pub once : IsDistinct taken
  pub after : (k i : ℕ) → k < length taken → i < length sets → relates sets i (slice_index taken k) ≡ true
      → is_among (take k taken) i ≡ true

-- a member that precedes j and is not taken up
pub record IsWaitedFor (sets : List MemberSet) (taken : List ℕ) (j : ℕ) : Type 0 where
  pub member : ℕ
  pub there : member < length sets
  pub left : is_among taken member ≡ false
  pub precedes : relates sets member j ≡ true

-- all are taken up that can be: each other one waits for one that is not taken up
pub record AreTakenUp (sets : List MemberSet) (taken : List ℕ) : Type 0 where
  pub sound : IsTaken sets taken
  pub left : (j : ℕ) → j < length sets → is_among taken j ≡ false → IsWaitedFor sets taken j

-- those that are taken up so far are those of a set
pub record IsUp (sets : List MemberSet) (taken words : List ℕ) : Type 0 where
  pub sound : IsTaken sets taken
  pub same : (k : ℕ) → holds words k ≡ is_among taken k

-- a member is free: it isn't in the set, and all that precede it are
pub record IsFree (sets : List MemberSet) (words : List ℕ) (j : ℕ) : Type 0 where
  pub fresh : holds words j ≡ false
  pub after : (i : ℕ) → i < length sets → relates sets i j ≡ true → holds words i ≡ true

-- a member was tried and isn't taken up
pub record IsTried (sets : List MemberSet) (taken tried : List ℕ) (j : ℕ) : Type 0 where
  pub there : j < length sets
  pub came : holds tried j ≡ true
  pub left : is_among taken j ≡ false

-- a member that precedes j, was tried and isn't taken up, and is not on a path
pub record IsHeld (sets : List MemberSet) (taken tried path : List ℕ) (j : ℕ) : Type 0 where
  pub member : ℕ
  pub is_tried : IsTried sets taken tried member
  pub apart : is_among path member ≡ false
  pub precedes : relates sets member j ≡ true

-- how far the work is: those of a set are taken up. On a path each member is preceded by the next. Each other one that
-- was tried is taken up or waits for one that is left for good
pub record IsTaking (sets : List MemberSet) (taken words tried path : List ℕ) : Type 0 where
  pub up : IsUp sets taken words
  pub all_tried : (j : ℕ) → is_among taken j ≡ true → holds tried j ≡ true
  pub once : IsDistinct path
  pub on_path : (k : ℕ) → k < length path → IsTried sets taken tried (slice_index path k)
  pub links : (k : ℕ) → k + 1 < length path → relates sets (slice_index path (k + 1)) (slice_index path k) ≡ true
  pub rest : (j : ℕ) → holds tried j ≡ true → is_among taken j ≡ false → is_among path j ≡ false
      → IsHeld sets taken tried path j

-- Sets of members, as bits of words, and tables that have a set for each member.
use Rattle.std.specs.Prelude.{◌≡◌, ℕ, ◌<◌, ◌≤◌, ◌/◌, ◌%◌, ◌==◌, Bool, true, false, List, [], length, slice_index, slice_index_or}
use Rattle.std.specs.Int.{bit_at}
use Rattle.plan_model.specs.declared.limits.TheConstants.{MEMBERS}
use Rattle.plan_model.specs.declared.cut.Cut.{Cut}
use Rattle.plan_model.specs.Members.{member_count, precedes_somewhere}
use Rattle.train_order.specs.Types.{MemberSet}

-- a member is in the set: its bit of the word that has it is 1
abbrev pub holds : List ℕ → ℕ → Bool
holds words k = bit_at (slice_index words (k / 64)) (k % 64) == 1

-- a bit of a word is the first that is 1 from one on, or 64 where none is
pub record IsFirstBit (word from found : ℕ) : Type 0 where
  pub within : found ≤ 64
  pub from_on : from ≤ found
  pub none : (i : ℕ) → from ≤ i → i < found → bit_at word i ≡ 0
  pub there : found < 64 → bit_at word found ≡ 1

-- a member is the first in the set from one on; where there is none, a number that is above those of all members
pub record IsFirstMember (words : List ℕ) (from found : ℕ) : Type 0 where
  pub from_on : from ≤ found
  pub none : (k : ℕ) → from ≤ k → k < found → holds words k ≡ false
  pub there : found < MEMBERS → holds words found ≡ true

-- a member is the first in a set that isn't in another; where there is none, a number that is above those of all members
pub record IsFirstOutside (words others : List ℕ) (found : ℕ) : Type 0 where
  pub none : (k : ℕ) → k < found → holds words k ≡ true → holds others k ≡ true
  pub there : found < MEMBERS → holds words found ≡ true
  pub outside : found < MEMBERS → holds others found ≡ false

-- stands where there is no set
abbrev pub no_set : MemberSet
no_set = record { words = [] }

-- member i precedes member j by the sets: it is in that of member j
abbrev pub relates : List MemberSet → ℕ → ℕ → Bool
relates sets i j = holds (slice_index_or sets j no_set).words i

-- the set of each member has those that precede it somewhere
pub record ArePreceded (cut : Cut) (sets : List MemberSet) : Type 0 where
  pub count : length sets ≡ member_count cut
  pub each : (i j : ℕ) → i < member_count cut → j < member_count cut → relates sets i j ≡ precedes_somewhere cut i j

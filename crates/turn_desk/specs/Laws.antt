-- Laws for those who keep facts about what passes have seen.
use Rattle.std.specs.Prelude.{◌≡◌, ℕ, ◌+◌, ◌<◌, List, [], ◌∷◌, ◌++◌, length, slice_index_or, All}
use Rattle.turn_desk.specs.Journal.{GoesOn}
use Rattle.turn_desk.specs.Known.{Known, TableId, AgreeOn, new_pass, new_passes}
use Rattle.turn_desk.specs.Views.{longer}

module _ {E : Type 0} where
  -- each entry that carries the number has the property
  abbrev pub AllOwn : (E → ℕ) → (E → Type 0) → ℕ → List E → Type 0
  AllOwn pass_of P number xs = All (λ e. pass_of e ≡ number → P e) xs

  -- What is seen once one pass has left into another goes on from what either had seen, by entries of none of
  -- its numbers
  abbrev pub LeavingGoesOn : (E → ℕ) → Type 0
  LeavingGoesOn pass_of = (k other : Known E) → AgreeOn pass_of k other
      → GoesOn pass_of k.numbers k.seen (longer k.seen other.seen)
      × GoesOn pass_of other.numbers other.seen (longer k.seen other.seen)

  -- a list that goes on from one which goes on from what was seen goes on from it, too
  abbrev pub GoingOnAddsUp : (E → ℕ) → Type 0
  GoingOnAddsUp pass_of = (numbers : List ℕ) (seen found log : List E) → GoesOn pass_of numbers seen found
      → GoesOn pass_of numbers found log → GoesOn pass_of numbers seen log

  -- There are as many new passes as numbers were drawn, each at the place of its number. One more number gives
  -- one more pass at the end
  pub record NewPassesStandInOrder (desk : TableId) (seen : List E) (first count : ℕ) : Type 0 where
    pub many : length (new_passes desk seen first count) ≡ count
    pub at : (i : ℕ) (other : Known E) → i < count
        → slice_index_or (new_passes desk seen first count) i other ≡ new_pass desk (first + i) seen
    pub more : new_passes desk seen first (count + 1)
        ≡ new_passes desk seen first count ++ new_pass desk (first + count) seen ∷ []

-- the numbers of a desk, which are those of no other
abbrev pub numbers_of : TableId → List ℕ
numbers_of d = d.words ∷ d.slots ∷ d.views_name ∷ d.atom ∷ d.block ∷ d.offset ∷ d.slot_names

abbrev pub NumbersTellDesks : Type 0
NumbersTellDesks = (a b : TableId) → numbers_of a ≡ numbers_of b → a ≡ b

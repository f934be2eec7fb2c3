-- Laws of orders.
use Rattle.std.specs.Prelude.{◌≡◌, ℕ, ◌<◌, true, false, List, length, take, slice_index, Ok, Err, IsTrue}
use Rattle.plan_model.specs.declared.cut.Cut.{Cut}
use Rattle.plan_model.specs.Members.{member, member_count, precedes}
use Rattle.plan_model.specs.Cut.{IsSoundCut}
use Rattle.plan_model.specs.declared.answer.Disorder.{Disorder}
use Rattle.train_order.specs.Types.{Order}
use Rattle.train_order.specs.Taking.{is_among}
use Rattle.train_order.specs.Ordering.{IsOrder, IsOrdering}

-- a member comes next after some others: it isn't one of them, all that precede it are, and it precedes none of them
pub record ComesNext (cut : Cut) (some : List ℕ) (j : ℕ) : Type 0 where
  pub there : j < member_count cut
  pub not_yet : is_among some j ≡ false
  pub before : (i place : ℕ) → IsTrue (precedes (member cut i) (member cut j) place) → is_among some i ≡ true
  pub none_after : (i place : ℕ) → is_among some i ≡ true → IsTrue (precedes (member cut j) (member cut i) place) → ⊥

-- each member of an order of a sound cut comes next after those that stand before it
abbrev pub EachComesNext : Type 0
EachComesNext =
    (cut : Cut) (order : List ℕ) → IsSoundCut cut → IsOrder cut order
    → (k : ℕ) → k < length order → ComesNext cut (take k order) (slice_index order k)

-- a cut has at most one disorder: one opposite pair with its places, or one ring
abbrev pub DisorderIsUnique : Type 0
DisorderIsUnique =
    (cut : Cut) (disorder other : Disorder) → IsOrdering cut (Err disorder) → IsOrdering cut (Err other)
    → disorder ≡ other

-- a cut whose members have an order has no disorder
abbrev pub OrderedHasNoDisorder : Type 0
OrderedHasNoDisorder =
    (cut : Cut) (order : Order) (disorder : Disorder) → IsOrdering cut (Ok order) → IsOrdering cut (Err disorder) → ⊥

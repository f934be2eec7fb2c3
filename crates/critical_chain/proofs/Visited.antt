-- What is moved with a train's entry, and the members that use a block, one after the other.
use Rattle.std.proofs.Common.{◌≡◌, ℕ, ◌+◌, ◌<◌, length, get_or, List, [], ◌∷◌, ◌++◌, refl, sym, ap, subst, ◌∙◌, arith}
use Rattle.std.specs.Prelude.{ℤ, ◌+ℤ◌, ◌-ℤ◌, ◌<ℤ◌, pos, nat_abs, Option, None, Some, fold, filter}
use Rattle.std.specs.List.{range_with_len}
use Rattle.std.proofs.lemmas.Int.{ints}
use Rattle.rail_model.specs.declared.stair.Use.{Use}
use Rattle.plan_model.specs.declared.cut.Cut.{Cut}
use Rattle.plan_model.specs.Members.{member, uses_place, use_of, use_at}
use Rattle.plan_model.specs.Cut.{IsSoundCut, IsMoment}
use Rattle.plan_model.specs.declared.answer.Tie.{Tie}
use Rattle.plan_model.specs.declared.answer.Placed.{Placed}
use Rattle.plan_model.specs.Schedule.{entry_at, start_by, end_by}
use Rattle.plan_model.proofs.Uses.{takes_time, is_used, its_use}
use Rattle.plan_model.proofs.Sound.{use_sound}
use Rattle.train_order.specs.declared.visits.Visit.{Visit}
use Rattle.train_order.specs.Visits.{no_visit, AreInTurn}
use Rattle.train_order.proofs.InTurn.{IsVisit, is_visit}
use Rattle.train_order.proofs.Ranges.{passing_yes, passing_no}
use Rattle.critical_chain.specs.declared.last.Latest.{Latest}
use Rattle.critical_chain.specs.Parts.{later, latest_upto, Follows, MayFollowAt, tie_in}

-- ---- a visit

-- what lasts so long from a start ends at its end
lasting : (s f e y : ℤ) → s <ℤ f → (s -ℤ e +ℤ y +ℤ pos (nat_abs (f -ℤ s))) ≡ (f -ℤ e +ℤ y)
lasting s f e y h = omega (arith, ints, h)

module _ (cut : Cut) (entries : List ℤ) (place : ℕ) (v : Visit) (is : IsVisit cut place v) where
  pub starts_at : (v.start -ℤ (member cut v.member).entry +ℤ entry_at entries v.member) ≡ start_by cut entries v.member place
  starts_at = ap (λ (w : Visit). w.start -ℤ (member cut v.member).entry +ℤ entry_at entries v.member) is.is

  pub ends_at : IsSoundCut cut
      → (v.start -ℤ (member cut v.member).entry +ℤ entry_at entries v.member +ℤ pos v.lasts_s) ≡ end_by cut entries v.member place
  ends_at sound =
      let u = use_at (member cut v.member) place in
      ap (λ (w : Visit). w.start -ℤ (member cut v.member).entry +ℤ entry_at entries v.member +ℤ pos w.lasts_s) is.is
      ∙ lasting u.start u.«end» (member cut v.member).entry (entry_at entries v.member)
      (takes_time cut sound v.member place is.there is.used)

  pub starts_within : IsSoundCut cut → IsMoment v.start
  starts_within sound =
      subst (λ (w : Visit). IsMoment w.start) (sym is.is) (use_sound cut sound v.member is.there place is.used).starts

-- a visit may follow the one before it
module _ (cut : Cut) (entries : List ℤ) (placed : List Placed) (place : ℕ) (sound : IsSoundCut cut) (some : List Visit)
    (are : AreInTurn cut place some) (j k : ℕ) (e : j + 1 ≡ k) (l : k < length some) (until from : ℤ) (tie : Tie) where
  abbrev v : Visit
  v = get_or some j no_visit

  abbrev w : Visit
  w = get_or some k no_visit

  module _ (ends : until ≡ (v.start -ℤ (member cut v.member).entry +ℤ entry_at entries v.member +ℤ pos v.lasts_s))
      (starts : from ≡ (w.start -ℤ (member cut w.member).entry +ℤ entry_at entries w.member))
      (its : tie ≡ tie_in placed w.member) where
    until_is : until ≡ end_by cut entries v.member place
    until_is = ends ∙ ends_at cut entries place v (is_visit cut place some are j (omega (arith, e, l))) sound

    from_is : from ≡ start_by cut entries w.member place
    from_is = starts ∙ starts_at cut entries place w (is_visit cut place some are k l)

    same : Follows cut until from v.member place tie
        ≡ Follows cut (end_by cut entries v.member place) (start_by cut entries w.member place) v.member place (tie_in placed w.member)
    same =
        ap (λ x. Follows cut x from v.member place tie) until_is
        ∙ ap (λ x. Follows cut (end_by cut entries v.member place) x v.member place tie) from_is
        ∙ ap (λ x. Follows cut (end_by cut entries v.member place) (start_by cut entries w.member place) v.member place x) its

    abbrev at : ℕ → Type 0
    at m = Follows cut (end_by cut entries v.member place) (start_by cut entries (get_or some m no_visit).member place) v.member
        place (tie_in placed (get_or some m no_visit).member)

    pub may : Follows cut until from v.member place tie → MayFollowAt cut entries placed place some j
    may h = subst at (sym e) (subst (λ T. T) same h)

    pub may_back : MayFollowAt cut entries placed place some j → Follows cut until from v.member place tie
    may_back h = subst (λ T. T) (sym same) (subst at e h)

-- ---- one member more

fold_one : {A X : Type 0} (f : A → X → A) (a : A) (xs : List X) (x : X) → fold f a (xs ++ x ∷ []) ≡ f (fold f a xs) x
fold_one f a [] x = refl
fold_one f a (y ∷ xs) x = fold_one f (f a y) xs x

module _ (cut : Cut) (entries : List ℤ) (block n : ℕ) where
  abbrev step : Option Latest → ℕ → Option Latest
  step latest i = later latest i (end_by cut entries i block)

  pub latest_with : (u : Use) → use_of (member cut n) block ≡ Some u
      → latest_upto cut entries block (n + 1)
      ≡ later (latest_upto cut entries block n) n (u.«end» -ℤ (member cut n).entry +ℤ entry_at entries n)
  latest_with u e =
      ap (fold step None) (passing_yes (λ i. uses_place (member cut i) block) n (is_used (member cut n) block (Some u) e))
      ∙ fold_one step None (filter (λ i. uses_place (member cut i) block) (range_with_len 0 n)) n
      ∙ ap (λ (x : Use). later (latest_upto cut entries block n) n (x.«end» -ℤ (member cut n).entry +ℤ entry_at entries n))
      (its_use (member cut n) block u e)

  pub latest_without : use_of (member cut n) block ≡ None
      → latest_upto cut entries block (n + 1) ≡ latest_upto cut entries block n
  latest_without e =
      ap (fold step None) (passing_no (λ i. uses_place (member cut i) block) n (is_used (member cut n) block None e))

use Rattle.std.proofs.Common.{◌≡◌, ℕ, Bool, ◌+◌, ◌-◌, ◌<◌, ◌≤◌, ◌||◌, ◌++◌, ◌∷◌, List, [], length, drop, get_or, refl, sym, ap, subst, ◌∙◌, arith, length-append}
use Rattle.std.specs.List.{All, list_any}
use Rattle.std.specs.List.Sorted.{IsPermutation}
use Rattle.std.proofs.Math.Bool.{or_comm}
use Rattle.std.proofs.lemmas.List.{get_or_append_left, get_or-append_right, drop_more, drop_all}
use Rattle.std.proofs.lemmas.List.FromFn.{length-range_with_len, get_or-range_with_len}
use Rattle.plan_model.specs.declared.cut.Cut.{Cut}
use Rattle.plan_model.specs.Members.{place_count, places, member, member_count, precedes}
use Rattle.train_order.specs.declared.visits.Visit.{Visit}
use Rattle.train_order.specs.Visits.{AreVisits, listed_at, visits}
use Rattle.train_order.proofs.InTurn.{visitors_there, taken_in}
use Rattle.train_order.proofs.precedence.put_listed.Goals as goal

-- the last list has the visits of its place
module _ (cut : Cut) (all lists rest : List (List Visit)) (list : List Visit)
    (have : AreVisits cut (member_count cut) (place_count cut) all)
    (same : (place : ℕ) → place < length lists → listed_at lists place ≡ listed_at all place)
    (is : lists ≡ rest ++ list ∷ []) where
  long : length lists ≡ length rest + 1
  long = ap length is ∙ length-append rest (list ∷ [])

  listed : length lists ≤ length all → visits cut (length rest) ≡ list
  listed l =
      sym (have.each (length rest) (omega (arith, l, long, have.count)))
      ∙ sym (same (length rest) (omega (arith, long)))
      ∙ ap (λ ls. get_or ls (length rest) []) is
      ∙ get_or-append_right rest (list ∷ []) (length rest) (length rest) [] refl (omega arith)
      ∙ ap (λ k. get_or (list ∷ []) k []) (let z : length rest - length rest ≡ 0 = omega arith in z)

  still : (place : ℕ) → place < length rest → listed_at rest place ≡ listed_at all place
  still place l =
      sym (ap (λ ls. get_or ls place []) is ∙ get_or_append_left rest (list ∷ []) [] place l)
      ∙ same place (omega (arith, l, long))

-- the last places, with one more
place_more : (cut : Cut) (test : ℕ → Bool) (k n : ℕ) → n ≡ k + 1 → n ≤ place_count cut
    → list_any test (drop k (places cut)) ≡ (list_any test (drop n (places cut)) || test k)
place_more cut test k n e l =
    let here : k < length (places cut) = omega (arith, e, l, length-range_with_len 0 (place_count cut)) in
    ap (list_any test)
    (drop_more (places cut) k 0 here
    ∙ ap (λ p. p ∷ drop (k + 1) (places cut)) (get_or-range_with_len 0 (place_count cut) k 0 (omega (arith, e, l)) ∙ omega arith)
    ∙ ap (λ m. k ∷ drop m (places cut)) (sym e))
    ∙ or_comm (test k) (list_any test (drop n (places cut)))

pub loop-list-init : goal.loop-list-init
loop-list-init c =
    let cut = c.args.cut.now in
    let all = c.args.lists.now.items in
    record {
      within = omega arith;
      lists = λ place l. refl;
      count = c.requires.count;
      each = λ i j li lj.
          c.requires.none i j (omega (arith, lj, c.requires.count))
          ∙ sym (ap (list_any (precedes (member cut i) (member cut j)))
          (drop_all (length all) (places cut) (omega (arith, c.requires.lists.count, length-range_with_len 0 (place_count cut)))));
    }

pub take_in_visits-requires-clause-there : goal.take_in_visits-requires-clause-there
take_in_visits-requires-clause-there c =
    let cut = c.args.cut.now in
    let inv = c.loop-list.invariant in
    let rest = c.pop.new.self.items in
    let here = listed cut c.args.lists.now.items c.loop-list.lists.items rest c.in-Some.list c.requires.lists inv.lists c.in-Some.ensures.items inv.within in
    subst (λ n. All (λ (v : Visit). v.member < n) c.deref_mut.result.now) (sym inv.count)
    (subst (λ vs. All (λ (v : Visit). v.member < member_count cut) vs)
    (here ∙ sym (c.deref_mut.ensures.value ∙ c.into_vec-visits.ensures)) (visitors_there cut (length rest)))

pub loop-list-preserved : goal.loop-list-preserved
loop-list-preserved c =
    let cut = c.args.cut.now in
    let all = c.args.lists.now.items in
    let now = c.loop-list.lists.items in
    let rest = c.pop.new.self.items in
    let list = c.in-Some.list in
    let inv = c.loop-list.invariant in
    let longer = long cut all now rest list c.requires.lists inv.lists c.in-Some.ensures.items in
    let here = listed cut all now rest list c.requires.lists inv.lists c.in-Some.ensures.items inv.within in
    let lent = here ∙ sym (c.deref_mut.ensures.value ∙ c.into_vec-visits.ensures) in
    record {
      within = omega (arith, longer, inv.within);
      lists = still cut all now rest list c.requires.lists inv.lists c.in-Some.ensures.items;
      count = c.take_in_visits.ensures.count ∙ inv.count;
      each = λ i j li lj.
          taken_in cut c.requires.sound (length rest) c.take_in_visits.new.visits (record {
            same = subst (λ vs. IsPermutation vs c.take_in_visits.new.visits) (sym lent) c.take_in_visits.ensures.same;
            order = c.take_in_visits.ensures.order;
          }) c.loop-list.sets c.take_in_visits.new.sets c.take_in_visits.ensures.sets i j li lj
          ∙ ap (λ b. b || precedes (member cut i) (member cut j) (length rest)) (inv.each i j li lj)
          ∙ sym (place_more cut (precedes (member cut i) (member cut j)) (length rest) (length now) longer
          (omega (arith, inv.within, c.requires.lists.count)));
    }

-- Trains that enter one after the other, each as early as its floor and the edges to it allow.
use Rattle.std.proofs.Common.{◌≡◌, ◌≢◌, ℕ, ◌+◌, ◌<◌, ◌≤◌, List, ◌++◌, ◌∷◌, [], length, get_or, set, inl, inr, refl, sym, ap, subst, ◌∙◌, arith, length-set}
use Rattle.std.specs.Prelude.{ℤ, pos, ◌+ℤ◌, ◌-ℤ◌, ◌≤ℤ◌, All, Any, slice_index}
use Rattle.std.specs.Int.{int_max}
use Rattle.std.proofs.lemmas.Bool.{cases_eq}
use Rattle.std.proofs.lemmas.Int.{ints}
use Rattle.std.proofs.lemmas.List.{get_or-set_other, get_or-set_same}
use Rattle.std.proofs.lemmas.List.Elements.{All-push, All-set}
use Rattle.std.proofs.lemmas.List.Quantifiers.{Any-push}
use Rattle.plan_model.specs.declared.limits.TheConstants.{MEMBERS}
use Rattle.plan_model.specs.declared.cut.Cut.{Cut}
use Rattle.plan_model.specs.Members.{place_count, member, member_count, use_at}
use Rattle.plan_model.specs.Schedule.{window_start, window_floor, entry_at}
use Rattle.plan_model.specs.Cut.{IsSoundCut, IsMoment}
use Rattle.plan_model.proofs.Sound.{use_sound, usable}
use Rattle.train_order.proofs.Apart.{below}
use Rattle.train_order.proofs.Users.{users, somewhere}
use Rattle.train_placing.specs.Last.{IsNear}
use Rattle.train_placing.specs.Placing.{latest}
use Rattle.train_placing.proofs.Moments.{later_still}
use Rattle.train_placing.proofs.Row.{max_either, max_left, max_right}
use Rattle.train_net.specs.declared.edge.Edge.{Edge}
use Rattle.train_net.specs.Net.{IsEdge, edges_to, IsNet}
use Rattle.train_net.specs.Read.{by_edge, IsSolved, AreSolved}
use Rattle.train_net.specs.Reading.{IsShort}
use Rattle.train_net.proofs.Standing.{stands, one_standing, before_by, edge_to}
use Rattle.train_net.proofs.Gathering.{any_before}

-- the first n trains of an order have entered, and no entry is later than n trains allow
pub record AreEntered (cut : Cut) (order : List ℕ) (edges : List (List Edge)) (n : ℕ) (entries : List ℤ) : Type 0 where
  pub count : length entries ≡ member_count cut
  pub from : All (λ t. window_start cut ≤ℤ t) entries
  pub latest : All (λ t. t ≤ℤ latest n) entries
  pub solved : (m : ℕ) → m < n
      → IsSolved (window_start cut) (edges_to edges (slice_index order m)) entries (entry_at entries (slice_index order m))

-- ---- with one edge more

no_less : (a b c : ℤ) → a ≤ℤ b → b ≤ℤ c → a ≤ℤ c
no_less a b c p q = omega (arith, ints)

pub solved_none : (floor : ℤ) (entries : List ℤ) → IsSolved floor [] entries floor
solved_none floor entries = record {
  from = omega (arith, ints);
  after = λ k d l. absurd (omega (arith, l));
  tied = inl refl;
}

pub solved_more : (floor : ℤ) (edges : List Edge) (entries : List ℤ) (entry : ℤ) (e : Edge) → IsSolved floor edges entries entry
    → IsSolved floor (edges ++ e ∷ []) entries (int_max entry (by_edge entries e))
solved_more floor edges entries entry e is =
    let by = by_edge entries e in
    let next = int_max entry by in
    record {
      from = no_less floor entry next is.from (max_left entry by);
      after =
          All-push (λ f. by_edge entries f ≤ℤ next) edges e
          (λ k d l. no_less (by_edge entries (get_or edges k d)) entry next (is.after k d l) (max_left entry by)) (max_right entry by);
      tied =
          elim (max_either entry by) [
            | inl same ↦
                elim is.tied [
                  | inl at_floor ↦ inl (same ∙ at_floor)
                  | inr any ↦
                      inr (any_before (λ f. next ≡ by_edge entries f) edges e
                      (subst (λ t. Any (λ f. t ≡ by_edge entries f) edges) (sym same) any))
                ]
            | inr other ↦ inr (Any-push (λ f. next ≡ by_edge entries f) edges e other)
          ];
    }

-- ---- limits

short_between : (stop a start b w : ℤ) → w ≡ ((stop -ℤ a) -ℤ (start -ℤ b)) → IsMoment stop → IsMoment a → IsMoment start → IsMoment b
    → IsShort w
short_between stop a start b w e c d f g = record {
  after = omega (arith, ints, e, c.after, d.before, f.before, g.after);
  before = omega (arith, ints, e, c.before, d.after, f.after, g.before);
}

-- an edge of a sound cut asks for no more than moments of a timetable lie apart
pub edge_short : (cut : Cut) → IsSoundCut cut → (j : ℕ) → j < member_count cut → (e : Edge) → IsEdge cut j e → IsShort e.weight
edge_short cut sound j lj e edge =
    let uses = users cut e.from j e.place edge.precedes in
    let a = member cut e.from in
    let b = member cut j in
    short_between (use_at a e.place).«end» a.entry (use_at b e.place).start b.entry e.weight edge.weight
    (use_sound cut sound e.from edge.there e.place uses.0).ends (usable cut sound e.from edge.there).entry
    (use_sound cut sound j lj e.place uses.1).starts (usable cut sound j lj).entry

near_between : (n : ℕ) (start t : ℤ) → IsMoment start → start ≤ℤ t → t ≤ℤ latest n → n ≤ MEMBERS → IsNear t
near_between n start t m from before few = record {
  after = omega (arith, ints, m.after, from);
  before = omega (arith, ints, before, few);
}

latest_by : (n : ℕ) (x w t : ℤ) → t ≡ (x +ℤ w) → x ≤ℤ latest n → IsShort w → t ≤ℤ latest (n + 1)
latest_by n x w t e h short = omega (arith, ints, e, h, short.before)

latest_first : (n : ℕ) (start : ℤ) → IsMoment start → start ≤ℤ latest n
latest_first n start m = omega (arith, ints, m.before)

module _ (cut : Cut) (order : List ℕ) (edges : List (List Edge)) (sound : IsSoundCut cut) (net : IsNet cut order edges) where
  pub train_there : (n : ℕ) → n < length order → get_or order n 0 < member_count cut
  train_there n l = below cut order net.in_order.each_once n 0 l

  pub edges_there : (n : ℕ) → n < length order → All (IsEdge cut (get_or order n 0)) (edges_to edges (get_or order n 0))
  edges_there n l = edge_to cut order edges net (get_or order n 0) (train_there n l)

  -- what is known of the edges to a train
  module _ (j : ℕ) (lj : j < member_count cut) where
    pub from_there : All (λ e. e.from < member_count cut) (edges_to edges j)
    from_there k d l = (edge_to cut order edges net j lj k d l).there

    pub places_there : All (λ e. e.place < place_count cut) (edges_to edges j)
    places_there k d l = (edge_to cut order edges net j lj k d l).place_there

    pub all_short : All (λ e. IsShort e.weight) (edges_to edges j)
    all_short k d l = edge_short cut sound j lj _ (edge_to cut order edges net j lj k d l)

  start_moment : IsMoment (window_start cut)
  start_moment = record { after = omega (arith, ints); before = sound.window_start }

  pub none_entered : (entries : List ℤ) → length entries ≡ member_count cut → All (λ t. t ≡ window_start cut) entries
      → AreEntered cut order edges 0 entries
  none_entered entries count first = record {
    count = count;
    from = λ k d l. let e = first k d l in omega (arith, ints, e);
    latest = λ k d l. subst (λ t. t ≤ℤ latest 0) (sym (first k d l)) (latest_first 0 (window_start cut) start_moment);
    solved = λ m l. absurd (omega (arith, l));
  }

  -- no edge to one of the first n + 1 is from the one that stands behind n others
  never_from : (n m : ℕ) → n < length order → m ≤ n → All (λ e. e.from ≢ get_or order n 0) (edges_to edges (get_or order m 0))
  never_from n m ln le k d l e =
      let j = get_or order m 0 in
      let lm : m < length order = omega (arith, le, ln) in
      let f = get_or (edges_to edges j) k d in
      let edge = edges_there m lm k d l in
      let stand = net.in_order.before f.from j edge.there (train_there m lm)
      (somewhere cut f.from j f.place edge.place_there edge.precedes) in
      let lt = before_by cut order net.in_order.each_once f.from j n m stand ln lm (sym e) refl in
      omega (arith, lt, le)

  module _ (n : ℕ) (entries : List ℤ) (t : ℤ) (ln : n < length order) where
    abbrev train : ℕ
    train = get_or order n 0

    solved_still : (floor : ℤ) (to : List Edge) (entry : ℤ) → All (λ e. e.from ≢ train) to → IsSolved floor to entries entry
        → IsSolved floor to (set entries train t) entry
    solved_still floor to entry never is =
        let same : (e : Edge) → e.from ≢ train → by_edge (set entries train t) e ≡ by_edge entries e =
        λ e ne. ap (λ x. x +ℤ e.weight) (get_or-set_other entries train e.from t (pos 0) ne) in
        record {
          from = is.from;
          after = λ k d l. subst (λ x. x ≤ℤ entry) (sym (same (get_or to k d) (never k d l))) (is.after k d l);
          tied =
              elim is.tied [
                | inl e ↦ inl e
                | inr (k, e, l, at, enters) ↦
                    inr (k, e, l, at, enters ∙ sym (same e (subst (λ f. f.from ≢ train) at (never k e l))))
              ];
        }

    pub next_entered : AreEntered cut order edges n entries → IsSolved (window_start cut) (edges_to edges train) entries t
        → AreEntered cut order edges (n + 1) (set entries train t)
    next_entered entered is =
        let lt = train_there n ln in
        let there : train < length entries = omega (arith, lt, entered.count) in
        record {
          count = length-set entries train t ∙ entered.count;
          from = All-set (λ x. window_start cut ≤ℤ x) entries train t is.from entered.from;
          latest =
              All-set (λ x. x ≤ℤ latest (n + 1)) entries train t
              (elim is.tied [
                | inl e ↦ subst (λ x. x ≤ℤ latest (n + 1)) (sym e) (latest_first (n + 1) (window_start cut) start_moment)
                | inr (k, e, l, at, enters) ↦
                    let edge : IsEdge cut train e = subst (IsEdge cut train) at (edges_there n ln k e l) in
                    latest_by n (entry_at entries e.from) e.weight t enters
                    (entered.latest e.from (pos 0) (omega (arith, edge.there, entered.count))) (edge_short cut sound train lt e edge)
              ])
              (λ k d l. later_still n _ (entered.latest k d l));
          solved = λ m l.
              let j = get_or order m 0 in
              elim (cases_eq m n) [
                | inl e ↦
                    let same : j ≡ train = ap (λ k. get_or order k 0) e in
                    let set_is : entry_at (set entries train t) train ≡ t = get_or-set_same entries train t (pos 0) there in
                    subst (λ i. IsSolved (window_start cut) (edges_to edges i) (set entries train t) (entry_at (set entries train t) i)) (sym same)
                    (subst (IsSolved (window_start cut) (edges_to edges train) (set entries train t)) (sym set_is)
                    (solved_still (window_start cut) (edges_to edges train) t (never_from n n ln (omega arith)) is))
                | inr ne ↦
                    let lm : m < n = omega (arith, l, ne) in
                    let differ : j ≢ train = λ e. ne (one_standing cut order net.in_order.each_once m n (omega (arith, lm, ln)) ln e) in
                    subst (IsSolved (window_start cut) (edges_to edges j) (set entries train t))
                    (sym (get_or-set_other entries train j t (pos 0) differ))
                    (solved_still (window_start cut) (edges_to edges j) (entry_at entries j) (never_from n m ln (omega (arith, lm))) (entered.solved m lm))
              ];
        }

  pub all_near : (n : ℕ) (entries : List ℤ) → n ≤ MEMBERS → AreEntered cut order edges n entries → All IsNear entries
  all_near n entries few entered = λ k d l. near_between n (window_start cut) _ start_moment (entered.from k d l) (entered.latest k d l) few

  pub all_solved : (n : ℕ) (entries : List ℤ) → length order ≤ n → AreEntered cut order edges n entries
      → AreSolved cut (window_floor cut) edges entries
  all_solved n entries le entered j lj =
      let s = stands cut order net.in_order.each_once j lj in
      subst (λ i. IsSolved (window_start cut) (edges_to edges i) entries (entry_at entries i)) s.is
      (entered.solved s.at (omega (arith, s.within, le)))

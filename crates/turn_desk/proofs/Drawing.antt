-- Entries and passes that are made one after the other.
use Rattle.std.proofs.Common.{◌≡◌, ℕ, ◌+◌, ◌-◌, ◌<◌, ◌≤◌, List, [], ◌∷◌, ◌++◌, get_or, drop, sym, refl, ap}
use Rattle.std.proofs.Common.{◌∙◌, subst, append_assoc, append-nil, length-append, arith}
use Rattle.std.specs.List.{range_with_len}
use Rattle.std.specs.Prelude.{Option, All, Result, Ok, Err, OnErr}
use Rattle.std.proofs.lemmas.List.Elements.{All-nil, All-push, All-map}
use Rattle.std.proofs.lemmas.List.FromFn.{map-range_with_len_more, length-map-range_with_len}
use Rattle.std.proofs.lemmas.List.FromFn.{get_or-map-range_with_len, length-range_with_len, get_or-range_with_len}
use Rattle.atomic_table.specs.Seated.{TableId}
use Rattle.atomic_table.specs.declared.shared.Seat.{Seat}
use Rattle.turn_desk.specs.declared.rule.View.{View}
use Rattle.turn_desk.specs.declared.kept.TheConstants.{MOST_PASSES}
use Rattle.turn_desk.specs.Entering.{Issues, EntersSome, EntersAll, LaterNumbersAreGreater}
use Rattle.turn_desk.specs.Journal.{GoesOn, AddsOwn, Calls}
use Rattle.turn_desk.specs.Known.{Known, IsSamePass, new_pass, new_passes}
use Rattle.turn_desk.specs.Laws.{NewPassesStandInOrder, NumbersTellDesks}
use Rattle.turn_desk.specs.Seats.{known, known_of}
use Rattle.turn_desk.specs.Views.{newcomer, one_fewer, with_drawn}
use Rattle.turn_desk.specs.Steps.{Mine}
use Rattle.turn_desk.proofs.Fitting.{all_of, grown}

module _ {E : Type 0} (pass_of : E → ℕ) (issued_by : List E → ℕ) where
  pub issues_none : (number : ℕ) (xs : List E) → Issues pass_of issued_by number 0 xs xs
  issues_none number xs = record {
    adds_own = record { own = []; is = sym (append-nil xs); made = All-nil (λ e. pass_of e ≡ number) };
    many = omega arith;
    issued = omega arith;
  }

  pub issues_more : (number count : ℕ) (xs ys zs : List E) (e : E) → Issues pass_of issued_by number count xs ys
      → zs ≡ ys ++ e ∷ [] → pass_of e ≡ number
      → issued_by zs ≡ issued_by ys + 1 → Issues pass_of issued_by number (count + 1) xs zs
  issues_more number count xs ys zs e i is made more =
      let a = i.adds_own in
      let many = i.many in
      let before = i.issued in record {
        adds_own = record {
          own = a.own ++ e ∷ [];
          is = is ∙ (ap (λ l. l ++ e ∷ []) a.is ∙ append_assoc xs a.own (e ∷ []));
          made = All-push (λ e. pass_of e ≡ number) a.own e a.made made;
        };
        many = omega (arith, length-append a.own (e ∷ []));
        issued = omega arith;
      }

  -- the call of a pass that took the turn and drew numbers in it
  module _ (old mid taken new : Known E) (log : List E) (same : IsSamePass old mid)
      (goes : GoesOn pass_of old.numbers old.seen log) (seen : mid.seen ≡ log) (is : taken ≡ mid) where
    abbrev call_of : AddsOwn pass_of taken.number taken.seen new.seen
        → Calls pass_of old.number old.numbers old.seen new.seen
    call_of a = record {
      found = taken.seen;
      goes_on = subst (λ xs. GoesOn pass_of old.numbers old.seen xs) (sym (ap (λ (k : Known E). k.seen) is ∙ seen))
          goes;
      adds_own = record {
        own = a.own;
        is = a.is;
        made =
            subst (λ n. All (λ e. pass_of e ≡ n) a.own) (ap (λ (k : Known E). k.number) is ∙ same.number) a.made;
      };
    }

    pub enters_some : (count : ℕ) → new.numbers ≡ taken.numbers → All (λ n. n < issued_by taken.seen) taken.numbers
        → ((made : ℕ) × (made ≤ count)
        × Issues pass_of issued_by taken.number made taken.seen new.seen) → EntersSome pass_of issued_by old new count
    enters_some count numbers lesser drew = let many = drew.2.many in let le = drew.1 in let issued = drew.2.issued in
        record {
          call = call_of drew.2.adds_own;
          few = omega arith;
          issued = omega arith;
          lesser = subst (All (λ n. n < issued_by taken.seen)) (sym numbers) lesser;
        }

    pub enters_all : (count : ℕ) (given : List (Known E)) → issued_by log + count ≤ MOST_PASSES
        → Issues pass_of issued_by taken.number count taken.seen new.seen
        × (given ≡ new_passes taken.desk new.seen (issued_by taken.seen) count)
        → EntersAll pass_of issued_by old new count given
    enters_all count given room drew =
        let found : issued_by taken.seen ≡ issued_by log = ap issued_by (ap (λ (k : Known E). k.seen) is ∙ seen) in
        let desk : taken.desk ≡ old.desk = ap (λ (k : Known E). k.desk) is ∙ same.desk in record {
          call = call_of drew.0.adds_own;
          room = omega arith;
          many = drew.0.many;
          issued = drew.0.issued;
          passes = drew.1 ∙ ap (λ d. new_passes d new.seen (issued_by taken.seen) count) desk;
        }

  pub later_greater : ((xs ys : List E) → issued_by xs ≤ issued_by (xs ++ ys))
      → LaterNumbersAreGreater pass_of issued_by
  later_greater grows entries more old new count given goes enters =
      let found = enters.call.found in
      let first = issued_by found in
      let least : issued_by entries ≤ first =
      omega (
        arith,
        grown pass_of issued_by grows entries old.seen more goes,
        grown pass_of issued_by grows old.seen found enters.call.goes_on.more enters.call.goes_on.is,
      ) in
      let from : All (λ n. issued_by entries ≤ n) (range_with_len first count) = λ i d l.
      let lt : i < count = omega (arith, l, length-range_with_len first count) in
      omega (arith, least, get_or-range_with_len first count i d lt) in
      subst (All (λ k. issued_by entries ≤ k.number)) (sym enters.passes)
      (All-map (λ k. issued_by entries ≤ k.number) (λ n. new_pass old.desk n new.seen) (range_with_len first count) from)

-- a fact that holds anyway
pub on_err : {T E P : Type 0} (r : Result T E) → P → OnErr r P
on_err (Ok x) h = tt
on_err (Err e) h = h

module _ {E : Type 0} where
  pub new_passes-more : (passes more : List (Known E)) (k : Known E) (desk : TableId) (seen : List E)
      (first count : ℕ)
      → more ≡ passes ++ k ∷ [] → passes ≡ new_passes desk seen first count → k ≡ new_pass desk (first + count) seen
      → more ≡ new_passes desk seen first (count + 1)
  new_passes-more passes more k desk seen first count is was new =
      is ∙ ((λ i. was i ++ new i ∷ [])
      ∙ sym (map-range_with_len_more (λ n. new_pass desk n seen) first count (first + count) refl))

  -- one number more has gone to a pass
  pub one_fewer_drawn : {V : Type 0} (start before after : Mine V E) (first count i : ℕ)
      → before ≡ (with_drawn (first + i) (count - i) start.0, start.1)
      → after ≡ (one_fewer before.0, before.1) → after ≡
      (with_drawn (first + (i + 1)) (count - (i + 1)) start.0, start.1)
  one_fewer_drawn {V} start before after first count i was is =
      let next : first + i + 1 ≡ first + (i + 1) = omega arith in
      let fewer : count - i - 1 ≡ count - (i + 1) = omega arith in
      let cut : Mine V E → Mine V E = λ m. (one_fewer m.0, m.1) in
      is ∙ (ap cut was ∙ (λ j. (with_drawn (next j) (fewer j) start.0, start.1)))

  pub known_newcomer : {V : Type 0} (s : Seat (Option V) (View E)) (desk : TableId) (start before : Mine V E)
      (number left : ℕ)
      → s.table_id ≡ desk → s.me ≡ (newcomer before.0, []) → before ≡ (with_drawn number left start.0, start.1)
      → known s ≡ new_pass desk number start.0.seen
  known_newcomer {V} s desk start before number left at me was =
      let new : Mine V E → Known E = λ m. new_pass desk m.0.drawn m.0.seen in
      (λ i. known_of (at i) (me i).0) ∙ ap new was

  -- each of the new passes is of the desk, idle, and has its own number alone
  pub new_passes-all : (P : Known E → Type 0) (desk : TableId) (seen : List E) (first count : ℕ)
      → ((k : ℕ) → P (new_pass desk k seen)) → All P (new_passes desk seen first count)
  new_passes-all P desk seen first count each =
      All-map P (λ n. new_pass desk n seen) (range_with_len first count)
      (all_of (λ n. P (new_pass desk n seen)) each (range_with_len first count))

  pub new_passes-order : (desk : TableId) (seen : List E) (first count : ℕ)
      → NewPassesStandInOrder desk seen first count
  new_passes-order desk seen first count = let pass = λ (n : ℕ). new_pass desk n seen in record {
    many = length-map-range_with_len pass first count;
    at = λ i other lt. get_or-map-range_with_len pass first count i (first + i) other lt refl;
    more = map-range_with_len_more pass first count (first + count) refl;
  }

pub same_desk : NumbersTellDesks
same_desk a b e = let at = λ (i : ℕ). ap (λ (ns : List ℕ). get_or ns i 0) e in λ i. record {
  words = at 0 i;
  slots = at 1 i;
  views_name = at 2 i;
  atom = at 3 i;
  block = at 4 i;
  offset = at 5 i;
  slot_names = ap (drop 6) e i;
}

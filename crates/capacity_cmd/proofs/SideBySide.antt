-- The heads of sections' answers that are made side by side, and put one after the other.
use Rattle.std.proofs.Common.{◌≡◌, ◌≢◌, ℕ, zero, suc, ◌+◌, ◌<◌, List, [], ◌∷◌, ◌++◌, length, map, get_or, set, refl, sym, ap, ◌∙◌, subst, arith, Result, Ok, Err}
use Rattle.std.specs.Prelude.{cond, IfOk, MatchResult}
use Rattle.std.specs.List.{AllZip, range_with_len}
use Rattle.std.proofs.lemmas.List.{length-set, get_or-set_other}
use Rattle.std.proofs.lemmas.List.Concat.{flat_map-append}
use Rattle.std.proofs.lemmas.List.FromFn.{length-range_with_len}
use Rattle.std.proofs.lemmas.Slice.Zip.{AllZip-long}
use Rattle.rail_model.specs.declared.items.Section.{Section}
use Rattle.rail_model.specs.declared.tables.Tables.{Tables}
use Rattle.rail_model.specs.Tables.{section_at}
use Rattle.rail_model.proofs.Collected.{collected}
use Rattle.row_text.specs.SheetRows.{Row, text_of_row, text_of_rows}
use Rattle.plan_model.specs.declared.answer.Answer.{Answer}
use Rattle.capacity_report.specs.Answers.{Total, total_of, with_answer, joined, is_ordered, is_within_capacity, is_over_capacity, is_disordered, is_crowded}
use Rattle.capacity_cmd.specs.declared.section_heads.Head.{Head}
use Rattle.capacity_cmd.specs.Heads.{IsHead, IsHeadInTurn, in_turn, AreHeads, AddsHead, IsTextOfHeads}
use Rattle.capacity_cmd.proofs.Reports.{heads_added}

nothing_more : (n : ℕ) → 0 + n ≡ n
nothing_more n = omega arith

-- what holds of numbers and items in turn holds of the number at a place and the item there
module _ {X : Type 0} (R : ℕ → X → Type 0) where
  at_place : (first count : ℕ) (xs : List X) → AllZip R (range_with_len first count) xs
      → (n : ℕ) (d : X) → n < count → R (first + n) (get_or xs n d)
  at_place first zero xs each n d there = absurd (omega (arith, there))
  at_place first (suc count) [] each n d there = absurd each
  at_place first (suc count) (x ∷ xs) each zero d there = subst (λ k. R k x) (omega arith) each.0
  at_place first (suc count) (x ∷ xs) each (suc n) d there =
      subst (λ k. R k (get_or xs n d)) (omega arith) (at_place (first + 1) count xs each.1 n d (omega (arith, there)))

all_heads : (tables : Tables) (heads : List Head) → AllZip (IsHeadInTurn tables) (range_with_len 0 (length tables.sections)) heads
    → AreHeads tables 0 heads
all_heads tables heads each = record {
  count = AllZip-long (IsHeadInTurn tables) _ _ each ∙ length-range_with_len 0 (length tables.sections);
  each = λ n d there low. subst (λ k. IsHeadInTurn tables k (get_or heads n d)) (nothing_more n)
      (at_place (IsHeadInTurn tables) 0 (length tables.sections) heads each n d there);
}

-- what is collected are the heads of all sections
pub heads_collected : {V E : Type 0} (items : V → List Head) (tables seen : Tables) (numbers : List ℕ) (results : List (Result Head E)) (whole : Result V E) (Q : E → Type 0)
    → seen ≡ tables → numbers ≡ range_with_len 0 (length tables.sections) → AllZip (λ n (r : Result Head E). IfOk r (IsHeadInTurn seen n)) numbers results
    → MatchResult whole (λ v. (heads : List Head) × (results ≡ map Ok heads) × (items v ≡ heads)) Q
    → IfOk whole (λ v. AreHeads tables 0 (items v))
heads_collected {E = E} items tables seen numbers results (Ok v) Q same all each h =
    let of_all = subst (λ some. AllZip (λ n (r : Result Head E). IfOk r (IsHeadInTurn seen n)) some results) all each in
    let of_these = subst (λ t. AllZip (λ n (r : Result Head E). IfOk r (IsHeadInTurn t n)) (range_with_len 0 (length tables.sections)) results) same of_all in
    all_heads tables (items v) (collected (IsHeadInTurn tables) items (range_with_len 0 (length tables.sections)) results (Ok v) Q of_these h)
heads_collected items tables seen numbers results (Err e) Q same all each h = tt

-- the total of one answer, counted with another total
one_joined : (total : Total) (a : Answer) → joined total (with_answer (total_of []) a) ≡ with_answer total a
one_joined total a =
    rw (
      nothing_more (cond (is_ordered a) 1 0),
      nothing_more (cond (is_within_capacity a) 1 0),
      nothing_more (cond (is_over_capacity a) 1 0),
      nothing_more (cond (is_disordered a) 1 0),
      nothing_more (cond (is_crowded a) 1 0),
    ) refl

-- a head that was made alone comes to others
pub head_joined : (tables : Tables) (section : Section) (head : Head) (rows more : List Row) (total greater : Total)
    → IsHead tables section head → more ≡ rows ++ head.sheet.rows → greater ≡ joined total head.tally
    → AddsHead tables section rows more total greater
head_joined tables section head rows more total greater is written counted = record {
  answer = is.answer;
  is = is.is;
  head = written ∙ ap (λ (r : List Row). rows ++ r) is.head;
  counted = counted ∙ ap (joined total) is.counted ∙ one_joined total is.answer;
}

-- after the head at a turn is taken, those of the sections behind its own are left
pub heads_left : (tables : Tables) (number turn : ℕ) (heads more : List Head) (blank : Head) → AreHeads tables number heads
    → in_turn (length tables.sections) turn ≡ number → more ≡ set heads turn blank → AreHeads tables (number + 1) more
heads_left tables number turn heads more blank are is left = record {
  count = ap length left ∙ length-set heads turn blank ∙ are.count;
  each = λ n d there later.
      let other : n ≢ turn = λ same. omega (arith, later, ap (in_turn (length tables.sections)) same, is) in
      let kept = ap (λ (h : List Head). get_or h n d) left ∙ get_or-set_other heads turn n blank d other in
      subst (IsHeadInTurn tables n) (sym kept) (are.each n d there (omega (arith, later)));
}

-- the head of the next section comes to the text
pub text_added : (tables : Tables) (count : ℕ) (text piece more : List ℕ) (head : Head) (total greater : Total) → count < length tables.sections
    → IsTextOfHeads tables count text total → IsHead tables (section_at tables count) head → piece ≡ text_of_rows head.sheet.rows
    → more ≡ text ++ piece → greater ≡ joined total head.tally → IsTextOfHeads tables (count + 1) more greater
text_added tables count text piece more head total greater there had is spelled added counted =
    let rows = had.rows ++ head.sheet.rows in
    record {
      rows = rows;
      heads = heads_added tables count [] had.rows rows total greater there had.heads
          (head_joined tables (section_at tables count) head had.rows rows total greater is refl counted);
      written = added ∙ ap (λ t. t ++ piece) had.written ∙ ap (λ t. text_of_rows had.rows ++ t) spelled
          ∙ sym (flat_map-append text_of_row had.rows head.sheet.rows);
    }

-- The bytes of a text that are looked at together, by a bit for each.
use Rattle.std.proofs.Common.{◌≡◌, ℕ, ◌+◌, ◌-◌, ◌/◌, ◌%◌, ◌<◌, ◌≤◌, ◌^◌, Bool, false, cond, List, length, get_or, take, drop, map, zero, suc, inl, inr, sym, ap, subst, ◌∙◌, arith, w8, w64}
use Rattle.std.specs.Int.{bit_at, trailing_zeros}
use Rattle.std.specs.Int.Bits.{bit_and}
use Rattle.std.specs.Prelude.{replicate}
use Rattle.std.specs.Simd.Lanes.{mask_l, top, zip2}
use Rattle.std.proofs.lemmas.Bool.{cases_lt}
use Rattle.std.proofs.lemmas.List.{get_or-map, get_or-take, get_or-drop, length-drop, length-take-le}
use Rattle.std.proofs.lemmas.Simd.{bitmask_splat, bit_mask_l}
use Rattle.std.proofs.lemmas.Nat.Bits.{bit_at_and, bit_at_lowest, bit_at-lt, bit_at-suc, bit_at-trailing_zeros, bit_at-zero}
use Rattle.row_text.specs.PlainRows.{CutSoFar, HasCut}
use Rattle.row_text.proofs.PlainRows.{HasCut-skip}

-- a number less one has the same bits above its lowest one, and none there
less-one : (p n : ℕ) → bit_at n p ≡ 1 → ((i : ℕ) → i < p → bit_at n i ≡ 0)
    → (bit_at (n - 1) p ≡ 0) × ((k : ℕ) → p < k → bit_at (n - 1) k ≡ bit_at n k)
less-one zero n one none =
    let odd : n % 2 ≡ 1 = sym (bit_at_lowest n) ∙ one in
    let half : (n - 1) / 2 ≡ n / 2 = omega arith in (
      bit_at_lowest (n - 1) ∙ omega arith,
      λ k. elim k as (λ k. zero < k → bit_at (n - 1) k ≡ bit_at n k) [
        | zero ↦ λ l. absurd (omega (arith, l))
        | suc k ↦ λ _. bit_at-suc (n - 1) k ∙ rw half (sym (bit_at-suc n k))
      ],
    )
less-one (suc p) n one none =
    let even : n % 2 ≡ 0 = sym (bit_at_lowest n) ∙ none 0 (omega arith) in
    let half : (n - 1) / 2 ≡ n / 2 - 1 = omega arith in
    let its = less-one p (n / 2) (sym (bit_at-suc n p) ∙ one) (λ i l. sym (bit_at-suc n i) ∙ none (suc i) (omega (arith, l))) in (
      bit_at-suc (n - 1) p ∙ rw half its.0,
      λ k. elim k as (λ k. suc p < k → bit_at (n - 1) k ≡ bit_at n k) [
        | zero ↦ λ l. absurd (omega (arith, l))
        | suc k ↦ λ l. bit_at-suc (n - 1) k ∙ rw half (its.1 k (omega (arith, l))) ∙ sym (bit_at-suc n k)
      ],
    )

-- of the bytes from a place on, the first are done and have no bit; of the others, those without one
-- are above the comma
pub record Left (text : List ℕ) (at done rest : ℕ) : Type 0 where
  pub within : done ≤ 64
  pub none : (k : ℕ) → k < done → bit_at rest k ≡ 0
  pub above : (k : ℕ) → done ≤ k → k < 64 → bit_at rest k ≡ 0 → 44 < get_or text (at + k) 0

-- up to a place before which no bit is left, the bytes are cut
reached : {text : List ℕ} {at done rest : ℕ} (cut : CutSoFar) (to : ℕ) → Left text at done rest → done ≤ to → to ≤ 64 → at + 64 ≤ length text
    → ((k : ℕ) → k < to → bit_at rest k ≡ 0) → HasCut text cut (at + done) → HasCut text cut (at + to)
reached {text} {at} {done} {rest} cut to left order most there none has =
    subst (HasCut text cut) (let e : at + done + (to - done) ≡ at + to = omega (arith, order) in e)
    (HasCut-skip text cut (at + done) (to - done) (omega (arith, order, most, there))
    (λ k l. subst (λ i. 44 < get_or text i 0) (let e : at + (done + k) ≡ at + done + k = omega arith in e)
    (let to_there : done + k < to = omega (arith, l, order) in
    left.above (done + k) (omega arith) (omega (arith, to_there, most)) (none (done + k) to_there))) has)

-- where no bit is left, all bytes are cut
pub Left-none : {text : List ℕ} {at done rest : ℕ} (cut : CutSoFar) → Left text at done rest → rest ≡ 0 → at + 64 ≤ length text
    → HasCut text cut (at + done) → HasCut text cut (at + 64)
Left-none cut left e there has = reached cut 64 left left.within (omega arith) there (λ k l. rw e (bit_at-zero k)) has

-- the lowest bit: its byte isn't done, and none is left before it; where it is cleared, the bytes up to it are done
pub record IsNext (text : List ℕ) (at done rest : ℕ) : Type 0 where
  pub within : trailing_zeros w64 rest < 64
  pub order : done ≤ trailing_zeros w64 rest
  pub one : bit_at rest (trailing_zeros w64 rest) ≡ 1
  pub none : (k : ℕ) → k < trailing_zeros w64 rest → bit_at rest k ≡ 0
  pub left : Left text at (trailing_zeros w64 rest + 1) (bit_and rest (rest - 1))

pub Left-next : {text : List ℕ} {at done rest : ℕ} → Left text at done rest → 0 < rest → rest < 2 ^ 64 → IsNext text at done rest
Left-next {text} {at} {done} {rest} left some fits =
    let place = trailing_zeros w64 rest in
    let first = bit_at-trailing_zeros w64 rest some fits in
    let order : done ≤ place = elim (cases_lt place done) [
      | inl less ↦ absurd (omega (arith, left.none place less, first.1))
      | inr more ↦ more
    ] in
    let less = less-one place rest first.1 first.2 in
    record {
      within = first.0;
      order = order;
      one = first.1;
      none = first.2;
      left = record {
        within = omega (arith, first.0);
        none = λ k l. elim (cases_lt k place) [
          | inl below ↦ omega (arith, bit_at_and rest (rest - 1) k, first.2 k below)
          | inr more ↦
              let e : k ≡ place = omega (arith, l, more) in
              rw e (omega (arith, bit_at_and rest (rest - 1) place, less.0))
        ];
        above = λ k l lt none. left.above k (omega (arith, l, order)) lt
            (omega (arith, bit_at_and rest (rest - 1) k, less.1 k (omega (arith, l)), none));
      };
    }

-- the bytes before the lowest bit are cut
pub IsNext-before : {text : List ℕ} {at done rest : ℕ} (cut : CutSoFar) → Left text at done rest → IsNext text at done rest → at + 64 ≤ length text
    → HasCut text cut (at + done) → HasCut text cut (at + trailing_zeros w64 rest)
IsNext-before {rest} cut left its there has = reached cut (trailing_zeros w64 rest) left its.order (omega (arith, its.within)) there its.none has

-- a bit that is left where the lowest is cleared was there before
pub one-before : (rest k : ℕ) → bit_at (bit_and rest (rest - 1)) k ≡ 1 → bit_at rest k ≡ 1
one-before rest k one = omega (arith, bit_at_and rest (rest - 1) k, bit_at-lt rest k, one)

-- where each of the 64 bytes is compared with one, the bit of a byte says whether it passes
pub lane-bit : (t : ℕ → ℕ → Bool) (text : List ℕ) (at y k : ℕ) → k < 64 → at + 64 ≤ length text
    → bit_at (mask_l (map (top 7) (zip2 (λ a b. cond (t a b) (2 ^ 8 - 1) 0) (take 64 (drop at text)) (replicate 64 y))) % 2 ^ 64) k ≡ cond (t (get_or text (at + k) 0) y) 1 0
lane-bit t text at y k l there =
    let v = take 64 (drop at text) in
    let p = λ (x : ℕ). t x y in
    let long : length v ≡ 64 = length-take-le 64 (drop at text) (omega (arith, length-drop at text, there)) in
    let lane : get_or v k 0 ≡ get_or text (at + k) 0 = get_or-take 64 (drop at text) k 0 l ∙ get_or-drop at text k 0 in
    ap (λ n. bit_at n k) (bitmask_splat w8 t v 64 y long (omega arith)) ∙ bit_mask_l (map p v) k
    ∙ ap (λ b. cond b 1 0) (get_or-map p v k 0 false (omega (arith, l, long)) ∙ ap p lane)

-- How many digits a number has.
use Rattle.std.proofs.Common.{◌≡◌, ℕ, zero, suc, ◌+◌, ◌*◌, ◌/◌, ◌^◌, ◌<◌, ◌≤◌, length, decimal, max, refl, ap, ◌∙◌, arith}
use Rattle.std.proofs.Math.Nat.{pow-suc, pow-le-pow_right}
use Rattle.std.proofs.Common.{List, ◌++◌, take, drop, sym, append_assoc}
use Rattle.std.proofs.Math.Seq.{take-append-add, take-append_seam}
use Rattle.std.proofs.lemmas.List.{length-append, length-take-le, take-append-drop, take-take}
use Rattle.std.proofs.lemmas.Fmt.{decimal_digit, decimal_step, decimal_nonempty, length-decimal-le}

digits_least : (k n : ℕ) → n < 2 ^ 64 → 10 ^ k ≤ n → k < length (decimal n)
digits_least zero n small le = decimal_nonempty n small
digits_least (suc k) n small le =
    let power = pow-suc 10 k in
    let one = pow-le-pow_right {n = 10} (omega arith) {i = 0} {j = k} (omega arith) in
    let more : length (decimal n) ≡ length (decimal (n / 10)) + 1 = ap length (decimal_step n (omega (arith, power, one)) small) ∙ length-append (decimal (n / 10)) _ in
    omega (arith, more, digits_least k (n / 10) (omega arith) (omega (arith, power)))

-- a number between two powers of ten has one digit more than the lower has zeros
pub length-decimal : (k n : ℕ) → n < 2 ^ 64 → 10 ^ k ≤ n → n < 10 * 10 ^ k → length (decimal n) ≡ k + 1
length-decimal k n small le lt =
    let power = pow-suc 10 k in
    omega (arith, digits_least k n small le, length-decimal-le (suc k) n (omega arith) (omega (arith, power)) small)

-- the same at 0, which is taken for 1
pub length-decimal-max : (k n : ℕ) → n < 2 ^ 64 → 10 ^ k ≤ max n 1 → max n 1 < 10 * 10 ^ k → length (decimal n) ≡ k + 1
length-decimal-max zero zero small le lt = ap length (decimal_digit 0 (omega arith))
length-decimal-max (suc k) zero small le lt =
    let power = pow-suc 10 k in
    let one = pow-le-pow_right {n = 10} (omega arith) {i = 0} {j = k} (omega arith) in
    absurd (omega (arith, power, one))
length-decimal-max k (suc n) small le lt = length-decimal k (suc n) small (omega arith) (omega arith)

-- digits that were written to end at a place stand after the bytes before them
pub take-written : (old new digits : List ℕ) (used start end : ℕ) → used ≤ length old → start + length digits ≡ end → end ≡ used + length digits → take start new ≡ take start old → drop start new ≡ digits ++ drop end old
    → take end new ≡ take used old ++ digits
take-written old new digits used start end room from to before after =
    let same : start ≡ used = omega arith in
    let whole : new ≡ (take start old ++ digits) ++ drop end old = sym (take-append-drop start new) ∙ rw (before, after) (sym (append_assoc (take start old) digits (drop end old))) in
    let size : length (take start old ++ digits) ≡ end = omega (arith, length-append (take start old) digits, length-take-le start old (omega arith)) in
    let cut = rw size at (take-append_seam (take start old ++ digits) (drop end old)) in
    ap (take end) whole ∙ cut ∙ ap (λ n. take n old ++ digits) same

-- a part was written, and more after it
pub take-part : (old new text : List ℕ) (used start len more : ℕ) → used ≤ length old → len ≤ more → take (used + more) new ≡ take used old ++ take more (drop start text)
    → take (used + len) new ≡ take used old ++ take len (drop start text)
take-part old new text used start len more room le written =
    let size : length (take used old) ≡ used = length-take-le used old room in
    let cut : take (used + len) (take used old ++ take more (drop start text)) ≡ take used old ++ take len (take more (drop start text)) = rw size at (take-append-add (take used old) (take more (drop start text)) len) in
    sym (take-take (used + len) (used + more) new (omega arith)) ∙ ap (take (used + len)) written ∙ cut ∙ rw (take-take len more (drop start text) le) refl

-- What a read of a source in memory gives, and whether it found the end.
use Rattle.std.proofs.Common.{◌≡◌, ℕ, ◌+◌, ◌<◌, Bool, List, ◌++◌, take, drop, Result, Ok, ap, sym, ◌∙◌}
use Rattle.std.specs.Prelude.{◌↔◌, IsTrue}
use Rattle.std.proofs.Math.Seq.{take-add}

-- n bytes more are given
pub given_more : (place n : ℕ) (bytes : List ℕ) → take (place + n) bytes ≡ take place bytes ++ take n (drop place bytes)
given_more place n bytes = take-add place n bytes

same_count : {E : Type 0} (m n : ℕ) (given none : Result ℕ E) → given ≡ Ok m → none ≡ Ok n → given ≡ none → m ≡ n
same_count m n given none is is0 same = cc

-- a read that answers this count found the end
pub end_found : {E : Type 0} (n room : ℕ) (found : Bool) (given none : Result ℕ E) → given ≡ Ok n → none ≡ Ok 0
    → IsTrue found ↔ ((n ≡ 0) × (0 < room)) → IsTrue found ↔ ((given ≡ none) × (0 < room))
end_found n room found given none is is0 told = (
  λ so. let both = told.0 so in (is ∙ ap Ok both.0 ∙ sym is0, both.1),
  λ both. told.1 (same_count n 0 given none is is0 both.0, both.1),
)

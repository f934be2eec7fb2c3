-- Of uses those of connections, which stand behind those of blocks.
use Rattle.std.proofs.Common.{◌≡◌, ℕ, ◌+◌, ◌-◌, ◌<◌, ◌≤◌, ◌==◌, List, length, take, drop, get_or, sym, ap, ◌∙◌, arith}
use Rattle.std.specs.Prelude.{None, All, find}
use Rattle.std.specs.Option.{option_or}
use Rattle.std.proofs.lemmas.List.{take_all, length-take, length-drop, get_or-take, get_or-drop, take-append-drop}
use Rattle.std.proofs.lemmas.List.Elements.{All-take, All-drop}
use Rattle.std.proofs.lemmas.List.Folds.{find-append}
use Rattle.rail_model.specs.declared.stair.Use.{Use}
use Rattle.plan_model.specs.Members.{no_use}
use Rattle.plan_model.specs.Cut.{AreBlocksFirst}
use Rattle.plan_model.proofs.UseFound.{not_found, blocks_before}

-- the uses from a position on, where all of these are of connections, and the one before them is of a block
module _ (blocks : ℕ) (uses : List Use) (first : AreBlocksFirst blocks uses) (from : ℕ) (within : from ≤ length uses) (behind : (k : ℕ) → from ≤ k → k < length uses → blocks ≤ (get_or uses k no_use).block) (stops : 0 < from → (get_or uses (from - 1) no_use).block < blocks) where
  abbrev rest : List Use
  rest = take (length uses - from) (drop from uses)

  all : rest ≡ drop from uses
  all = take_all (length uses - from) (drop from uses) (omega (arith, length-drop from uses))

  pub there : (n : ℕ) → All (λ u. u.block < n) uses → All (λ u. u.block < n) rest
  there n h = All-take (λ (u : Use). u.block < n) (length uses - from) (drop from uses) (All-drop (λ (u : Use). u.block < n) from uses h)

  pub no_block : (p : ℕ) → p < blocks → find (λ u. u.block == p) rest ≡ None
  no_block p l =
      not_found p rest (λ k lk e.
      let below : from + k < length uses = omega (arith, lk, ap length all, length-drop from uses) in
      let is = ap (λ (us : List Use). (get_or us k no_use).block) all ∙ ap (λ (u : Use). u.block) (get_or-drop from uses k no_use) in
      omega (arith, l, e, is, behind (from + k) (omega arith) below))

  pub same : (p : ℕ) → blocks ≤ p → find (λ u. u.block == p) rest ≡ find (λ u. u.block == p) uses
  same p l =
      let test = λ (u : Use). u.block == p in
      let none : find test (take from uses) ≡ None =
      not_found p (take from uses) (λ k lk e.
      let lt : k < from = omega (arith, lk, length-take from uses) in
      let below = blocks_before blocks uses first k (from - 1) (omega (arith, lt)) (omega (arith, lt, within)) (stops (omega (arith, lt))) in
      omega (arith, e, l, below, ap (λ (u : Use). u.block) (get_or-take from uses k no_use lt))) in
      ap (find test) all
      ∙ sym (ap (λ o. option_or o (find test (drop from uses))) none)
      ∙ sym (find-append test (take from uses) (drop from uses))
      ∙ ap (find test) (take-append-drop from uses)

use Rattle.std.proofs.Common.{◌≡◌, ℕ, ◌+◌, ◌-◌, ◌<◌, List, length, take, drop, get_or, inl, inr, sym, ap, subst, ◌∙◌, arith}
use Rattle.std.specs.Prelude.{None, slice_index_or}
use Rattle.std.proofs.lemmas.Bool.{cases_lt}
use Rattle.std.proofs.lemmas.List.{take_all, length-take, length-drop, get_or-take, get_or-drop, get_or_default}
use Rattle.train_net.specs.Near.{IsNear, IsConnectionOf}
use Rattle.train_net.proofs.near.find_near.Goals as goal

-- the places from a number on
abbrev rest : List ℕ → ℕ → List ℕ
rest places count = take (length places - count) (drop count places)

rest_is : (places : List ℕ) (count : ℕ) → rest places count ≡ drop count places
rest_is places count = take_all (length places - count) (drop count places) (omega (arith, length-drop count places))

at_rest : (places : List ℕ) (count k d : ℕ) → get_or (rest places count) k d ≡ get_or places (count + k) d
at_rest places count k d = ap (λ ps. get_or ps k d) (rest_is places count) ∙ get_or-drop count places k d

pub look_further-requires-clause-wanted : goal.look_further-requires-clause-wanted
look_further-requires-clause-wanted c = λ k d l.
    let wanted = c.args.wanted.now in
    let count = c.blocks_end-count.result in
    let below : count + k < length wanted = omega (arith, l, ap length (rest_is wanted count), length-drop count wanted) in
    let is = get_or_default wanted (count + k) 0 d below in
    subst (IsConnectionOf c.args.cut.now) (sym (at_rest wanted count k d))
    (omega (arith, is, c.block_count.ensures.count, c.blocks_end-count.ensures.connections (count + k) (omega arith) below), c.requires.wanted (count + k) d below)

pub returns : goal.returns
returns c = λ k d l.
    let wanted = c.args.wanted.now in
    let count = c.blocks_end-count.result in
    let near = c.look_further.new.near in
    let Near : ℕ → Type 0 = λ p. IsNear c.args.cut.now c.args.order.now c.args.at p (slice_index_or near p None) in
    elim (cases_lt k count) [
      | inl lt ↦
          let is = get_or-take count wanted k d lt in
          let Back : ℕ → Type 0 = λ p. IsNear c.args.cut.now c.args.order.now c.args.at p (slice_index_or c.look_back-from.new.near p None) in
          let within : k < length (take count wanted) = omega (arith, length-take count wanted, lt, l) in
          c.look_further.ensures.kept (get_or wanted k d) (c.requires.wanted k d l) (subst Back is (c.look_back-from.ensures.near k d within))
      | inr ge ↦
          let same : count + (k - count) ≡ k = omega (arith, ge) in
          subst Near (at_rest wanted count (k - count) d ∙ ap (λ n. get_or wanted n d) same)
          (c.look_further.ensures.near (k - count) d (omega (arith, ge, l, ap length (rest_is wanted count), length-drop count wanted)))
    ]

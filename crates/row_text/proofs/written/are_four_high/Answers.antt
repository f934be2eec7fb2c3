use Rattle.std.proofs.Common.{◌≡◌, ℕ, length, take, drop, get_or, map, inl, inr, sym, ◌∙◌, arith, w8}
use Rattle.std.specs.Prelude.{nat_lt}
use Rattle.std.specs.Simd.Lanes.{chunk, mask_l}
use Rattle.std.proofs.lemmas.Bool.{both_ways, cases_lt, eqb-true, lt-ltb}
use Rattle.std.proofs.lemmas.List.{length-drop, length-take-le}
use Rattle.std.proofs.lemmas.Simd.{bitmask_splat, none_from_empty_mask}
use Rattle.row_text.proofs.written.are_four_high.Goals as goal

pub returns : goal.returns
returns c = λ high k from to.
    let field = c.args.field.now in
    let at = c.args.at in
    let v = take 4 (drop at field) in
    let p = λ (x : ℕ). nat_lt x 45 in
    let long : length v ≡ 4 = length-take-le 4 (drop at field) (omega (arith, length-drop at field, c.requires)) in
    let none : mask_l (map p (chunk at 4 field)) ≡ 0 = sym (bitmask_splat w8 nat_lt v 4 45 long (omega arith)) ∙ eqb-true _ _ high in
    elim (cases_lt (get_or field k 0) 45) [
      | inl less ↦ absurd (both_ways _ (none_from_empty_mask p field at 4 0 c.requires none k from to) (lt-ltb (get_or field k 0) 45 less))
      | inr more ↦ omega (arith, more)
    ]

use Rattle.std.proofs.Common.{◌≡◌, ◌≤◌, ℕ, length, take, ◌∙◌, ap, arith, length-append}
use Rattle.std.proofs.Math.Seq.{take-append_seam}
use Rattle.rail_model.proofs.NameTests.{IsName-from_is_name}
use Rattle.rail_model.proofs.name.Name.set.Goals as goal

pub invariant_of-self : goal.invariant_of-self
invariant_of-self c =
    let bytes = c.args.bytes.now in
    let room = c.fill.new.room in
    let is = c.fill.ensures c.if-fill.true in
    let same : take (length bytes) room ≡ bytes = ap (take (length bytes)) is.filled ∙ take-append_seam bytes _ in
    let long : length bytes ≤ length room = omega (arith, ap length is.filled, length-append {A = ℕ}) in
    rw same (long, is.filled, ∣ IsName-from_is_name bytes is.named ∣₁)

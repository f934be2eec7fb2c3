use Rattle.std.proofs.Common.{◌≡◌, ◌≤◌, ℕ, length, take, refl, sym, ◌∙◌, ap, arith, length-append}
use Rattle.std.proofs.lemmas.Bool.{false≢true}
use Rattle.std.proofs.Math.Seq.{take-append_seam}
use Rattle.rail_model.proofs.NameTests.{IsName-from_is_name, is_name-from_IsName}
use Rattle.rail_model.proofs.name.Name.read.Goals as goal

pub returns-then-not-is_name-clause-named : goal.returns-then-not-is_name-clause-named
returns-then-not-is_name-clause-named c =
    (λ e. absurd (false≢true e), λ name. sym c.if-not-is_name.true ∙ c.is_name.ensures ∙ is_name-from_IsName _ name)

pub returns-clause-named : goal.returns-clause-named
returns-clause-named c =
    (λ _. IsName-from_is_name c.args.bytes.now (sym c.is_name.ensures ∙ c.if-not-is_name.false), λ _. refl)

pub invariant_of-result : goal.invariant_of-result
invariant_of-result c =
    let bytes = c.args.bytes.now in
    let named = IsName-from_is_name bytes (sym c.is_name.ensures ∙ c.if-not-is_name.false) in
    let same : take (length bytes) c.padded.result ≡ bytes = ap (take (length bytes)) c.padded.ensures ∙ take-append_seam bytes _ in
    let long : length bytes ≤ length c.padded.result = omega (arith, ap length c.padded.ensures, length-append {A = ℕ}) in
    rw same (long, c.padded.ensures, ∣ named ∣₁)

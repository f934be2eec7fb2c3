use mathlib.Core.Bool.{beq}
use Rattle.std.proofs.Common.{◌≡◌, Bool, true, false, not, get_or, refl, sym, ap, ◌∙◌, subst, inl, inr, arith}
use Rattle.std.proofs.lemmas.Bool.{cases_lt}
use Rattle.std.proofs.lemmas.List.{get_or_default}
use Rattle.rail_model.specs.declared.items.Connection.{Connection}
use Rattle.rail_model.specs.Rules.{is_named}
use Rattle.plan_model.specs.Cut.{binds}
use Rattle.section_cut.specs.Connected.{IsOfRuns}
use Rattle.section_cut.proofs.connected.bind_as_before.Goals as goal

pub binds_after-binds-requires-clause-there : goal.binds_after-binds-requires-clause-there
binds_after-binds-requires-clause-there c =
    subst (IsOfRuns c.args.tables.now) (sym c.connection-item.is)
    (c.requires.there c.loop-connection.connection-index c.connection-item.result c.loop-connection-test.true)

agree : (a b : Bool) → not (beq a b) ≡ false → a ≡ b
agree true true e = refl
agree false false e = refl
agree true false e = absurd (cc)
agree false true e = absurd (cc)

pub loop-connection-preserved : goal.loop-connection-preserved
loop-connection-preserved c k d l =
    let tables = c.args.tables.now in
    let s = c.args.old.now.section in
    let names = c.args.old.now.connections in
    let joined = c.args.joined.now in
    let i = c.loop-connection.connection-index in
    let one = c.connection-item.result in
    elim (cases_lt k i) [
      | inl lt ↦ c.loop-connection.invariant k d lt
      | inr ge ↦
          let last : i ≡ k = omega (arith, ge, l) in
          let here : get_or joined i d ≡ one = get_or_default joined i d one c.loop-connection-test.true ∙ sym c.connection-item.is in
          let told : binds tables s one ≡ is_named (λ n. n) names one.name =
          sym c.binds_after-binds.ensures ∙ agree c.binds_after-binds.result c.is_some.result c.if-binds-is_some.false
          ∙ c.is_some.ensures ∙ c.place_in.ensures.there ∙ ap (λ ns. is_named (λ n. n) ns one.name) c.slice.ensures in
          subst (λ j. binds tables s (get_or joined j d) ≡ is_named (λ n. n) names (get_or joined j d).name) last
          (subst (λ (x : Connection). binds tables s x ≡ is_named (λ n. n) names x.name) (sym here) told)
    ]

pub returns : goal.returns
returns c _ k d l = c.loop-connection.invariant k d (omega (arith, l, c.loop-connection-test.false))

use Rattle.std.proofs.Common.{List, ℕ, Ok, Err, sym, rules}
use Rattle.std.specs.Cmp.Lexicographic.{slice_cmp}
use Rattle.std.specs.Ordering.{nat_cmp}
use Rattle.std.proofs.lemmas.Fn.{always_returns_same}
use Rattle.rail_model.proofs.Places.{searched}
use Rattle.section_cut.proofs.connected.place_in.Goals as goal

-- the closure compares each name with the one that is sought
pub returns-in-Ok-clause-there : goal.returns-in-Ok-clause-there
returns-in-Ok-clause-there c =
    let n = c.args.name.now in
    sym
    (searched (λ (m : List ℕ). m) c.args.names.now n (Ok c.in-Ok.place) c.requires c.in-Ok.ensures.bound
    (c.in-Ok.ensures.position (λ (m : List ℕ). slice_cmp nat_cmp m n) (always_returns_same _ _ _ (λ a r q k. search rules)))).there

pub returns-in-Ok-clause-number : goal.returns-in-Ok-clause-number
returns-in-Ok-clause-number c =
    let n = c.args.name.now in
    (searched (λ (m : List ℕ). m) c.args.names.now n (Ok c.in-Ok.place) c.requires c.in-Ok.ensures.bound
    (c.in-Ok.ensures.position (λ (m : List ℕ). slice_cmp nat_cmp m n) (always_returns_same _ _ _ (λ a r q k. search rules)))).number

pub returns-in-Err-clause-there : goal.returns-in-Err-clause-there
returns-in-Err-clause-there c =
    let n = c.args.name.now in
    sym
    (searched (λ (m : List ℕ). m) c.args.names.now n (Err c.in-Err.field-0) c.requires c.in-Err.ensures.bound
    (c.in-Err.ensures.position (λ (m : List ℕ). slice_cmp nat_cmp m n) (always_returns_same _ _ _ (λ a r q k. search rules)))).missing

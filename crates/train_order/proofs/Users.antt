-- Where one member precedes another at a place, both are members and use it; of two that use a place one precedes the
-- other.
use Rattle.std.proofs.Common.{◌≡◌, ℕ, ◌<◌, true, ◌&&◌}
use Rattle.std.specs.List.{range_with_len}
use Rattle.std.proofs.lemmas.Bool.{and_parts}
use Rattle.plan_model.specs.declared.cut.Cut.{Cut}
use Rattle.plan_model.specs.Members.{place_count, member, uses_place, use_at, precedes, precedes_somewhere, comes_before}
use Rattle.plan_model.proofs.MemberTests.{has-range, has_any}
pub use Rattle.plan_model.proofs.Users.{user_there}

pub users : (cut : Cut) (i j place : ℕ) → precedes (member cut i) (member cut j) place ≡ true
    → (uses_place (member cut i) place ≡ true) × (uses_place (member cut j) place ≡ true)
users cut i j place p =
    and_parts (uses_place (member cut i) place) (uses_place (member cut j) place)
    (and_parts (uses_place (member cut i) place && uses_place (member cut j) place)
    (comes_before (use_at (member cut i) place).start (member cut i).name (use_at (member cut j) place).start
    (member cut j).name)
    p).0

pub somewhere : (cut : Cut) (i j place : ℕ) → place < place_count cut → precedes (member cut i) (member cut j) place ≡ true
    → precedes_somewhere cut i j ≡ true
somewhere cut i j place l p =
    has_any (precedes (member cut i) (member cut j)) (range_with_len 0 (place_count cut)) place
    (has-range (place_count cut) place l) p

-- Disorder: members whose order differs from place to place, so that they have no order in time.
use Rattle.std.specs.Prelude.{◌≡◌, ℕ, zero, suc, ◌+◌, ◌-◌, ◌<◌, Bool, true, ◌&&◌, ◌==◌, nat_le, if◌then◌else◌, List, [], ◌∷◌, ◌++◌, map, filter, find, take, drop, reverse, zip, Option, option_map, unwrap_or, slice_index}
use Rattle.std.specs.List.{list_any, list_all, flat_map, range_with_len, position_or_len}
use Rattle.plan_model.specs.Types.{Cut, Link}
use Rattle.plan_model.specs.Members.{place_name, place_count, first_by_name, is_among, member, member_count, members, places_of_precedence, precedes_somewhere}

-- the name of the first place by name at which member i precedes member j
abbrev pub link_place : Cut → ℕ → ℕ → List ℕ
link_place cut i j = place_name cut (unwrap_or (first_by_name cut (places_of_precedence cut i j)) (place_count cut))

-- ---- opposite members

-- two members are opposite: each precedes the other somewhere
abbrev pub are_opposite : Cut → ℕ → ℕ → Bool
are_opposite cut i j = precedes_somewhere cut i j && precedes_somewhere cut j i

-- the pairs of numbers below n, the lesser first, in their order
abbrev pub pairs : ℕ → List (ℕ × ℕ)
pairs n = flat_map (λ i. map (λ j. (i, j)) (range_with_len (i + 1) (n - (i + 1)))) (range_with_len 0 n)

-- the least opposite pair, by names
abbrev pub opposite_pair : Cut → Option (ℕ × ℕ)
opposite_pair cut = find (λ p. are_opposite cut p.0 p.1) (pairs (member_count cut))

-- two opposite trains, with a place at which the first precedes the second, and one at which the second precedes
-- the first
pub record Opposite : Type 0 where
  pub first : List ℕ
  pub second : List ℕ
  pub block1 : List ℕ
  pub block2 : List ℕ

-- what is said of two opposite members
abbrev pub opposite_of : Cut → ℕ × ℕ → Opposite
opposite_of cut (i, j) = record {
  first = (member cut i).name;
  second = (member cut j).name;
  block1 = link_place cut i j;
  block2 = link_place cut j i;
}

-- the opposite trains of a cut, if there are any
abbrev pub opposite : Cut → Option Opposite
opposite cut = option_map (opposite_of cut) (opposite_pair cut)

-- ---- members that remain

-- one round: of some members, those that another of them precedes somewhere
abbrev pub preceded : Cut → List ℕ → List ℕ
preceded cut some = filter (λ j. list_any (λ i. precedes_somewhere cut i j) some) some

-- some members after n rounds
abbrev pub after_rounds : Cut → ℕ → List ℕ → List ℕ
after_rounds cut zero some = some
after_rounds cut (suc n) some = after_rounds cut n (preceded cut some)

-- the members that remain when, again and again, each member that no remaining one precedes is taken out: after as many
-- rounds as there are members no more goes. They are the greatest set of which each is preceded by one of the set
abbrev pub remaining : Cut → List ℕ
remaining cut = after_rounds cut (member_count cut) (members cut)

-- one of some members precedes a member somewhere
pub record IsPrecededAmong (cut : Cut) (some : List ℕ) (j : ℕ) : Type 0 where
  pub there : j < member_count cut
  pub member : ℕ
  pub among : is_among some member ≡ true
  pub precedes : precedes_somewhere cut member j ≡ true

-- each of some members is preceded by one of them
abbrev pub ArePrecededAmong : Cut → List ℕ → Type 0
ArePrecededAmong cut some = (j : ℕ) → is_among some j ≡ true → IsPrecededAmong cut some j

-- members of which each is preceded by one of them have no order: each of them remains
abbrev pub PrecededRemain : Type 0
PrecededRemain =
    (cut : Cut) (some : List ℕ) → ArePrecededAmong cut some → (j : ℕ) → is_among some j ≡ true
    → is_among (remaining cut) j ≡ true

-- the members have an order: there is no group of them in which each is preceded by another of the group
abbrev pub HaveOrder : Cut → Type 0
HaveOrder cut = (some : List ℕ) → ArePrecededAmong cut some → some ≡ []

-- ---- the ring

-- the first by name of the remaining members that precede member j, which remains
abbrev pub predecessor : Cut → ℕ → ℕ
predecessor cut j = unwrap_or (find (λ i. precedes_somewhere cut i j) (remaining cut)) j

-- a walk back from member j, after those that were walked: to the predecessor each time, until a train comes a second
-- time, at most n times. Its circuit is what was walked from that train's first visit on
abbrev pub circuit : Cut → ℕ → List ℕ → ℕ → List ℕ
circuit cut zero walked j = walked
circuit cut (suc n) walked j =
    if is_among walked j then drop (position_or_len (λ m. m == j) walked) walked
    else circuit cut n (walked ++ j ∷ []) (predecessor cut j)

-- a ring, told from its least train on
abbrev pub from_least : List ℕ → List ℕ
from_least ring = let k = position_or_len (λ m. list_all (nat_le m) ring) ring in drop k ring ++ take k ring

-- the ring in the direction of precedence: the circuit of the walk back from the least remaining member, which is so long
-- that a train comes a second time
abbrev pub ring_members : Cut → List ℕ
ring_members cut =
    from_least (reverse (circuit cut (member_count cut + 1) [] (slice_index (remaining cut) 0)))

-- one member precedes the next, at the first place by name where it does
abbrev pub link_of : Cut → ℕ × ℕ → Link
link_of cut (i, j) = record { train = (member cut i).name; block = link_place cut i j; next = (member cut j).name }

-- the ring's links: of each train to the next, and of the last to the first
abbrev pub ring : Cut → List Link
ring cut = let r = ring_members cut in map (link_of cut) (zip r (drop 1 r ++ take 1 r))

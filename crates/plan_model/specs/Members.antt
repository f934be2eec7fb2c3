-- Places and members of a cut, the members' uses, which precedes which, and headways.
use Rattle.std.specs.Prelude.{◌≡◌, ℕ, Bool, true, false, not, ◌&&◌, ◌||◌, ◌==◌, nat_lt, if◌then◌else◌, List, [], ◌++◌, length, Option, None, Some, slice_index_or, find, pos, unwrap_or, ℤ, int_lt, filter, ◌-ℤ◌, ◌∷◌, map, fold}
use Rattle.std.specs.List.{list_all, list_any, range_with_len}
use Rattle.rail_model.specs.Name.{is_before}
use Rattle.plan_model.specs.Types.{Cut, CutRow}
use Rattle.rail_model.specs.declared.stair.Use.{Use}
pub use Rattle.rail_model.specs.Conflict.{no_use}
use Rattle.std.specs.Ordering.{int_eq}
use Rattle.std.specs.Int.{int_max}

-- the names of the places: the section's blocks in its order, then the connections in the order of their names
abbrev pub place_names : Cut → List (List ℕ)
place_names cut = cut.section.blocks ++ cut.connections

-- the name of the place at a position, from 0
abbrev pub place_name : Cut → ℕ → List ℕ
place_name cut place = slice_index_or (place_names cut) place []

-- how many places are blocks, and how many there are: from the first count on, places are connections
abbrev pub block_count : Cut → ℕ
block_count cut = length cut.section.blocks

abbrev pub place_count : Cut → ℕ
place_count cut = length (place_names cut)

-- the positions of the blocks, and of all places
abbrev pub blocks : Cut → List ℕ
blocks cut = range_with_len 0 (block_count cut)

abbrev pub places : Cut → List ℕ
places cut = range_with_len 0 (place_count cut)

-- the first by name of some places: the one that no other's name comes before
abbrev pub first_by_name : Cut → List ℕ → Option ℕ
first_by_name cut some = find (λ b. list_all (λ c. not (is_before (place_name cut c) (place_name cut b))) some) some

-- by name, one member and one of its places come before another: members stand in the order of their names
abbrev pub comes_first : Cut → ℕ × ℕ → ℕ × ℕ → Bool
comes_first cut (i, p) (j, q) = nat_lt i j || (i == j && is_before (place_name cut p) (place_name cut q))

-- a position is among some
abbrev pub is_among : List ℕ → ℕ → Bool
is_among some i = list_any (λ k. k == i) some

-- the name of a place comes before that of the best so far, or there is none so far
abbrev pub leads : Cut → Option ℕ → ℕ → Bool
leads cut None place = true
leads cut (Some best) place = is_before (place_name cut place) (place_name cut best)

-- the best with one place more
abbrev pub first_with : Cut → Option ℕ → ℕ → Option ℕ
first_with cut best place = if leads cut best place then Some place else best

-- a place is one of some, and no name of theirs comes before its name
pub record IsFirstPlace (cut : Cut) (some : List ℕ) (best : ℕ) : Type 0 where
  pub there : is_among some best ≡ true
  pub least : (place : ℕ) → is_among some place ≡ true → is_before (place_name cut place) (place_name cut best) ≡ false

-- the best so far is that one of some, or there are none
abbrev pub AnswersFirst : Cut → List ℕ → Option ℕ → Type 0
AnswersFirst cut some None = some ≡ []
AnswersFirst cut some (Some best) = IsFirstPlace cut some best

-- stands where a cut has no member
abbrev pub no_member : CutRow
no_member = record { name = []; stamp = 0; entry = pos 0; uses = [] }

-- the member at a position, from 0; they stand in the order of their names
abbrev pub member : Cut → ℕ → CutRow
member cut i = slice_index_or cut.rows i no_member

abbrev pub member_count : Cut → ℕ
member_count cut = length cut.rows

-- the positions of the members
abbrev pub members : Cut → List ℕ
members cut = range_with_len 0 (member_count cut)

-- a member uses a place
abbrev pub uses_place : CutRow → ℕ → Bool
uses_place row place = list_any (λ u. u.block == place) row.uses

-- its use of the place, if it uses it
abbrev pub use_of : CutRow → ℕ → Option Use
use_of row place = find (λ u. u.block == place) row.uses

-- its use of the place, which it uses
abbrev pub use_at : CutRow → ℕ → Use
use_at row place = unwrap_or (find (λ u. u.block == place) row.uses) no_use

-- of two moments with the name of a run each, the first is the earlier or, at one moment, has the lesser name
abbrev pub comes_before : ℤ → List ℕ → ℤ → List ℕ → Bool
comes_before s a t b = int_lt s t || (int_eq s t && is_before a b)

-- member i precedes member j at a place: both use it, and i by its start there and its name comes first
abbrev pub precedes : CutRow → CutRow → ℕ → Bool
precedes i j place =
    uses_place i place && uses_place j place
    && comes_before (use_at i place).start i.name (use_at j place).start j.name

-- the places at which it does
abbrev pub places_of_precedence : Cut → ℕ → ℕ → List ℕ
places_of_precedence cut i j = filter (precedes (member cut i) (member cut j)) (places cut)

-- there is such a place
abbrev pub precedes_somewhere : Cut → ℕ → ℕ → Bool
precedes_somewhere cut i j = list_any (precedes (member cut i) (member cut j)) (places cut)

-- the places that both members use
abbrev pub shared_places : CutRow → CutRow → List ℕ
shared_places a b = filter (uses_place b) (map (λ u. u.block) a.uses)

-- how long after a the other must enter so that it starts its use of a place as a ends there, or later
abbrev pub headway_at : CutRow → CutRow → ℕ → ℤ
headway_at a b place = ((use_at a place).«end» -ℤ a.entry) -ℤ ((use_at b place).start -ℤ b.entry)

-- the greatest of some numbers, if there are any
abbrev pub greatest_of : List ℤ → Option ℤ
greatest_of [] = None
greatest_of (x ∷ xs) = Some (fold int_max x xs)

-- the headway from a to b: the greatest over the places that both use, which may be negative; none where they share no
-- place
abbrev pub headway : CutRow → CutRow → Option ℤ
headway a b = greatest_of (map (headway_at a b) (shared_places a b))

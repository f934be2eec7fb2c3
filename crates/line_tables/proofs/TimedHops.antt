-- The hops of a run that are looked up first and timed then.
use Rattle.std.proofs.Common.{◌≡◌, ℕ, ◌+◌, ◌<◌, min, List, [], ◌∷◌, ◌++◌, map, length, take, get_or, refl, ap, ◌∙◌, arith}
use Rattle.std.specs.List.{zip}
use Rattle.std.proofs.lemmas.List.{take_more, length-map, get_or-map}
use Rattle.std.proofs.lemmas.Slice.Zip.{length-zip, get_or-zip}
use Rattle.rail_model.specs.declared.items.Leg.{Leg}
use Rattle.rail_model.specs.declared.items.Route.{Route}
use Rattle.rail_model.specs.declared.tables.Tables.{Tables}
use Rattle.rail_model.specs.declared.path.Hop.{Hop}
use Rattle.rail_model.specs.Blocking.{no_hop}
use Rattle.rail_model.specs.Tables.{signal_named, hop_beyond}
use Rattle.rail_model.specs.Within.{no_leg}
use Rattle.rail_model.proofs.Paths.{hops_in}
use Rattle.line_tables.specs.Hops.{with_leg, with_legs}

-- the hop beyond the signal of a name, before any run has timed it
abbrev pub untimed_hop : Tables → List ℕ → Hop
untimed_hop tables name = hop_beyond tables (signal_named tables name) no_leg

-- the hops of a route, one for each of its signals, before any run has timed them
abbrev pub route_hops : Tables → Route → List Hop
route_hops tables route = map (untimed_hop tables) route.signals

-- hops that are looked up first and timed then
pub looked_up_first : (tables : Tables) (names : List (List ℕ)) (legs : List Leg) → with_legs (map (untimed_hop tables) names) legs ≡ hops_in tables names legs
looked_up_first tables [] legs = refl
looked_up_first tables (n ∷ names) [] = refl
looked_up_first tables (n ∷ names) (leg ∷ legs) = ap (λ hops. hop_beyond tables (signal_named tables n) leg ∷ hops) (looked_up_first tables names legs)

-- one hop more that is timed
pub with_legs_more : (hops : List Hop) (legs : List Leg) (k : ℕ) → k < length hops → k < length legs → take (k + 1) (with_legs hops legs) ≡ take k (with_legs hops legs) ++ with_leg (get_or hops k no_hop) (get_or legs k no_leg) ∷ []
with_legs_more hops legs k here timed =
    let within : k < length (zip hops legs) = omega (arith, length-zip hops legs) in
    let f : Hop × Leg → Hop = λ p. with_leg p.0 p.1 in
    take_more (with_legs hops legs) k no_hop (omega (arith, length-map (zip hops legs) f))
    ∙ ap (λ h. take k (with_legs hops legs) ++ h ∷ [])
    (get_or-map f (zip hops legs) k (no_hop, no_leg) no_hop within ∙ ap f (get_or-zip hops legs k (no_hop, no_leg) here timed))

pub length-with_legs : (hops : List Hop) (legs : List Leg) → length (with_legs hops legs) ≡ min (length hops) (length legs)
length-with_legs hops legs = length-map (zip hops legs) (λ (p : Hop × Leg). with_leg p.0 p.1) ∙ length-zip hops legs

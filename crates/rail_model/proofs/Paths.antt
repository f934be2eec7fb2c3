-- The path of a run of sound tables fits.
use Rattle.std.proofs.Common.{◌≡◌, ◌≢◌, ℕ, zero, suc, ◌+◌, ◌-◌, ◌<◌, ◌≤◌, min, Bool, true, false, cond, not, ◌||◌, eqb, List, [], ◌∷◌, map, length, get_or, All, AllPairs, ap, sym, subst, ◌∙◌, arith}
use Rattle.std.specs.List.{zip, list_all, list_any, position_or_len}
use Rattle.std.specs.Str.{bytes_eq}
use Rattle.std.specs.Cmp.Lexicographic.{nat_list_eq_equiv}
use Rattle.std.proofs.lemmas.Bool.{eqb-true, not-true, not-false, or_parts, false≢true}
use Rattle.std.proofs.lemmas.List.{length-map, get_or-map}
use Rattle.std.proofs.lemmas.List.Sums.{AllPass-from_list_all, passes_at_first}
use Rattle.std.proofs.lemmas.Slice.Zip.{length-zip, get_or-zip}
use Rattle.rail_model.specs.declared.items.Block.{Block}
use Rattle.rail_model.specs.declared.items.Signal.{Signal}
use Rattle.rail_model.specs.declared.items.Route.{Route}
use Rattle.rail_model.specs.declared.items.Leg.{Leg}
use Rattle.rail_model.specs.declared.items.Run.{Run}
use Rattle.rail_model.specs.declared.items.Item.TheVariants as item
use Rattle.rail_model.specs.declared.tables.Tables.{Tables}
use Rattle.rail_model.specs.declared.path.Hop.{Hop}
use Rattle.rail_model.specs.declared.limits.TheConstants.{GREATEST_LENGTH_M}
use Rattle.rail_model.specs.Blocking.{no_hop, Fits, IsHopWithin}
use Rattle.rail_model.specs.Name.{has_repeat}
use Rattle.rail_model.specs.Tables.{block_number, block_named, signal_named, route_named, no_block, no_signal, no_route, no_run, run_at, hop_beyond, path_in}
use Rattle.rail_model.specs.Within.{is_leg_within, no_leg}
use Rattle.rail_model.specs.Rules.{has_block, has_signal, has_route, Stands, IsSound}
use Rattle.rail_model.proofs.Facts.{from_one, run_facts, signal_facts, leg_facts}
use Rattle.rail_model.proofs.Members.{none_passes}

-- ---- the hops of a run

-- the legs beyond the signals of these names, one for each signal
abbrev pub hops_in : Tables → List (List ℕ) → List Leg → List Hop
hops_in tables names legs = map (λ p. hop_beyond tables (signal_named tables p.0) p.1) (zip names legs)

-- the k-th hop, from 0
pub hop_in_at : (tables : Tables) (names : List (List ℕ)) (legs : List Leg) (k : ℕ) (d : Hop) → k < length names → k < length legs → get_or (hops_in tables names legs) k d ≡ hop_beyond tables (signal_named tables (get_or names k [])) (get_or legs k no_leg)
hop_in_at tables names legs k d named timed =
    let within : k < length (zip names legs) = omega (arith, length-zip names legs) in
    get_or-map (λ (p : List ℕ × Leg). hop_beyond tables (signal_named tables p.0) p.1) (zip names legs) k ([], no_leg) d within
    ∙ ap (λ (p : List ℕ × Leg). hop_beyond tables (signal_named tables p.0) p.1) (get_or-zip names legs k ([], no_leg) named timed)

pub length-hops_in : (tables : Tables) (names : List (List ℕ)) (legs : List Leg) → length (hops_in tables names legs) ≡ min (length names) (length legs)
length-hops_in tables names legs = length-map (zip names legs) (λ (p : List ℕ × Leg). hop_beyond tables (signal_named tables p.0) p.1) ∙ length-zip names legs

-- ---- names that differ have different numbers

one_less : (b rest : Bool) (at n : ℕ) → (b || rest) ≡ true → (rest ≡ true → at < n) → cond (not b) (1 + at) 0 < suc n
one_less true rest at n there more = omega arith
one_less false rest at n there more = omega (arith, more there)

-- the place of an item that passes, if one does
pub place_within : {X : Type 0} (p : X → Bool) (xs : List X) → list_any p xs ≡ true → position_or_len p xs < length xs
place_within p [] there = absurd (false≢true there)
place_within p (x ∷ xs) there = one_less (p x) (list_any p xs) (position_or_len p xs) (length xs) there (place_within p xs)

-- no name is the same as a later one
pub none_repeated : (names : List (List ℕ)) → has_repeat names ≡ false → (i j : ℕ) (d : List ℕ) → i < j → j < length names → bytes_eq (get_or names i d) (get_or names j d) ≡ false
none_repeated [] none i j d before below = absurd (omega arith)
none_repeated (a ∷ names) none zero zero d before below = absurd (omega arith)
none_repeated (a ∷ names) none zero (suc j) d before below =
    let both = or_parts (list_any (bytes_eq a) names) (has_repeat names) none in
    none_passes (bytes_eq a) names both.0 j d (omega arith)
none_repeated (a ∷ names) none (suc i) zero d before below = absurd (omega arith)
none_repeated (a ∷ names) none (suc i) (suc j) d before below =
    let both = or_parts (list_any (bytes_eq a) names) (has_repeat names) none in
    none_repeated names both.1 i j d (omega arith) (omega arith)

-- items at one number have one name
pub numbers_differ : (tables : Tables) (a b : List ℕ) → has_block tables a ≡ true → has_block tables b ≡ true → bytes_eq a b ≡ false → block_number tables a ≢ block_number tables b
numbers_differ tables a b at_a at_b differ same =
    let p : List ℕ → Block → Bool = λ n x. bytes_eq x.name n in
    let first : bytes_eq (block_named tables a).name a ≡ true = passes_at_first (p a) tables.blocks no_block (place_within (p a) tables.blocks at_a) in
    let second : bytes_eq (block_named tables b).name b ≡ true = passes_at_first (p b) tables.blocks no_block (place_within (p b) tables.blocks at_b) in
    let here : bytes_eq (block_named tables a).name b ≡ true = subst (λ k. bytes_eq (get_or tables.blocks k no_block).name b ≡ true) (sym same) second in
    false≢true (sym differ ∙ sym (nat_list_eq_equiv.congr (block_named tables a).name a b first) ∙ here)

-- ---- the path

-- a signal that is there stands
pub signal_stands : (tables : Tables) → IsSound tables → (n : List ℕ) → has_signal tables n ≡ true → Stands tables (item.Signal (signal_named tables n))
signal_stands tables sound n there =
    let p : Signal → Bool = λ x. bytes_eq x.name n in
    sound.signals.each (position_or_len p tables.signals) no_signal (place_within p tables.signals there)

-- so does a route
pub route_stands : (tables : Tables) → IsSound tables → (n : List ℕ) → has_route tables n ≡ true → Stands tables (item.Route (route_named tables n))
route_stands tables sound n there =
    let p : Route → Bool = λ x. bytes_eq x.name n in
    sound.routes.each (position_or_len p tables.routes) no_route (place_within p tables.routes there)

-- the numbers of a hop beyond a signal that is there are within the limits
pub hop_fits : (tables : Tables) → IsSound tables → (n : List ℕ) (leg : Leg) → has_signal tables n ≡ true → is_leg_within leg ≡ true → IsHopWithin (hop_beyond tables (signal_named tables n) leg)
hop_fits tables sound n leg there timed =
    let s = signal_named tables n in
    let stands = signal_stands tables sound n there in
    let numbers = signal_facts s stands.within in
    let p : Block → Bool = λ x. bytes_eq x.name s.block in
    let number = place_within p tables.blocks stands.known in
    let block = sound.blocks.each (position_or_len p tables.blocks) no_block number in
    let metres = from_one (block_named tables s.block).length_m GREATEST_LENGTH_M block.within in
    let times = leg_facts leg timed in
    record {
      block = omega (arith, number, sound.blocks.most);
      some_length = metres.0;
      most_length = metres.1;
      approach = numbers.approach;
      overlap = numbers.overlap;
      watch = numbers.watch;
      form = numbers.form;
      release = numbers.release;
      some_running = times.0;
      most_running = times.1;
      dwell = times.2;
    }

-- signals of different blocks have different numbers of blocks
pub hops_differ : (tables : Tables) → IsSound tables → (names : List (List ℕ)) (legs : List Leg) → list_all (has_signal tables) names ≡ true → has_repeat (map (λ n. (signal_named tables n).block) names) ≡ false → AllPairs (λ a b. a ≢ b) (map (λ (h : Hop). h.block) (hops_in tables names legs))
hops_differ tables sound names legs there none i j d before below =
    let f : List ℕ → List ℕ = λ n. (signal_named tables n).block in
    let blocks = length-map (hops_in tables names legs) (λ (h : Hop). h.block) in
    let count = length-hops_in tables names legs in
    let within : j < length (hops_in tables names legs) = omega (arith, blocks) in
    let named : j < length names = omega (arith, count) in
    let timed : j < length legs = omega (arith, count) in
    let number : (k : ℕ) → k ≤ j → get_or (map (λ (h : Hop). h.block) (hops_in tables names legs)) k d ≡ block_number tables (f (get_or names k [])) =
    λ k p. get_or-map (λ (h : Hop). h.block) (hops_in tables names legs) k no_hop d (omega arith)
    ∙ ap (λ (h : Hop). h.block) (hop_in_at tables names legs k no_hop (omega arith) (omega arith)) in
    let at : (k : ℕ) → k ≤ j → has_block tables (f (get_or names k [])) ≡ true =
    λ k p. (signal_stands tables sound (get_or names k []) (AllPass-from_list_all (has_signal tables) names there k [] (omega arith))).known in
    let name_at : (k : ℕ) → k ≤ j → get_or (map f names) k [] ≡ f (get_or names k []) = λ k p. get_or-map f names k [] [] (omega arith) in
    let mapped = length-map names f in
    let apart = none_repeated (map f names) none i j [] before (omega (arith, mapped)) in
    let first = name_at i (omega arith) in
    let second = name_at j (omega arith) in
    let differ : bytes_eq (f (get_or names i [])) (f (get_or names j [])) ≡ false = subst (λ b. bytes_eq (f (get_or names i [])) b ≡ false) second (subst (λ a. bytes_eq a (get_or (map f names) j []) ≡ false) first apart) in
    λ same. numbers_differ tables (f (get_or names i [])) (f (get_or names j [])) (at i (omega arith)) (at j (omega arith)) differ (sym (number i (omega arith)) ∙ same ∙ number j (omega arith))

-- the path of a run that stands fits
pub path_fits : (tables : Tables) → IsSound tables → (r : Run) → Stands tables (item.Run r) → Fits (path_in tables r)
path_fits tables sound r run =
    let route = route_stands tables sound r.route run.known in
    let names = (route_named tables r.route).signals in
    let hops = hops_in tables names r.legs in
    let facts = run_facts r run.within in
    let count : length r.legs ≡ length names = eqb-true (length r.legs) (length names) (not-false (eqb (length r.legs) (length names)) (not-true (not (eqb (length r.legs) (length names))) run.count)) in
    let whole : length hops ≡ length r.legs = omega (arith, length-hops_in tables names r.legs) in
    let last : length hops - 1 ≡ length r.legs - 1 = omega arith in
    record {
      some = omega (arith, facts.some);
      most = omega (arith, facts.most);
      blocks_differ = hops_differ tables sound names r.legs route.known (not-true (has_repeat (map (λ n. (signal_named tables n).block) names)) route.no_repeat);
      some_length = facts.some_length;
      most_length = facts.most_length;
      tail = facts.tail;
      start = facts.start;
      hops = λ k d below. subst IsHopWithin (sym (hop_in_at tables names r.legs k d (omega arith) (omega arith)))
          (hop_fits tables sound (get_or names k []) (get_or r.legs k no_leg) (AllPass-from_list_all (has_signal tables) names route.known k [] (omega arith)) (AllPass-from_list_all is_leg_within r.legs facts.legs k no_leg (omega arith)));
      last_dwell =
          ap (λ (h : Hop). h.dwell_s) (hop_in_at tables names r.legs (length hops - 1) no_hop (omega (arith, facts.some)) (omega (arith, facts.some)))
          ∙ ap (λ i. (get_or r.legs i no_leg).dwell_s) last ∙ facts.last;
    }

-- the block of each hop beyond signals that are there is one of the tables
pub hops_numbered : (tables : Tables) → IsSound tables → (names : List (List ℕ)) (legs : List Leg) → list_all (has_signal tables) names ≡ true → All (λ (h : Hop). h.block < length tables.blocks) (hops_in tables names legs)
hops_numbered tables sound names legs there k d below =
    let count = length-hops_in tables names legs in
    let n = get_or names k [] in
    let stands = signal_stands tables sound n (AllPass-from_list_all (has_signal tables) names there k [] (omega (arith, count))) in
    let p : Block → Bool = λ x. bytes_eq x.name (signal_named tables n).block in
    let IsThere : Hop → Type 0 = λ h. h.block < length tables.blocks in
    subst IsThere (sym (hop_in_at tables names legs k d (omega (arith, count)) (omega (arith, count)))) (place_within p tables.blocks stands.known)

-- the path of the run of a number fits, and its blocks are those of the tables
pub run_stands : (tables : Tables) → IsSound tables → (n : ℕ) → n < length tables.runs → Stands tables (item.Run (run_at tables n))
run_stands tables sound n below = sound.runs.each n no_run below

pub path_at_fits : (tables : Tables) → IsSound tables → (n : ℕ) → n < length tables.runs → Fits (path_in tables (run_at tables n))
path_at_fits tables sound n below = path_fits tables sound (run_at tables n) (run_stands tables sound n below)

pub path_at_numbered : (tables : Tables) → IsSound tables → (n : ℕ) → n < length tables.runs → All (λ (h : Hop). h.block < length tables.blocks) (path_in tables (run_at tables n)).hops
path_at_numbered tables sound n below =
    let r = run_at tables n in
    let route = route_stands tables sound r.route (run_stands tables sound n below).known in
    hops_numbered tables sound (route_named tables r.route).signals r.legs route.known
